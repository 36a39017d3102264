use Rattle.std.proofs.Common.{◌≡◌, take}
use Rattle.wot_types.specs.Keyring.{user_certs}
use Rattle.wot_types.specs.Numbers.{capped}
use Rattle.wot_types.proofs.key.Key.cert_count.Given as goal

abbrev pub invariant-loop-user : goal.invariant-loop-user
invariant-loop-user l = l.count ≡ capped (user_certs (take l.user-index l.self.users))
