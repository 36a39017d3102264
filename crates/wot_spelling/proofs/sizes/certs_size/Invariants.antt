use Rattle.std.proofs.Common.{◌≡◌, take}
use Rattle.std.specs.Prelude.{sum_by}
use Rattle.wot_spelling.specs.Sizes.{cert_size}
use Rattle.wot_types.specs.Numbers.{capped}
use Rattle.wot_spelling.proofs.sizes.certs_size.Given as goal

abbrev pub invariant-loop-cert : goal.invariant-loop-cert
invariant-loop-cert l = l.size ≡ capped (sum_by cert_size (take l.cert-index l.certs))
