use Rattle.std.proofs.Common.{◌≡◌, take}
use Rattle.std.specs.Prelude.{sum_by}
use Rattle.wot_spelling.specs.Sizes.{user_size}
use Rattle.wot_types.specs.Numbers.{capped}
use Rattle.wot_spelling.proofs.sizes.users_size.Given as goal

abbrev pub invariant-loop-user : goal.invariant-loop-user
invariant-loop-user l = l.size ≡ capped (sum_by user_size (take l.user-index l.users))
