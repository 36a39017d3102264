use Rattle.std.proofs.Common.{◌≡◌, take}
use Rattle.std.specs.Prelude.{sum_by}
use Rattle.wot_spelling.specs.Sizes.{key_size}
use Rattle.wot_types.specs.Numbers.{capped}
use Rattle.wot_spelling.proofs.sizes.keys_size.Given as goal

abbrev pub invariant-loop-key : goal.invariant-loop-key
invariant-loop-key l = l.size ≡ capped (sum_by key_size (take l.key-index l.keys))
