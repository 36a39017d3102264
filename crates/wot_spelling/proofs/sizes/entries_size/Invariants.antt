use Rattle.std.proofs.Common.{◌≡◌, take}
use Rattle.std.specs.Prelude.{sum_by}
use Rattle.wot_spelling.specs.Sizes.{entry_size}
use Rattle.wot_types.specs.Numbers.{capped}
use Rattle.wot_spelling.proofs.sizes.entries_size.Given as goal

abbrev pub invariant-loop-entry : goal.invariant-loop-entry
invariant-loop-entry l = l.size ≡ capped (sum_by entry_size (take l.entry-index l.entries))
