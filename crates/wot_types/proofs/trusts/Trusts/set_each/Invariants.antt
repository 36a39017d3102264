use Rattle.std.proofs.Common.{◌≡◌, length, reverse}
use Rattle.wot_types.specs.Ownertrust.{with_entries}
use Rattle.wot_types.proofs.trusts.Trusts.set_each.Given as goal

abbrev pub invariant-loop-entry : goal.invariant-loop-entry
invariant-loop-entry l = with_entries l.trusts (reverse l.left.items) ≡ with_entries l.fn.self l.fn.entries

abbrev pub decreases-loop-entry : goal.decreases-loop-entry
decreases-loop-entry l = length l.left.items
