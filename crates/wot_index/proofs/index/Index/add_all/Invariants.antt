use Rattle.std.proofs.Common.{◌≡◌, ℕ, ◌||◌, length}
use Rattle.wot_index.specs.Indexed.{has, has_pair}
use Rattle.wot_index.proofs.index.Index.add_all.Given as goal

abbrev pub invariant-loop-self : goal.invariant-loop-self
invariant-loop-self l = (n id : ℕ) → (has l.self n id || has_pair n id l.left.items) ≡ (has l.fn.self n id || has_pair n id l.fn.pairs.items)

abbrev pub decreases-loop-self : goal.decreases-loop-self
decreases-loop-self l = length l.left.items
