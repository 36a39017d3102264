use Rattle.std.proofs.Common.{◌≡◌, ℕ, ◌&&◌, not, drop}
use Rattle.wot_index.specs.Indexed.{has, has_pair}
use Rattle.wot_index.proofs.index.Index.remove_all.Given as goal

abbrev pub invariant-loop-pair : goal.invariant-loop-pair
invariant-loop-pair l = (n id : ℕ)
    → (has l.self n id && not (has_pair n id (drop l.pair-index l.pairs))) ≡ (has l.fn.self n id && not (has_pair n id l.fn.pairs))
