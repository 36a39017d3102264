use Rattle.std.proofs.Common.{◌≡◌, ℕ, ◌||◌, drop}
use Rattle.wot_index.specs.Indexed.{every_other, has, has_pair}
use Rattle.wot_index.proofs.index.Index.add_every_other.Given as goal

abbrev pub invariant-loop-pair : goal.invariant-loop-pair
invariant-loop-pair l = (n id : ℕ)
    → (has l.self n id || has_pair n id (every_other l.taken (drop l.pair-index l.pairs))) ≡ (has l.fn.self n id || has_pair n id (every_other l.fn.first l.fn.pairs))
