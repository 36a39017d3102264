use Rattle.std.proofs.Common.{◌≡◌, ◌<◌, ◌*◌, ℕ, List, take}
use Rattle.std.specs.List.{flat_map}
use Rattle.wot_types.specs.declared.letter.Letter.{Letter}
use Rattle.wot_workers.specs.Pieces.{IsByPiece}
use Rattle.wot_print.specs.Counts.{counts_of}
use Rattle.wot_print.proofs.workers.count_of_pieces.Given as goal

-- those of the pieces so far
abbrev pub invariant-loop-counts : goal.invariant-loop-counts
invariant-loop-counts l = (letters : ℕ → List Letter) (size : ℕ) (ids : List ℕ) → IsByPiece (λ piece. counts_of (flat_map letters piece)) size ids l.found → 0 < size
    → l.all ≡ counts_of (flat_map letters (take (l.counts-index * size) ids))
