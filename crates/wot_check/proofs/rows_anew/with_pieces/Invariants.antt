use Rattle.std.proofs.Common.{ℕ, ◌<◌, List, length}
use Rattle.wot_types.specs.declared.row.Row.{Row}
use Rattle.wot_check.specs.Recount.{IsFoundByPiece, IsSpread}
use Rattle.wot_check.proofs.Backwards.{AreLeft}
use Rattle.wot_check.proofs.rows_anew.with_pieces.Given as goal

abbrev pub invariant-loop-piece : goal.invariant-loop-piece
invariant-loop-piece l = (make : List ℕ → List Row) (size : ℕ) (ids : List ℕ) → IsFoundByPiece make size ids l.fn.pieces.items → IsSpread make → 0 < size → AreLeft make size ids l.fn.rows l.left.items l.rows

abbrev pub decreases-loop-piece : goal.decreases-loop-piece
decreases-loop-piece l = length l.left.items
