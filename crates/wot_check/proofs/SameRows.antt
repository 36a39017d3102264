-- The test of two rows tells whether they are equal.
use Rattle.std.proofs.Common.{◌≡◌, ℕ, true, Option, Some, None, refl, ap, sym, ◌∙◌}
use Rattle.std.specs.Bool.{Decides}
use Rattle.std.specs.FinMap as finmap
use Rattle.wot_types.specs.declared.row.Row.{Row}
use Rattle.wot_types.specs.State.{State}
use Rattle.wot_types.specs.Candidates.{RowMap}
use Rattle.wot_types.specs.Touched.{is_same_standing}
use Rattle.wot_types.proofs.SameRows.{row_itself, same_standing}
use Rattle.wot_check.specs.Stored.{Stands, counted_row}
use Rattle.wot_check.specs.Comparison.{stands}

itself : (a : Option Row) → is_same_standing a a ≡ true
itself None = refl
itself (Some a) = row_itself a

pub rows_decided : (a b : Option Row) → Decides (is_same_standing a b) (a ≡ b)
rows_decided a b = (same_standing a b, λ same. ap (is_same_standing a) (sym same) ∙ itself a)

pub stands_decided : (s : State) (rows : RowMap) (id : ℕ) → Decides (stands s rows id) (Stands s rows id)
stands_decided s rows id = rows_decided (finmap.get rows id) (counted_row s rows id)
