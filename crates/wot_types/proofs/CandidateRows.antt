-- The candidates for a user ID with their rows.
use Rattle.std.specs.FinMap as map
use Rattle.wot_types.specs.Candidates.{RowMap}
use Rattle.wot_types.specs.Explanation.{are_candidates}
use Rattle.wot_types.specs.Selection.{Spot}
use Rattle.wot_types.specs.State.{State}

abbrev pub candidate_rows : State → RowMap → Spot → RowMap
candidate_rows s rows spot = map.retain_keys rows (are_candidates s rows spot)
