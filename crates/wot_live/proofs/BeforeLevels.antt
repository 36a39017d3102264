-- What holds before a level of a recount.
use Rattle.std.specs.Prelude.{◌≡◌, ◌≢◌, ℕ, zero, suc, true, false, List, Option, option_and_then}
use Rattle.std.specs.FinMap as map
use Rattle.wot_types.specs.declared.row.Row.{Row}
use Rattle.wot_types.specs.State.{State}
use Rattle.wot_types.specs.Candidates.{RowMap, chain}
use Rattle.wot_types.specs.Levels.{rows_of, rows_upto}
use Rattle.wot_types.specs.Indexes.{has_cert_by}
use Rattle.wot_levels.specs.Frontier.{among}
use Rattle.wot_levels.specs.Given.{if_below}

-- the rows of the levels below this one
abbrev pub rows_before : State → ℕ → RowMap
rows_before s zero = map.empty
rows_before s (suc n) = rows_upto s n

abbrev pub row_below : ℕ → Option Row → Option Row
row_below n row = option_and_then (if_below n) row

-- Before a level: the kept rows of lower levels are those of the new state, and a key that isn't to be recounted has its old row.
-- The keys whose chains changed so far are told, and whom they certified is to be recounted.
pub record IsStage (s t : State) (n : ℕ) (rows : RowMap) (todo moved : List ℕ) : Type 0 where
  pub below : (x : ℕ) → row_below n (map.get rows x) ≡ map.get (rows_before t n) x
  pub kept : (x : ℕ) → among todo x ≡ false → map.get rows x ≡ map.get (rows_of s) x
  pub old : (y : ℕ) → among moved y ≡ false → map.get rows y ≡ map.get (rows_of s) y
  pub alike : (y : ℕ) → among moved y ≡ false → chain (rows_before s n) y ≡ chain (rows_before t n) y
  pub apart : (y : ℕ) → among moved y ≡ true → chain (rows_before s n) y ≢ chain (rows_before t n) y
  pub reach : (x y : ℕ) → among todo x ≡ false → has_cert_by t.keys y x ≡ true → among moved y ≡ false
