-- What tells the letters of a key.
use Rattle.std.specs.Prelude.{◌≡◌, ℕ, Some}
use Rattle.std.specs.FinMap as map
use Rattle.std.specs.Option.{option_copied}
use Rattle.wot_types.specs.declared.key.Key.{Key}
use Rattle.wot_types.specs.Arrangement.{spot_of}
use Rattle.wot_types.specs.Candidates.{count_of}
use Rattle.wot_types.specs.Levels.{rows_of}
use Rattle.wot_types.specs.Selection.{Spot}
use Rattle.wot_live.specs.declared.letters.Letters.{Letters}
use Rattle.wot_live.specs.Counts.{count_on}

-- the row and the counts are those of this key in the state
pub record AreOfKey (letters : Letters) (k : ℕ × Key) : Type 0 where
  pub row : option_copied letters.row ≡ map.get (rows_of letters.state) k.0
  pub counts : (user : ℕ) (spot : Spot) → spot_of k.1 user ≡ Some spot → count_on letters.counts.now user ≡ count_of letters.state spot (rows_of letters.state)
