-- Runs that an element has ended, apart from the one that none has.
use Rattle.std.specs.Prelude.{Bool, ◌&&◌, List, [], ◌∷◌, if◌then◌else◌}
use Rattle.std.specs.List.{list_any}
use Rattle.wot_types.specs.Runs.{Run, up_to}

module _ {X : Type 0} where
  abbrev pub ended_runs : (X → Bool) → (X → Bool) → List X → List (Run X)
  ended_runs begins ends [] = []
  ended_runs begins ends (x ∷ xs) = if begins x && list_any ends xs then record { first = x; rest = up_to ends xs } ∷ ended_runs begins ends xs else ended_runs begins ends xs
