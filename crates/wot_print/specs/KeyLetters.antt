-- The letters of the user IDs of some keys.
use Rattle.std.specs.Prelude.{ℕ, List, [], Option, Some, None}
use Rattle.std.specs.FinMap as finmap
use Rattle.std.specs.List.{flat_map}
use Rattle.wot_types.specs.declared.key.Key.{Key}
use Rattle.wot_types.specs.declared.letter.Letter.{Letter}
use Rattle.wot_types.specs.Candidates.{RowMap}
use Rattle.wot_types.specs.Letters.{user_letters}
use Rattle.wot_types.specs.State.{State}

abbrev pub letters_if : State → RowMap → ℕ → Option Key → List Letter
letters_if s rows id None = []
letters_if s rows id (Some key) = user_letters s rows id key

-- those of a key; none where it isn't there
abbrev pub letters_at : State → RowMap → ℕ → List Letter
letters_at s rows id = letters_if s rows id (finmap.get s.keys id)

abbrev pub letters_among : State → RowMap → List ℕ → List Letter
letters_among s rows ids = flat_map (letters_at s rows) ids
