-- Reading the rows of an image.
use Rattle.std.specs.Prelude.{Bool, true, ◌&&◌, nat_lt, List, [], ◌∷◌}
use Rattle.std.specs.List.{list_all}
use Rattle.wot_types.specs.declared.format.Format.{Format}
use Rattle.wot_types.specs.declared.row.Row.{Row}
use Rattle.wot_spelling.specs.Checks.{is_kept_scope}
use Rattle.wot_spelling.specs.Reading.{Read, kept, list_at, row_at}

-- key IDs strictly rise
unfoldable pub are_rising_rows : List Row → Bool
are_rising_rows [] = true
are_rising_rows (row ∷ []) = true
are_rising_rows (row ∷ next ∷ rows) = nat_lt row.key next.key && are_rising_rows (next ∷ rows)

-- a regular expression has 1 to 255 bytes
unfoldable pub are_stored : List Row → Bool
are_stored rows = list_all (λ row. is_kept_scope row.scope) rows && are_rising_rows rows

-- rows that are stored in a format
unfoldable pub rows_at : Format → Read (List Row)
rows_at format = kept are_stored (list_at (row_at format))
