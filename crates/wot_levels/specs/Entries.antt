-- The rows of level 0, found by the entries of the ownertrust.
use Rattle.std.specs.Prelude.{ℕ, nat_eq, if◌then◌else◌, List, Option, None}
use Rattle.std.specs.Cmp.Lexicographic.{pointwise}
use Rattle.wot_types.specs.declared.key.Key.{Key}
use Rattle.wot_types.specs.declared.row.Row.{Row}
use Rattle.wot_types.specs.Levels.{first_row}
use Rattle.wot_types.specs.State.{State}

-- the row of a key, if it has this fingerprint
abbrev pub named_row : State → List ℕ → ℕ → Key → Option Row
named_row s fpr id key = if pointwise nat_eq key.fpr fpr then first_row s id key else None
