-- A filter of key IDs, as a list of marks.
use Rattle.std.specs.Prelude.{◌≡◌, ℕ, ◌%◌, Bool, true, false, List, get_or}

-- the key ID's place is marked
abbrev pub Passes : List Bool → ℕ → Type 0
Passes marks id = get_or marks (id % 16384) false ≡ true
