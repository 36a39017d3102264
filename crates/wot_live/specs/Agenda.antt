-- At which levels a listed key is to be looked at.
use Rattle.std.specs.Prelude.{◌≡◌, ◌≤◌, ◌⊎◌, ℕ, ◌+◌, ◌==◌, Bool, true, false, List, [], slice_get, if◌then◌else◌, Option, Some, None, unwrap_or}
use Rattle.std.specs.FinMap as map
use Rattle.wot_types.specs.declared.row.Row.{Row}
use Rattle.wot_types.specs.Candidates.{RowMap}
use Rattle.wot_types.specs.Explanation.{KeySet}
use Rattle.wot_types.specs.Indexes.{has_cert_by}
use Rattle.wot_types.specs.Keyring.{Keyring}
use Rattle.wot_live.specs.Recounting.{IsGrownBy, among, has_level}

-- the keys by the level at which they are due, from level 0 on, in the order in which they came, and some more than once
abbrev pub AgendaLists : Type 0
AgendaLists = List (List ℕ)

abbrev pub due_at : AgendaLists → ℕ → List ℕ
due_at agenda n = unwrap_or (slice_get agenda n) []

abbrev pub is_due : AgendaLists → ℕ → KeySet
is_due agenda n = among (due_at agenda n)

-- these keys are due at one level, and at each other those that were
abbrev pub HasAt : AgendaLists → ℕ → List ℕ → AgendaLists → Type 0
HasAt old n ids new = (m : ℕ) → due_at new m ≡ (if n == m then ids else due_at old m)

-- a row of the level before, by which a key may get one at this level
abbrev pub is_one_below : ℕ → Option Row → Bool
is_one_below n None = false
is_one_below n (Some row) = (row.level + 1) == n

-- at this level the key's row can't change: it is of another level, and so are the rows that count anew
pub record IsIdle (keys : Keyring) (rows : RowMap) (n id : ℕ) : Type 0 where
  pub late : 2 ≤ n
  pub own : has_level n (map.get rows id) ≡ false
  pub certifiers : (y : ℕ) → has_cert_by keys y id ≡ true → is_one_below n (map.get rows y) ≡ false

-- from a level on these keys are due wherever their rows may change
abbrev pub AreDue : Keyring → RowMap → ℕ → List ℕ → AgendaLists → Type 0
AreDue keys rows n ids agenda = (m x : ℕ) → n ≤ m → among ids x ≡ true → is_due agenda m x ≡ false → IsIdle keys rows m x

-- none but these keys is due
abbrev pub IsWithin : List ℕ → AgendaLists → Type 0
IsWithin ids agenda = (m x : ℕ) → is_due agenda m x ≡ true → among ids x ≡ true

-- some keys came onto the agenda at one level
pub record IsPutOff (set : KeySet) (n : ℕ) (old new : AgendaLists) : Type 0 where
  pub grown : IsGrownBy set (due_at old n) (due_at new n)
  pub others : (m : ℕ) → (n == m) ≡ false → due_at new m ≡ due_at old m

-- some keys came onto the agenda, at levels of which nothing is said
pub record HasMoreOf (ids : List ℕ) (old new : AgendaLists) : Type 0 where
  pub kept : (m x : ℕ) → is_due old m x ≡ true → is_due new m x ≡ true
  pub only : (m x : ℕ) → is_due new m x ≡ true → (is_due old m x ≡ true) ⊎ (among ids x ≡ true)
