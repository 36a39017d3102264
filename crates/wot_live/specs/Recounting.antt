-- How the rows of a state become those of the state after an edit: level by level, and only of the keys that may have changed.
use Rattle.std.specs.Prelude.{◌≡◌, ◌≢◌, ◌⊎◌, ℕ, Bool, true, false, ◌==◌, ◌&&◌, nat_lt, List, [], ◌∷◌, ◌++◌, slice_get, option_to_list, if◌then◌else◌, Option, Some, None}
use Rattle.std.specs.FinMap as map
use Rattle.std.specs.List.{AllByRecursion}
use Rattle.std.specs.Option.{option_map_or}
use Rattle.wot_types.specs.declared.key.Key.{Key}
use Rattle.wot_types.specs.declared.row.Row.{Row}
use Rattle.wot_types.specs.State.{State}
use Rattle.wot_types.specs.Candidates.{RowMap, chain}
use Rattle.wot_types.specs.Expiry.{is_expired}
use Rattle.wot_types.specs.Explanation.{KeySet}
use Rattle.wot_types.specs.Levels.{rows_of, trust_of_owner}
use Rattle.wot_types.specs.NextCheck.{key_expiries}
use Rattle.wot_types.specs.Indexes.{has_cert_by}
use Rattle.wot_types.specs.Keyring.{Keyring, fpr_at}
use Rattle.wot_types.specs.Touched.{is_touched}
pub use Rattle.wot_levels.specs.Frontier.{among}
use Rattle.wot_levels.specs.Given.{given_row}

-- a key that both states have alike: as far as the key itself tells, it has the same row in both
pub record IsAlike (s t : State) (id : ℕ) : Type 0 where
  pub key : map.get s.keys id ≡ map.get t.keys id
  pub own : (key : Key) → map.get t.keys id ≡ Some key → trust_of_owner s key ≡ trust_of_owner t key
  pub dates : (key : Key) → map.get t.keys id ≡ Some key → AllByRecursion (λ e. is_expired e s.date ≡ is_expired e t.date) (key_expiries key)

-- a key that has one of these rows, and is in both keyrings, has the same fingerprint in both
abbrev pub IntroducersStay : RowMap → Keyring → Keyring → Type 0
IntroducersStay kept keys more = (y : ℕ) → map.contains_key kept y ≡ true → map.contains_key more y ≡ true → fpr_at keys y ≡ fpr_at more y

-- the rows of one state, and the keys to be recounted for the other: all others are alike, and introducers are who they were
pub record IsBegun (s t : State) (kept : RowMap) (todo : List ℕ) : Type 0 where
  pub options : s.options ≡ t.options
  pub rows : kept ≡ rows_of s
  pub alike : (id : ℕ) → among todo id ≡ false → IsAlike s t id
  pub fprs : IntroducersStay kept s.keys t.keys

abbrev pub kept_above : ℕ → Row → Option Row → Option Row
kept_above n old None = if old.level == n then None else Some old
kept_above n old (Some new) = Some new

-- a kept row after the recount of a level: one of a lower level stays, one of a higher level is left for later, and one of this level goes where it isn't given again
abbrev pub recounted : ℕ → Option Row → Option Row → Option Row
recounted n None new = new
recounted n (Some old) new = if nat_lt old.level n then Some old else kept_above n old new

-- one of these keys delegated to the introducer with this row
abbrev pub is_via_of : List ℕ → Row → Bool
is_via_of moved row = option_map_or (among moved) row.via false

-- a row of this level whose chain changed above it
abbrev pub is_carried : List ℕ → ℕ → Option Row → Bool
is_carried moved n None = false
is_carried moved n (Some row) = (row.level == n) && is_via_of moved row

-- From some kept rows, keys to be recounted and keys whose chains changed at this level to others, by the recount of some keys.
-- The keys whose chains changed at lower levels are given.
pub record IsRecounted (t : State) (n : ℕ) (moved ids : List ℕ) (old : RowMap) (todo fresh : List ℕ) (new : RowMap) (more after : List ℕ) : Type 0 where
  pub counted : (x : ℕ) → among ids x ≡ true → map.get new x ≡ recounted n (map.get old x) (given_row t old n x)
  pub others : (x : ℕ) → among ids x ≡ false → map.get new x ≡ map.get old x
  pub longer : (added : List ℕ) × (more ≡ todo ++ added)
  pub stays : (y : ℕ) → among after y ≡ false → (among fresh y ≡ false) × (map.get new y ≡ map.get old y) × (among ids y ≡ true → is_carried moved n (map.get new y) ≡ false)
  pub moves : (y : ℕ) → among after y ≡ true → (among fresh y ≡ true) ⊎ ((map.get new y ≢ map.get old y) ⊎ (is_carried moved n (map.get new y) ≡ true))
  pub reach : (y : ℕ) → among after y ≡ true → (among fresh y ≡ true) ⊎ ((x : ℕ) → has_cert_by t.keys y x ≡ true → among more x ≡ true)
  pub only : (x : ℕ) → among more x ≡ true → (among todo x ≡ true) ⊎ ((y : ℕ) × (among after y ≡ true) × (has_cert_by t.keys y x ≡ true))

abbrev pub IsTouchedList : KeySet → State → State → List ℕ → Type 0
IsTouchedList names s t todo = (x : ℕ) → among todo x ≡ true → is_touched names s t x ≡ true

-- the rows are those of the new state, and the certifiers of a key that wasn't recounted have the same chains in both
pub record IsCounted (s t : State) (start : List ℕ) (kept : RowMap) (todo : List ℕ) : Type 0 where
  pub rows : kept ≡ rows_of t
  pub longer : (x : ℕ) → among todo x ≡ false → among start x ≡ false
  pub alike : (x y : ℕ) → among todo x ≡ false → has_cert_by t.keys y x ≡ true → chain (rows_of s) y ≡ chain (rows_of t) y

-- ---- the list of keys to be recounted

abbrev pub with_id : List ℕ → ℕ → List ℕ
with_id ids id = if among ids id then ids else ids ++ id ∷ []

-- the keys of a set came in behind those that were there
pub record IsGrownBy (set : KeySet) (old new : List ℕ) : Type 0 where
  pub longer : (added : List ℕ) × (new ≡ old ++ added)
  pub all : (x : ℕ) → set x ≡ true → among new x ≡ true
  pub only : (x : ℕ) → among new x ≡ true → (among old x ≡ true) ⊎ (set x ≡ true)

-- where the list is whole each key of the keyring is there
abbrev pub IsWhole : Keyring → Bool → List ℕ → Type 0
IsWhole keys whole todo = whole ≡ true → (x : ℕ) → map.contains_key keys x ≡ true → among todo x ≡ true

-- ---- one row

abbrev pub is_lower : ℕ → Option Row → Bool
is_lower n None = false
is_lower n (Some row) = nat_lt row.level n

abbrev pub has_level : ℕ → Option Row → Bool
has_level n None = false
has_level n (Some row) = row.level == n

-- the key at this place, if there is one
abbrev pub ids_at : List ℕ → ℕ → List ℕ
ids_at ids i = option_to_list (slice_get ids i)
