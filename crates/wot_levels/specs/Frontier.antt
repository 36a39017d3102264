-- One level of rows, made of those below it by a look at some keys.
use Rattle.std.specs.Prelude.{◌≡◌, ◌⊎◌, ℕ, suc, true, ◌==◌, List, sum_by, Option}
use Rattle.std.specs.FinMap as map
use Rattle.std.specs.List.{Contains, list_any}
use Rattle.wot_types.specs.declared.row.Row.{Row}
use Rattle.wot_types.specs.State.{State}
use Rattle.wot_types.specs.Candidates.{RowMap}
use Rattle.wot_types.specs.Explanation.{KeySet}
use Rattle.wot_types.specs.Indexes.{has_cert_by}
use Rattle.wot_types.specs.Keyring.{Keyring, certs_at}
use Rattle.wot_types.specs.Levels.{kept_or, rows_upto}
use Rattle.wot_levels.specs.Given.{given_row}

-- the keys of a list
abbrev pub among : List ℕ → KeySet
among ids y = list_any (λ id. id == y) ids

-- the certifications on some keys
abbrev pub weight : Keyring → List ℕ → ℕ
weight keys ids = sum_by (certs_at keys) ids

-- each key certified by one with a row is among these
abbrev pub AreCertified : Keyring → RowMap → List ℕ → Type 0
AreCertified keys rows ids = (y x : ℕ) → map.contains_key rows y ≡ true → has_cert_by keys y x ≡ true → Contains ids x

-- the row of a key once a level is counted: a row of a lower level stays
abbrev pub row_after : State → ℕ → RowMap → ℕ → Option Row
row_after s n rows x = kept_or (map.get rows x) (given_row s rows n x)

-- some keys were looked at, and whom the keys with a new row certified came in behind those that were there
pub record IsLookedAt (s : State) (n : ℕ) (ids : List ℕ) (old : RowMap) (before : List ℕ) (new : RowMap) (next : List ℕ) : Type 0 where
  pub made : (x : ℕ) → Contains ids x → map.get new x ≡ row_after s n old x
  pub either : (x : ℕ) → (map.get new x ≡ map.get old x) ⊎ (map.get new x ≡ row_after s n old x)
  pub reach : (x y : ℕ) → has_cert_by s.keys y x ≡ true → (map.get new y ≡ map.get old y) ⊎ Contains next x
  pub kept : (x : ℕ) → Contains before x → Contains next x

-- the rows of levels up to one, and the keys of which alone one may get a row at the next
pub record IsReached (s : State) (n : ℕ) (rows : RowMap) (next : List ℕ) : Type 0 where
  pub right : rows ≡ rows_upto s n
  pub others : (x : ℕ) → Contains next x ⊎ (map.get (rows_upto s (suc n)) x ≡ map.get (rows_upto s n) x)
