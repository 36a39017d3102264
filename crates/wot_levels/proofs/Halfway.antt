-- How far a walk has come that makes a map of rows: over the keys, and over the ownertrust.
use Rattle.std.specs.Prelude.{◌≡◌, ℕ, T, Bool, false, nat_le, if◌then◌else◌, All, List, Option, Some, None, is_some, option_and_then}
use Rattle.std.specs.FinMap as map
use Rattle.std.specs.FinMap.{find, is_sorted}
use Rattle.std.specs.Ordering.{nat_cmp}
use Rattle.wot_types.specs.declared.key.Key.{Key}
use Rattle.wot_types.specs.declared.ownertrust.Ownertrust.{Ownertrust}
use Rattle.wot_types.specs.declared.row.Row.{Row}
use Rattle.wot_types.specs.Candidates.{RowMap}
use Rattle.wot_types.specs.Fingerprint.{fpr_cmp}
use Rattle.wot_types.specs.Levels.{first_row}
use Rattle.wot_types.specs.State.{State}

-- the walk has passed this key
abbrev pub is_done : Option ℕ → ℕ → Bool
is_done None x = false
is_done (Some after) x = nat_le x after

-- these entries are left of a walk, and there is an entry for each key that was passed, if the rule gives it one
pub record WalksOn {X Y : Type 0} (rule : ℕ → X → Option Y) (keys : map.FinMap nat_cmp X) (left : List (ℕ × X)) (m : map.FinMap nat_cmp Y) : Type 0 where
  pub rising : T (is_sorted nat_cmp left)
  pub found : All (λ e. map.get keys e.0 ≡ Some e.1) left
  pub made : (x : ℕ) → map.get m x ≡ (if is_some (find nat_cmp x left) then None else option_and_then (rule x) (map.get keys x))

-- the row of a key, unless its fingerprint is among the entries that are left
abbrev pub row_unless_left : State → List (List ℕ × Ownertrust) → ℕ → Key → Option Row
row_unless_left s left id key = if is_some (find fpr_cmp key.fpr left) then None else first_row s id key

-- these entries are left of a walk over the ownertrust, and each key that isn't named by one of them has its row
pub record EntriesLeft (s : State) (left : List (List ℕ × Ownertrust)) (m : RowMap) : Type 0 where
  pub rising : T (is_sorted fpr_cmp left)
  pub found : (fpr : List ℕ) (kept : Ownertrust) → find fpr_cmp fpr left ≡ Some kept → map.get s.trusts fpr ≡ Some kept
  pub made : (x : ℕ) → map.get m x ≡ option_and_then (row_unless_left s left x) (map.get s.keys x)
