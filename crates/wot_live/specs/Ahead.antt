-- Maps that are walked beside keys which rise.
use Rattle.std.specs.Prelude.{◌≡◌, ◌≤◌, ℕ, T, List, [], ◌∷◌, Option, Some, None, refl}
use Rattle.std.specs.Borrow.{Bor}
use Rattle.std.specs.Coded.{Coded, code_by, coded×, coded_ℕ}
use Rattle.std.specs.FinMap as map
use Rattle.std.specs.FinMap.{FinMap, find, is_sorted}
use Rattle.std.specs.Ordering.{nat_cmp}
use Rattle.wot_types.specs.State.{State}
use Rattle.wot_types.specs.StateCode.{state_code}
use Rattle.wot_types.specs.declared.count.Count.{Count}
use Rattle.wot_types.specs.declared.row.Row.{Row}
use Rattle.wot_types.specs.Levels.{rows_of}
use Rattle.wot_live.specs.Counts.{counts_of}

-- the entry at hand, and those behind it; where none is at hand, none is left
abbrev pub entries_left : {X : Type 0} → Option (Bor ℕ × Bor X) → List (ℕ × X) → List (ℕ × X)
entries_left None left = []
entries_left (Some e) left = (e.0.now, e.1.now) ∷ left

-- no entry is of a lower key
abbrev pub IsFrom : {X : Type 0} → ℕ → List (ℕ × X) → Type 0
IsFrom id [] = Unit {0}
IsFrom id (e ∷ left) = id ≤ e.0

-- what the map has from this key on is among the entries that are left
pub record IsAhead {X : Type 0} (m : FinMap nat_cmp X) (from : ℕ) (left : List (ℕ × X)) : Type 0 where
  pub rising : T (is_sorted nat_cmp left)
  pub found : (k : ℕ) → from ≤ k → find nat_cmp k left ≡ map.get m k

-- what tells the letters of the keys of a state from one key ID on
pub record LettersFrom : Type 0 where
  pub state : State
  pub from : ℕ

abbrev pub letters_code : Coded LettersFrom
letters_code = code_by (State × ℕ) (coded× state_code coded_ℕ) (λ l. (l.state, l.from)) (λ p. record { state = p.0; from = p.1 }) (λ _. refl)

-- the rows and counts of a state from this key ID on are among those that are left
pub record AreAhead (s : State) (from : ℕ) (rows_left : List (ℕ × Row)) (counts_left : List (ℕ × List Count)) : Type 0 where
  pub rows : IsAhead (rows_of s) from rows_left
  pub counts : IsAhead (counts_of s) from counts_left
