-- How a key's stored row is told to be the one counted: by two levels alone.
use Rattle.std.proofs.Common.{◌≡◌, ◌+◌, ◌-◌, ◌≤◌, ◌<◌, ◌||◌, zero, suc, ℕ, Bool, true, false, cond, nat_lt, Option, Some, None, is_some, option_map, option_and_then, refl, sym, ap, subst, ◌∙◌, arith}
use Rattle.std.specs.FinMap as finmap
use Rattle.std.proofs.lemmas.Bool.Decides.{nat_tests}
use Rattle.wot_types.specs.declared.row.Row.{Row}
use Rattle.wot_types.specs.State.{State}
use Rattle.wot_types.specs.Candidates.{RowMap}
use Rattle.wot_types.specs.Levels.{kept_or}
use Rattle.wot_types.proofs.Optionals.{there_is}
use Rattle.wot_levels.specs.Given.{given_row, if_below}
use Rattle.wot_levels.specs.Standings.{standing_row}
use Rattle.wot_levels.specs.declared.standing.Standing.{Standing}
use Rattle.wot_check.specs.Stored.{Stands, row_below}
use Rattle.wot_check.proofs.Higher.{given_again}
use Rattle.wot_levels.proofs.LevelCuts.{given_later}
use Rattle.wot_check.proofs.GivenSoFar.{IsUnder, cut, row_under}

kept_found : (a b : Option Row) → is_some (kept_or a b) ≡ (is_some a || is_some b)
kept_found None b = refl
kept_found (Some row) b = refl

absorbed : (a b c : Bool) → (b ≡ true → (a || c) ≡ true) → (a || (b || c)) ≡ (a || c)
absorbed true b c f = refl
absorbed false true c f = sym (f refl)
absorbed false false c f = refl

same_twice : (a : Bool) → a ≡ (a || a)
same_twice true = refl
same_twice false = refl

module _ (s : State) (rows : RowMap) (id : ℕ) where
  abbrev is_given : ℕ → Bool
  is_given n = is_some (given_row s rows n id)

  given_higher : (n : ℕ) → is_given n ≡ true → (is_given 0 || is_given (suc n)) ≡ true
  given_higher zero is = ap (λ b. b || is_given 1) is
  given_higher (suc n) is =
      or_true (is_given 0) (is_given (suc (suc n)))
      (ap is_some (given_later s rows (suc n) id) ∙ given_again (suc n) (suc (suc n)) (omega arith) s rows id (ap is_some (sym (given_later s rows n id)) ∙ is))
    where
      or_true : (a b : Bool) → b ≡ true → (a || b) ≡ true
      or_true true b is = refl
      or_true false b is = is

  -- a key that is given a row at some level is given one at level 0 or at the highest
  pub found_below : (n : ℕ) → is_some (row_below s rows id (suc n)) ≡ (is_given 0 || is_given n)
  unfolding row_below
  found_below zero = same_twice (is_given 0)
  found_below (suc n) =
      kept_found (row_below s rows id (suc n)) (given_row s rows (suc n) id)
      ∙ ap (λ b. b || is_given (suc n)) (found_below n)
      ∙ or_regrouped (is_given 0) (is_given n) (is_given (suc n))
      ∙ absorbed (is_given 0) (is_given n) (is_given (suc n)) (given_higher n)
    where
      or_regrouped : (a b c : Bool) → ((a || b) || c) ≡ (a || (b || c))
      or_regrouped true b c = refl
      or_regrouped false b c = refl

  pub given_by_two : (bound : ℕ) → 1 ≤ bound → is_some (row_below s rows id bound) ≡ (is_given 0 || is_given (bound - 1))
  given_by_two bound some =
      let same : bound ≡ suc (bound - 1) = omega (arith, some) in
      ap (λ n. is_some (row_below s rows id n)) same ∙ found_below (bound - 1)

  found_stays : (row : Row) (n more m : ℕ) → more + n ≡ m → row_below s rows id n ≡ Some row → row_below s rows id m ≡ Some row
  unfolding row_below
  found_stays row n zero m is found =
      let same : m ≡ n = omega (arith, is) in
      ap (row_below s rows id) same ∙ found
  found_stays row n (suc more) zero is found = absurd (omega (arith, is))
  found_stays row n (suc more) (suc m) is found = ap (λ r. kept_or r (given_row s rows m id)) (found_stays row n more m (omega (arith, is)) found)

  none_of : (r : Option Row) → is_some r ≡ false → r ≡ None
  none_of None is = refl
  none_of (Some row) is = cc

  first_found : (n : ℕ) → row_below s rows id n ≡ None → given_row s rows n id ≡ row_below s rows id (suc n)
  unfolding row_below
  first_found n none = sym (ap (λ r. kept_or r (given_row s rows n id)) none)

  -- ---- level by level

  pub none_yet : (n : ℕ) → row_below s rows id n ≡ None → is_some (given_row s rows n id) ≡ false → row_below s rows id (n + 1) ≡ None
  none_yet n none not_given =
      let next : n + 1 ≡ suc n = omega arith in
      ap (row_below s rows id) next ∙ sym (first_found n none) ∙ none_of (given_row s rows n id) not_given

  pub first_one : (n bound : ℕ) (found : Option Row) → row_below s rows id n ≡ None → n < bound → found ≡ given_row s rows n id → is_some found ≡ true → found ≡ row_below s rows id bound
  first_one n bound found none within given there =
      let row = there_is found there in
      row.1 ∙ sym (found_stays row.0 (suc n) (bound - suc n) bound (omega (arith, within)) (sym (first_found n none) ∙ sym given ∙ row.1))

  -- ---- a stored row

  at_bound : (row : Row) → option_and_then (if_below row.level) (Some row) ≡ None
  at_bound row =
      let not_under : nat_lt row.level row.level ≡ false = grind (arith, nat_tests) in
      ap (λ b. cond b (Some row) None) not_under

  under_bound : (row : Row) → option_and_then (if_below (suc row.level)) (Some row) ≡ Some row
  under_bound row =
      let under : nat_lt row.level (suc row.level) ≡ true = grind (arith, nat_tests) in
      ap (λ b. cond b (Some row) None) under

  module _ (row : Row) (stored : finmap.get rows id ≡ Some row) where
    -- a stored row stands where no level below its own gives one, and its own gives it
    pub stands_at : row.level < s.options.depth → is_some (row_below s rows id row.level) ≡ false → given_row s rows row.level id ≡ Some row → Stands s rows id
    stands_at within none given =
        stored ∙ sym (found_stays row (suc row.level) (s.options.depth - suc row.level) s.options.depth (omega (arith, within)) (sym (first_found row.level (none_of _ none)) ∙ given))

    module _ (stands : Stands s rows id) where
      counted : row_below s rows id s.options.depth ≡ Some row
      counted = sym stands ∙ stored

      pub level_within : row.level < s.options.depth
      level_within = subst (IsUnder s.options.depth) counted (row_under s rows id s.options.depth)

      none_under : row_below s rows id row.level ≡ None
      none_under =
          sym (cut s rows id (s.options.depth - row.level) row.level s.options.depth (omega (arith, level_within)))
          ∙ ap (option_and_then (if_below row.level)) counted ∙ at_bound row

      pub none_lower : is_some (row_below s rows id row.level) ≡ false
      none_lower = ap is_some none_under

      pub given_there : given_row s rows row.level id ≡ Some row
      given_there =
          first_found row.level none_under
          ∙ sym (cut s rows id (s.options.depth - suc row.level) (suc row.level) s.options.depth (omega (arith, level_within)))
          ∙ ap (option_and_then (if_below (suc row.level))) counted ∙ under_bound row

-- a standing is told wherever a row is given
pub standing_told : (id level : ℕ) (standing : Option Standing) → is_some (option_map (standing_row id level) standing) ≡ is_some standing
standing_told id level None = refl
standing_told id level (Some standing) = refl
