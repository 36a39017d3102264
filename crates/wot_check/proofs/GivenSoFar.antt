-- The stored rows below a level are those given so far.
use Rattle.std.proofs.Common.{◌≡◌, ◌+◌, ◌<◌, ◌≤◌, zero, suc, ℕ, Option, Some, None, IfSome, option_and_then, refl, ap, ◌∙◌, arith}
use Rattle.std.specs.FinMap as finmap
use Rattle.wot_types.specs.declared.row.Row.{Row}
use Rattle.wot_types.specs.State.{State}
use Rattle.wot_types.specs.Candidates.{RowMap}
use Rattle.wot_types.specs.Levels.{kept_or, rows_upto}
use Rattle.wot_types.proofs.LevelLemmas.{get_first}
use Rattle.wot_levels.specs.Given.{given_row, if_below}
use Rattle.wot_levels.proofs.LevelCuts.{HasLevel, high_goes, level_given, low_stays}
use Rattle.wot_check.specs.Stored.{row_below}

abbrev pub IsUnder : ℕ → Option Row → Type 0
IsUnder n r = IfSome r (λ (row : Row). row.level < n)

kept_under : (n : ℕ) (a b : Option Row) → IsUnder n a → HasLevel n b → IsUnder (suc n) (kept_or a b)
kept_under n None None under level = tt
kept_under n None (Some row) under level = omega (arith, level)
kept_under n (Some row) b under level = omega (arith, under)

-- a row of a higher level is cut off again
cut_one : (n m : ℕ) (a b : Option Row) → n ≤ m → HasLevel m b → option_and_then (if_below n) (kept_or a b) ≡ option_and_then (if_below n) a
cut_one n m (Some row) b higher level = refl
cut_one n m None None higher level = refl
cut_one n m None (Some row) higher level = high_goes n (Some row) (omega (arith, level, higher))

module _ (s : State) (rows : RowMap) (id : ℕ) where
  pub row_under : (n : ℕ) → IsUnder n (row_below s rows id n)
  unfolding row_below
  row_under zero = tt
  row_under (suc n) = kept_under n (row_below s rows id n) (given_row s rows n id) (row_under n) (level_given s rows n id)

  pub cut : (more n m : ℕ) → more + n ≡ m → option_and_then (if_below n) (row_below s rows id m) ≡ row_below s rows id n
  unfolding row_below
  cut zero n m is =
      let same : m ≡ n = omega (arith, is) in
      ap (λ k. option_and_then (if_below n) (row_below s rows id k)) same ∙ low_stays n (row_below s rows id n) (row_under n)
  cut (suc more) n zero is = absurd (omega (arith, is))
  cut (suc more) n (suc m) is =
      cut_one n m (row_below s rows id m) (given_row s rows m id) (omega (arith, is)) (level_given s rows m id) ∙ cut more n m (omega (arith, is))

  pub first_at : finmap.get (rows_upto s 0) id ≡ row_below s rows id 1
  unfolding row_below
  first_at = get_first s id
