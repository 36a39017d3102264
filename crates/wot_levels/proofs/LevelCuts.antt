-- The rows of the levels up to one, among those of a later level.
use Rattle.std.proofs.Common.{◌≡◌, ◌+◌, ◌-◌, ◌<◌, ◌≤◌, ◌==◌, zero, suc, ℕ, Bool, true, false, cond, Option, Some, None, IfSome, option_and_then, refl, sym, ap, subst, ◌∙◌, arith}
use Rattle.std.proofs.lemmas.Bool.Decides.{nat_tests}
use Rattle.std.specs.FinMap as finmap
use Rattle.wot_types.specs.declared.key.Key.{Key}
use Rattle.wot_types.specs.declared.row.Row.{Row}
use Rattle.wot_types.specs.State.{State}
use Rattle.wot_types.specs.Candidates.{RowMap, chain}
use Rattle.wot_types.specs.Levels.{delegation, first_row, kept_or, new_row, rows_upto, trust_of_owner}
pub use Rattle.wot_types.proofs.Chains.{high_goes, low_stays, lower_part}
use Rattle.wot_types.proofs.Chains.{lower_chain}
use Rattle.wot_types.proofs.LevelLemmas.{get_next, level_le, no_key, row_by_level}
use Rattle.wot_types.proofs.MapBy.{get-map_by}
use Rattle.wot_levels.specs.Given.{given_row, if_below, row_at_level, rows_below}

-- ---- a row that may be missing, by its level

abbrev pub HasLevel : ℕ → Option Row → Type 0
HasLevel n r = IfSome r (λ (row : Row). row.level ≡ n)

pub get_below : (n : ℕ) (rows : RowMap) (id : ℕ) → finmap.get (rows_below n rows) id ≡ option_and_then (if_below n) (finmap.get rows id)
get_below n rows id = get-map_by (λ _ row. if_below n row) rows id

level_if : (n : ℕ) (b : Bool) (row : Row) → row.level ≡ n → HasLevel n (cond b (Some row) None)
level_if n true row is = is
level_if n false row is = tt

-- a row of a later level is cut off again
pub cut_one : (n m : ℕ) (a b : Option Row) → n ≤ m → HasLevel m b → option_and_then (if_below n) (kept_or a b) ≡ option_and_then (if_below n) a
cut_one n m (Some row) b higher level = refl
cut_one n m None None higher level = refl
cut_one n m None (Some row) higher level = high_goes n (Some row) (omega (arith, level, higher))

module _ (s : State) where
  -- ---- a row that is given at a level has that level

  pub level_at : (rows : RowMap) (n id : ℕ) (key : Key) → HasLevel n (row_at_level s rows n id key)
  level_at rows n id key = elim (n == 0) as (λ b. (n == 0) ≡ b → HasLevel n (cond b (first_row s id key) (new_row s (rows_below n rows) n id key))) [
    | true ↦ λ is.
        let none : 0 ≡ n = grind (arith, nat_tests, is) in
        level_if n _ _ none
    | false ↦ λ is. level_if n _ _ (row_by_level (rows_below n rows) id n (trust_of_owner s key) (delegation s (rows_below n rows) key))
  ] refl

  pub level_given : (rows : RowMap) (n id : ℕ) → HasLevel n (given_row s rows n id)
  level_given rows n id = elim (finmap.get s.keys id) as (λ k. HasLevel n (option_and_then (row_at_level s rows n id) k)) [
    | None ↦ tt
    | Some key ↦ level_at rows n id key
  ]

  -- at a later level the rows below it decide
  pub given_later : (rows : RowMap) (n id : ℕ) → given_row s rows (suc n) id ≡ option_and_then (new_row s (rows_below (suc n) rows) (suc n) id) (finmap.get s.keys id)
  given_later rows n id =
      let later : (suc n == 0) ≡ false = grind (arith, nat_tests) in
      elim (finmap.get s.keys id) as (λ k. option_and_then (row_at_level s rows (suc n) id) k ≡ option_and_then (new_row s (rows_below (suc n) rows) (suc n) id) k) [
        | None ↦ refl
        | Some key ↦ ap (λ b. cond b (first_row s id key) (new_row s (rows_below (suc n) rows) (suc n) id key)) later
      ]

  -- ---- rows of the state, level by level

  pub next_at : (n id : ℕ) → finmap.get (rows_upto s (suc n)) id ≡ kept_or (finmap.get (rows_upto s n) id) (option_and_then (new_row s (rows_upto s n) (suc n) id) (finmap.get s.keys id))
  next_at n id =
      get_next s n id
      ∙ elim (finmap.get s.keys id) as (λ k. finmap.get s.keys id ≡ k
      → option_and_then (λ key. kept_or (finmap.get (rows_upto s n) id) (new_row s (rows_upto s n) (suc n) id key)) k ≡ kept_or (finmap.get (rows_upto s n) id) (option_and_then (new_row s (rows_upto s n) (suc n) id) k)) [
        | None ↦ λ none. ap (λ r. kept_or r None) (sym (no_key s n id none))
        | Some key ↦ λ _. refl
      ] refl

  new_level : (n id : ℕ) → HasLevel (suc n) (option_and_then (new_row s (rows_upto s n) (suc n) id) (finmap.get s.keys id))
  new_level n id = elim (finmap.get s.keys id) as (λ k. HasLevel (suc n) (option_and_then (new_row s (rows_upto s n) (suc n) id) k)) [
    | None ↦ tt
    | Some key ↦ level_if (suc n) _ _ (row_by_level (rows_upto s n) id (suc n) (trust_of_owner s key) (delegation s (rows_upto s n) key))
  ]

  pub upto_low : (n id : ℕ) → IfSome (finmap.get (rows_upto s n) id) (λ row. row.level < suc n)
  upto_low n id = elim (finmap.get (rows_upto s n) id) as (λ r. finmap.get (rows_upto s n) id ≡ r → IfSome r (λ row. row.level < suc n)) [
    | None ↦ λ _. tt
    | Some row ↦ λ is. let low = level_le s n id row is in omega (arith, low)
  ] refl

  -- the rows of levels up to n among those of a later level are the rows up to n
  pub upto_cut : (more n m id : ℕ) → more + n ≡ m → option_and_then (if_below (suc n)) (finmap.get (rows_upto s m) id) ≡ finmap.get (rows_upto s n) id
  upto_cut zero n m id is =
      let same : m ≡ n = omega (arith, is) in
      ap (λ k. option_and_then (if_below (suc n)) (finmap.get (rows_upto s k) id)) same ∙ low_stays (suc n) (finmap.get (rows_upto s n) id) (upto_low n id)
  upto_cut (suc more) n zero id is = absurd (omega (arith, is))
  upto_cut (suc more) n (suc m) id is =
      ap (option_and_then (if_below (suc n))) (next_at m id)
      ∙ cut_one (suc n) (suc m) (finmap.get (rows_upto s m) id) (option_and_then (new_row s (rows_upto s m) (suc m) id) (finmap.get s.keys id)) (omega (arith, is)) (new_level m id)
      ∙ upto_cut more n m id (omega (arith, is))

  -- a key with the same row at two levels has the same chain: later rows change none
  pub upto_chain : (n m id : ℕ) → n ≤ m → finmap.get (rows_upto s m) id ≡ finmap.get (rows_upto s n) id → chain (rows_upto s m) id ≡ chain (rows_upto s n) id
  upto_chain n m id later same =
      lower_chain (suc n) (rows_upto s m) (rows_upto s n) (λ y. upto_cut (m - n) n m y (omega (arith, later)) ∙ sym (upto_cut 0 n n y (omega arith)))
      id same (subst (λ r. IfSome r (λ (row : Row). row.level ≤ suc n)) (sym same) (low (finmap.get (rows_upto s n) id) (upto_low n id)))
    where
      low : (r : Option Row) → IfSome r (λ row. row.level < suc n) → IfSome r (λ row. row.level ≤ suc n)
      low None h = tt
      low (Some row) h = omega (arith, h)
