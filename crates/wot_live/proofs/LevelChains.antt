-- Chains from level to level: once one is there it stays, and that of a row of a level is made of it and of a chain of lower levels.
use Rattle.std.proofs.Common.{◌≡◌, ◌+◌, ◌-◌, ◌<◌, ◌≤◌, ℕ, suc, [], ◌∷◌, Option, Some, None, option_and_then, refl, sym, ap, ◌∙◌, arith}
use Rattle.std.specs.FinMap as map
use Rattle.std.specs.Option.{option_map_or}
use Rattle.wot_types.specs.declared.row.Row.{Row}
use Rattle.wot_types.specs.State.{State}
use Rattle.wot_types.specs.Candidates.{RowMap, chain, chain_of, if_below}
use Rattle.wot_types.proofs.Chains.{chain_from, chain_row, chain_step, is_lower, low_stays, row_chain, same_chain_of, was_there}
use Rattle.wot_live.proofs.BeforeLevels.{row_below, rows_before}
use Rattle.wot_live.proofs.Befores.{before_itself, restricted}

pub chain_is : (rows : RowMap) (y : ℕ) (row : Row) → map.get rows y ≡ Some row → chain rows y ≡ chain_of rows row
chain_is rows y row at = ap (λ r. option_map_or (chain_of rows) r []) at

module _ (t : State) where
  lower_same : (n m y : ℕ) → n ≤ m → row_below n (map.get (rows_before t m) y) ≡ row_below n (map.get (rows_before t n) y)
  lower_same n m y h = restricted t n (m - n) m y (omega (arith, h)) ∙ sym (before_itself t n y)

  -- later rows change no chain
  pub later_chain : (n m : ℕ) → n ≤ m → (row : Row) → row.level ≤ n → chain_of (rows_before t m) row ≡ chain_of (rows_before t n) row
  later_chain n m h row low = same_chain_of n (rows_before t m) (rows_before t n) (λ y. lower_same n m y h) row low

  pub before_level : (n y : ℕ) (row : Row) → map.get (rows_before t n) y ≡ Some row → row.level < n
  before_level n y row at = is_lower n (map.get (rows_before t n) y) row (before_itself t n y ∙ at)

  there_later : (n m y : ℕ) (row : Row) → n ≤ m → map.get (rows_before t n) y ≡ Some row → map.get (rows_before t m) y ≡ Some row
  there_later n m y row h at = was_there n (map.get (rows_before t m) y) row (restricted t n (m - n) m y (omega (arith, h)) ∙ at)

  there_sooner : (n y : ℕ) (row : Row) → map.get (rows_before t (suc n)) y ≡ Some row → row.level < n → map.get (rows_before t n) y ≡ Some row
  there_sooner n y row at low =
      let next : suc n - n ≡ 1 = omega arith in
      sym (restricted t n (suc n - n) (suc n) y (omega (arith, next))) ∙ ap (row_below n) at ∙ low_stays n (Some row) low

  -- the chain of a row of the last level
  pub chain_at : (n y : ℕ) (row : Row) → map.get (rows_before t (suc n)) y ≡ Some row → row.level ≡ n → chain (rows_before t (suc n)) y ≡ row ∷ option_map_or (chain (rows_before t n)) row.via []
  chain_at n y row at level = chain_is high y row at ∙ chain_step high row ∙ ap (λ xs. row ∷ xs) (by row.via)
    where
      high : RowMap
      high = rows_before t (suc n)

      above : (z : ℕ) (o : Option Row) → map.get (rows_before t n) z ≡ o → option_map_or (chain_of (rows_before t (suc n))) o [] ≡ option_map_or (chain_of (rows_before t n)) o []
      above z None is = refl
      above z (Some x) is = let low = before_level n z x is in later_chain n (suc n) (omega arith) x (omega (arith, low))

      by : (via : Option ℕ) → option_map_or (chain_of (rows_before t (suc n))) (option_and_then (if_below row.level) (option_and_then (map.get (rows_before t (suc n))) via)) [] ≡ option_map_or (chain (rows_before t n)) via []
      by None = refl
      by (Some z) =
          let one : n + 1 ≡ suc n = omega arith in
          ap (λ k. option_map_or (chain_of (rows_before t (suc n))) (row_below k (map.get (rows_before t (suc n)) z)) []) level
          ∙ ap (λ o. option_map_or (chain_of (rows_before t (suc n))) o []) (restricted t n 1 (suc n) z one)
          ∙ above z (map.get (rows_before t n) z) refl

-- ---- two states

module _ (s t : State) where
  -- where chains are the same at a level, they were at each before
  pub back_chain : (n m y : ℕ) → n ≤ m → chain (rows_before s m) y ≡ chain (rows_before t m) y → chain (rows_before s n) y ≡ chain (rows_before t n) y
  back_chain n m y h same =
      let more : n + (m - n) ≡ m = omega (arith, h) in
      let rows = sym (restricted s n (m - n) m y more) ∙ ap (row_below n) (chain_row (rows_before s m) (rows_before t m) y same) ∙ restricted t n (m - n) m y more in
      chain_from (rows_before s n) (rows_before t n) y rows (λ row at.
      let low = before_level s n y row at in
      sym (later_chain s n m h row (omega (arith, low)))
      ∙ row_chain (rows_before s m) (rows_before t m) y same row (there_later s n m y row h at)
      ∙ later_chain t n m h row (omega (arith, low)))

  -- a chain of lower levels stays the same
  pub next_chain : (n y : ℕ) (row : Row) → map.get (rows_before s (suc n)) y ≡ Some row → map.get (rows_before t (suc n)) y ≡ Some row → row.level < n
      → chain (rows_before s n) y ≡ chain (rows_before t n) y → chain (rows_before s (suc n)) y ≡ chain (rows_before t (suc n)) y
  next_chain n y row here there low same =
      let later : n ≤ suc n = omega arith in
      chain_is (rows_before s (suc n)) y row here ∙ later_chain s n (suc n) later row (omega (arith, low))
      ∙ row_chain (rows_before s n) (rows_before t n) y same row (there_sooner s n y row here low)
      ∙ sym (later_chain t n (suc n) later row (omega (arith, low))) ∙ sym (chain_is (rows_before t (suc n)) y row there)
