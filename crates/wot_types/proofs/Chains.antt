-- Chains of delegation: they end, they hang on rows of lower levels alone, and the first row of each is the key's own.
use Rattle.std.proofs.Common.{◌≡◌, ◌<◌, ◌≤◌, ◌&&◌, ℕ, zero, suc, true, false, cond, nat_lt, List, [], ◌∷◌, Option, Some, None, option_and_then, IfSome, refl, sym, ap, subst, ◌∙◌, arith}
use Rattle.std.specs.FinMap as finmap
use Rattle.std.specs.List.{list_all}
use Rattle.std.specs.Option.{is_some, option_map_or}
use Rattle.std.proofs.lemmas.Bool.Decides.{nat_tests}
use Rattle.wot_types.specs.declared.row.Row.{Row}
use Rattle.wot_types.specs.Candidates.{RowMap, chain, chain_admits, chain_of, chain_within, delegator, if_below}
use Rattle.wot_types.specs.Rows.{HaveNoScopes, has_scope}
use Rattle.wot_types.specs.Scope.{admits}

-- ---- a row that may be missing, by its level

pub low_stays : (n : ℕ) (r : Option Row) → IfSome r (λ row. row.level < n) → option_and_then (if_below n) r ≡ r
low_stays n None low = refl
low_stays n (Some row) low =
    let below : nat_lt row.level n ≡ true = grind (arith, nat_tests, low) in
    ap (λ b. cond b (Some row) None) below

pub high_goes : (n : ℕ) (r : Option Row) → IfSome r (λ row. n ≤ row.level) → option_and_then (if_below n) r ≡ None
high_goes n None high = refl
high_goes n (Some row) high =
    let above : nat_lt row.level n ≡ false = grind (arith, nat_tests, high) in
    ap (λ b. cond b (Some row) None) above

pub lower_part : (n m : ℕ) (r : Option Row) → n ≤ m → option_and_then (if_below n) (option_and_then (if_below m) r) ≡ option_and_then (if_below n) r
lower_part n m None h = refl
lower_part n m (Some row) h =
    elim (nat_lt row.level m) as (λ b. nat_lt row.level m ≡ b → option_and_then (if_below n) (cond b (Some row) None) ≡ option_and_then (if_below n) (Some row)) [
      | true ↦ λ _. refl
      | false ↦ λ high. sym (high_goes n (Some row) (far high))
    ] refl
  where
    far : nat_lt row.level m ≡ false → n ≤ row.level
    far high = grind (arith, nat_tests)

pub is_lower : (n : ℕ) (r : Option Row) (above : Row) → option_and_then (if_below n) r ≡ Some above → above.level < n
is_lower n None above is = cc
is_lower n (Some row) above is =
    elim (nat_lt row.level n) as (λ b. nat_lt row.level n ≡ b → cond b (Some row) None ≡ Some above → above.level < n) [
      | true ↦ λ low same. by_level low same
      | false ↦ λ _ none. cc
    ] refl is
  where
    by_level : nat_lt row.level n ≡ true → Some row ≡ Some above → above.level < n
    by_level low same = let e : row ≡ above = cc in let l = ap (λ (r : Row). r.level) e in grind (arith, nat_tests, low, l)

pub was_there : (n : ℕ) (r : Option Row) (row : Row) → option_and_then (if_below n) r ≡ Some row → r ≡ Some row
was_there n None row none = cc
was_there n (Some x) row at = elim (nat_lt x.level n) as (λ b. cond b (Some x) None ≡ Some row → Some x ≡ Some row) [ true ↦ λ h. h | false ↦ λ none. cc ] at

-- ---- chains end

module _ (rows : RowMap) where
  pub delegator_lower : (row above : Row) → delegator rows row ≡ Some above → above.level < row.level
  delegator_lower row above is = is_lower row.level (option_and_then (finmap.get rows) row.via) above is

  -- it is the row of the key that the row names
  pub delegator_at : (row above : Row) → delegator rows row ≡ Some above → (z : ℕ) × (row.via ≡ Some z) × (finmap.get rows z ≡ Some above)
  delegator_at row above is = by row.via refl is
    where
      by : (via : Option ℕ) → row.via ≡ via → option_and_then (if_below row.level) (option_and_then (finmap.get rows) via) ≡ Some above
          → (z : ℕ) × (row.via ≡ Some z) × (finmap.get rows z ≡ Some above)
      by None same none = cc
      by (Some z) same at = (z, same, was_there row.level (finmap.get rows z) above at)

  -- as many steps as the level, or more, reach the end
  same_end : (n m : ℕ) (row : Row) → row.level ≤ n → row.level ≤ m → chain_within n rows row ≡ chain_within m rows row
  unfolding chain_within
  same_end zero zero row h k = refl
  same_end zero (suc m) row h k = ap (λ xs. row ∷ xs) (sym (none (delegator rows row) refl))
    where
      none : (d : Option Row) → delegator rows row ≡ d → option_map_or (chain_within m rows) d [] ≡ []
      none None is = refl
      none (Some above) is = let low = delegator_lower row above is in absurd (omega (arith, low, h))
  same_end (suc n) zero row h k = ap (λ xs. row ∷ xs) (none (delegator rows row) refl)
    where
      none : (d : Option Row) → delegator rows row ≡ d → option_map_or (chain_within n rows) d [] ≡ []
      none None is = refl
      none (Some above) is = let low = delegator_lower row above is in absurd (omega (arith, low, k))
  same_end (suc n) (suc m) row h k =
      ap (λ xs. row ∷ xs) (elim (delegator rows row) as (λ d. delegator rows row ≡ d → option_map_or (chain_within n rows) d [] ≡ option_map_or (chain_within m rows) d []) [
        | None ↦ λ _. refl
        | Some above ↦ λ is. let low = delegator_lower row above is in same_end n m above (omega (arith, low, h)) (omega (arith, low, k))
      ] refl)

  -- a chain is its row, and behind that the chain of its delegator
  pub chain_step : (row : Row) → chain_of rows row ≡ row ∷ option_map_or (chain_of rows) (delegator rows row) []
  unfolding chain_within
  chain_step row = same_end row.level (suc row.level) row (omega arith) (omega arith) ∙ ap (λ xs. row ∷ xs) (rest (delegator rows row) refl)
    where
      rest : (d : Option Row) → delegator rows row ≡ d → option_map_or (chain_within row.level rows) d [] ≡ option_map_or (chain_of rows) d []
      rest None is = refl
      rest (Some above) is = let low = delegator_lower row above is in same_end row.level above.level above (omega (arith, low)) (omega arith)

  -- it admits a text where the row does, and the chain of its delegator
  pub admits_step : (row : Row) (text : List ℕ) → chain_admits rows row text ≡ (admits row.scope text && option_map_or (λ above. chain_admits rows above text) (delegator rows row) true)
  admits_step row text = ap (list_all (λ link. admits link.scope text)) (chain_step row) ∙ ap (λ b. admits row.scope text && b) (rest (delegator rows row))
    where
      rest : (d : Option Row) → list_all (λ link. admits link.scope text) (option_map_or (chain_of rows) d []) ≡ option_map_or (λ above. chain_admits rows above text) d true
      rest None = refl
      rest (Some above) = refl

  free : (text : List ℕ) (scope : Option (List ℕ)) → is_some scope ≡ false → admits scope text ≡ true
  free text None h = refl
  free text (Some s) h = cc

  free_within : HaveNoScopes rows → (text : List ℕ) (n : ℕ) (row : Row) → has_scope row ≡ false → list_all (λ link. admits link.scope text) (chain_within n rows row) ≡ true
  unfolding chain_within
  free_within none text zero row own = ap (λ b. b && true) (free text row.scope own)
  free_within none text (suc n) row own =
      ap (λ b. b && list_all (λ link. admits link.scope text) (option_map_or (chain_within n rows) (delegator rows row) [])) (free text row.scope own)
      ∙ elim (delegator rows row) as (λ d. delegator rows row ≡ d → list_all (λ link. admits link.scope text) (option_map_or (chain_within n rows) d []) ≡ true) [
        | None ↦ λ _. refl
        | Some above ↦ λ is.
            let at = delegator_at row above is in
            free_within none text n above (subst (λ r. IfSome r (λ row. has_scope row ≡ false)) at.2 (none at.0))
      ] refl

  -- where no row has a scope, each chain admits each text
  pub admits_each : HaveNoScopes rows → (row : Row) → has_scope row ≡ false → (text : List ℕ) → chain_admits rows row text ≡ true
  admits_each none row own text = free_within none text row.level row own

-- ---- chains hang on rows of lower levels

module _ (k : ℕ) (m n : RowMap) (same : (y : ℕ) → option_and_then (if_below k) (finmap.get m y) ≡ option_and_then (if_below k) (finmap.get n y)) where
  same_delegator : (row : Row) → row.level ≤ k → delegator m row ≡ delegator n row
  same_delegator row low = by row.via
    where
      by : (via : Option ℕ) → option_and_then (if_below row.level) (option_and_then (finmap.get m) via) ≡ option_and_then (if_below row.level) (option_and_then (finmap.get n) via)
      by None = refl
      by (Some z) =
          sym (lower_part row.level k (finmap.get m z) low) ∙ ap (option_and_then (if_below row.level)) (same z) ∙ lower_part row.level k (finmap.get n z) low

  same_within : (i : ℕ) (row : Row) → row.level ≤ k → chain_within i m row ≡ chain_within i n row
  unfolding chain_within
  same_within zero row low = refl
  same_within (suc i) row low =
      ap (λ d. row ∷ option_map_or (chain_within i m) d []) (same_delegator row low)
      ∙ ap (λ xs. row ∷ xs) (elim (delegator n row) as (λ d. delegator n row ≡ d → option_map_or (chain_within i m) d [] ≡ option_map_or (chain_within i n) d []) [
        | None ↦ λ _. refl
        | Some above ↦ λ is. let less = delegator_lower n row above is in same_within i above (omega (arith, less, low))
      ] refl)

  -- rows of higher levels change no chain
  pub same_chain_of : (row : Row) → row.level ≤ k → chain_of m row ≡ chain_of n row
  same_chain_of row low = same_within row.level row low

  pub same_admits : (row : Row) (text : List ℕ) → row.level ≤ k → chain_admits m row text ≡ chain_admits n row text
  same_admits row text low = ap (list_all (λ link. admits link.scope text)) (same_chain_of row low)

-- ---- whose chain it is

first_link : List Row → Option Row
first_link [] = None
first_link (row ∷ rows) = Some row

own_link : (rows : RowMap) (id : ℕ) → first_link (chain rows id) ≡ finmap.get rows id
unfolding first_link
own_link rows id = by (finmap.get rows id)
  where
    by : (r : Option Row) → first_link (option_map_or (chain_of rows) r []) ≡ r
    by None = refl
    by (Some row) = ap first_link (chain_step rows row)

-- keys of one chain have one row
pub chain_row : (m n : RowMap) (id : ℕ) → chain m id ≡ chain n id → finmap.get m id ≡ finmap.get n id
chain_row m n id same = sym (own_link m id) ∙ ap first_link same ∙ own_link n id

-- and that row has one chain
pub row_chain : (m n : RowMap) (id : ℕ) → chain m id ≡ chain n id → (row : Row) → finmap.get m id ≡ Some row → chain_of m row ≡ chain_of n row
row_chain m n id same row is =
    sym (ap (λ r. option_map_or (chain_of m) r []) is) ∙ same ∙ ap (λ r. option_map_or (chain_of n) r []) (sym (chain_row m n id same) ∙ is)

-- the other way round
pub chain_from : (m n : RowMap) (id : ℕ) → finmap.get m id ≡ finmap.get n id → ((row : Row) → finmap.get m id ≡ Some row → chain_of m row ≡ chain_of n row) → chain m id ≡ chain n id
chain_from m n id same chains = by (finmap.get m id) refl ∙ ap (λ r. option_map_or (chain_of n) r []) same
  where
    by : (r : Option Row) → finmap.get m id ≡ r → option_map_or (chain_of m) r [] ≡ option_map_or (chain_of n) r []
    by None is = refl
    by (Some row) is = chains row is

-- a key that isn't of a higher level has the chain that it has among lower rows
pub lower_chain : (k : ℕ) (m n : RowMap) → ((y : ℕ) → option_and_then (if_below k) (finmap.get m y) ≡ option_and_then (if_below k) (finmap.get n y))
    → (id : ℕ) → finmap.get m id ≡ finmap.get n id → IfSome (finmap.get m id) (λ row. row.level ≤ k) → chain m id ≡ chain n id
lower_chain k m n lower id same low = chain_from m n id same (λ row is. same_chain_of k m n lower row (at row is))
  where
    at : (row : Row) → finmap.get m id ≡ Some row → row.level ≤ k
    at row is = subst (λ r. IfSome r (λ row. row.level ≤ k)) is low
