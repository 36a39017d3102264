-- The keys under some numbers in a row, as an index finds them.
use Rattle.std.proofs.Common.{◌≡◌, ℕ, ◌+◌, ◌<◌, ◌≤◌, ◌||◌, Bool, true, false, cond, List, [], ◌∷◌, map, filter, BTreeSet, nat_eq, is_gt, is_eq, refl, sym, ap, ◌∙◌, arith}
use Rattle.std.specs.BTreeSet as set
use Rattle.std.specs.BTreeMap.Range.{range_contains}
use Rattle.std.specs.List.{Contains, list_any}
use Rattle.std.specs.declared.ops.Bound.TheVariants.{Excluded, Included, Unbounded}
use Rattle.std.proofs.lemmas.Bool.{eqb-true, false_from_ne_true}
use Rattle.std.proofs.Math.Bool.{or-true}
use Rattle.std.specs.Cmp.{nat_eq_equiv}
use Rattle.std.proofs.lemmas.Bool.Decides.{nat_tests}
use Rattle.std.proofs.lemmas.Map.Views.{Contains-from_any, list_any-from_Contains}
use Rattle.wot_index.specs.Indexed.{pair_cmp}

-- the keys of the pairs that pass a test
module _ (test : ℕ × ℕ → Bool) where
  abbrev passing : List (ℕ × ℕ) → List ℕ
  passing pairs = map (λ pair. pair.1) (filter test pairs)

  same_pair : (n k : ℕ) (pair : ℕ × ℕ) → is_eq (pair_cmp (n, k) pair) ≡ true → (n ≡ pair.0) × (k ≡ pair.1)
  same_pair n k pair e = (first n k pair.0 pair.1 e, second n k pair.0 pair.1 e)
    where
      first : (n k a b : ℕ) → is_eq (pair_cmp (n, k) (a, b)) ≡ true → n ≡ a
      first n k a b e = grind (arith, nat_tests)

      second : (n k a b : ℕ) → is_eq (pair_cmp (n, k) (a, b)) ≡ true → k ≡ b
      second n k a b e = grind (arith, nat_tests)

  at_itself : (n k : ℕ) → is_eq (pair_cmp (n, k) (n, k)) ≡ true
  at_itself n k = grind (arith, nat_tests)

  eq_itself : (k : ℕ) → nat_eq k k ≡ true
  eq_itself k = grind (arith, nat_tests)

  eq_true : (a b : ℕ) → nat_eq a b ≡ true → a ≡ b
  eq_true a b e = grind (arith, nat_tests)

  abbrev Stands : List (ℕ × ℕ) → ℕ → Type 0
  Stands pairs id = (n : ℕ) × (test (n, id) ≡ true) × (list_any (λ pair. is_eq (pair_cmp (n, id) pair)) pairs ≡ true)

  one_more : (pair : ℕ × ℕ) (pairs : List (ℕ × ℕ)) (id : ℕ) → Stands pairs id → Stands (pair ∷ pairs) id
  one_more pair pairs id h = (h.0, h.1, ap (λ b. is_eq (pair_cmp (h.0, id) pair) || b) h.2 ∙ or-true (is_eq (pair_cmp (h.0, id) pair)))

  passing_found : (pairs : List (ℕ × ℕ)) (id : ℕ) → list_any (nat_eq id) (passing pairs) ≡ true → Stands pairs id
  passing_found [] id h = cc
  passing_found (pair ∷ pairs) id h =
      elim (test pair) as (λ b. test pair ≡ b → list_any (nat_eq id) (map (λ p. p.1) (cond b (pair ∷ filter test pairs) (filter test pairs))) ≡ true → Stands (pair ∷ pairs) id) [
        | true ↦ λ t g.
            elim (nat_eq id pair.1) as (λ b. nat_eq id pair.1 ≡ b → (b || list_any (nat_eq id) (passing pairs)) ≡ true → Stands (pair ∷ pairs) id) [
              | true ↦ λ e _.
                  let same = eq_true id pair.1 e in
                  (pair.0, ap (λ k. test (pair.0, k)) same ∙ t, ap (λ k. is_eq (pair_cmp (pair.0, k) pair) || list_any (λ p. is_eq (pair_cmp (pair.0, k) p)) pairs) same ∙ ap (λ b. b || list_any (λ p. is_eq (pair_cmp (pair.0, pair.1) p)) pairs) (at_itself pair.0 pair.1))
              | false ↦ λ _ g. one_more pair pairs id (passing_found pairs id g)
            ] refl g
        | false ↦ λ t g. one_more pair pairs id (passing_found pairs id g)
      ] refl h

  passing_all : (pairs : List (ℕ × ℕ)) (n id : ℕ) → test (n, id) ≡ true → list_any (λ pair. is_eq (pair_cmp (n, id) pair)) pairs ≡ true → list_any (nat_eq id) (passing pairs) ≡ true
  passing_all [] n id t h = cc
  passing_all (pair ∷ pairs) n id t h =
      elim (is_eq (pair_cmp (n, id) pair)) as (λ b. is_eq (pair_cmp (n, id) pair) ≡ b → (b || list_any (λ p. is_eq (pair_cmp (n, id) p)) pairs) ≡ true
      → list_any (nat_eq id) (map (λ p. p.1) (cond (test pair) (pair ∷ filter test pairs) (filter test pairs))) ≡ true) [
        | true ↦ λ e _.
            let same = same_pair n id pair e in
            let passes : test pair ≡ true = ap (λ a. test (a, pair.1)) (sym same.0) ∙ ap (λ b. test (n, b)) (sym same.1) ∙ t in
            ap (λ b. list_any (nat_eq id) (map (λ p. p.1) (cond b (pair ∷ filter test pairs) (filter test pairs)))) passes
            ∙ ap (λ k. nat_eq id k || list_any (nat_eq id) (passing pairs)) (sym same.1) ∙ ap (λ b. b || list_any (nat_eq id) (passing pairs)) (eq_itself id)
        | false ↦ λ _ g.
            let rest = passing_all pairs n id t g in
            elim (test pair) as (λ b. list_any (nat_eq id) (map (λ p. p.1) (cond b (pair ∷ filter test pairs) (filter test pairs))) ≡ true) [
              | true ↦ ap (λ b. nat_eq id pair.1 || b) rest ∙ or-true (nat_eq id pair.1)
              | false ↦ rest
            ]
      ] refl h

abbrev in_row : ℕ → ℕ → ℕ × ℕ → Bool
in_row above upto = range_contains pair_cmp (Included (above + 1, 0)) (Excluded (upto + 1, 0))

in_row_from : (above upto n k : ℕ) → above < n → n ≤ upto → in_row above upto (n, k) ≡ true
in_row_from above upto n k a b = grind (arith, nat_tests)

above_from : (above upto n k : ℕ) → in_row above upto (n, k) ≡ true → above < n
above_from above upto n k h = grind (arith, nat_tests)

upto_from : (above upto n k : ℕ) → in_row above upto (n, k) ≡ true → n ≤ upto
upto_from above upto n k h = grind (arith, nat_tests)

within : (a n k : ℕ) → a < n → is_gt (pair_cmp (a + 1, 0) (n, k)) ≡ false
within a n k l = grind (arith, nat_tests)

module _ (s : BTreeSet (ℕ × ℕ)) (above upto : ℕ) where
  abbrev pub row : List ℕ
  row = map (λ pair. pair.1) (filter (in_row above upto) s.keys)

  pub row_found : (id : ℕ) → Contains row id → (n : ℕ) × (above < n) × (n ≤ upto) × (set.contains pair_cmp s (n, id) ≡ true)
  row_found id c =
      let h = passing_found (in_row above upto) s.keys id (list_any-from_Contains nat_eq_equiv id row c) in
      (h.0, above_from above upto h.0 id h.1, upto_from above upto h.0 id h.1, h.2)

  pub row_all : (n id : ℕ) → above < n → n ≤ upto → set.contains pair_cmp s (n, id) ≡ true → Contains row id
  row_all n id a b h = Contains-from_any eqb-true id row (passing_all (in_row above upto) s.keys n id (in_row_from above upto n id a b) h)

module _ (s : BTreeSet (ℕ × ℕ)) (above : ℕ) where
  pub soonest_found : (m k : ℕ) (rest : List (ℕ × ℕ)) → set.IsKeyRangeOf pair_cmp (Included (above + 1, 0)) Unbounded s ((m, k) ∷ rest)
      → (above < m) × ((key : ℕ) × (set.contains pair_cmp s (m, key) ≡ true)) × ((n id : ℕ) → above < n → n < m → set.contains pair_cmp s (n, id) ≡ false)
  soonest_found m k rest range = (more above m k range.1.0.0, (k, range.1.1), λ n id a b. false_from_ne_true _ (λ has. lower m k n id (range.2 (n, id) (within above n id a, tt) has) b))
    where
      more : (a m k : ℕ) → is_gt (pair_cmp (a + 1, 0) (m, k)) ≡ false → a < m
      more a m k e = grind (arith, nat_tests)

      lower : (m k n id : ℕ) → is_gt (pair_cmp (m, k) (n, id)) ≡ false → n < m → ⊥
      lower m k n id e l = grind (arith, nat_tests)

  pub no_soonest : set.IsKeyRangeOf pair_cmp (Included (above + 1, 0)) Unbounded s [] → (n id : ℕ) → above < n → set.contains pair_cmp s (n, id) ≡ false
  no_soonest range n id a = range.5 refl (n, id) (within above n id a, tt)
