-- An index after a change, and the least key under a number.
use Rattle.std.proofs.Common.{◌≡◌, ℕ, ◌<◌, ◌==◌, ◌&&◌, ◌||◌, not, Bool, true, false, cond, List, [], ◌∷◌, take, drop, Some, None, BTreeSet, nat_cmp, is_gt, is_eq, Less, refl, sym, ap, ap₂, subst, ◌∙◌, arith}
use Rattle.std.specs.BTreeSet as set
use Rattle.std.specs.Cmp.Lexicographic.{pointwise}
use Rattle.std.specs.Ordering.{eq_by_cmp, ordering_then}
use Rattle.std.specs.declared.ops.Bound.TheVariants.{Excluded, Included, Unbounded}
use Rattle.std.proofs.lemmas.Bool.{false_from_ne_true}
use Rattle.std.proofs.lemmas.Bool.Decides.{nat_tests}
use Rattle.std.specs.List.{dedup, dedup_from, list_any}
use Rattle.std.specs.Set.{is_member}
use Rattle.std.proofs.lemmas.List.{take-append-drop}
use Rattle.std.proofs.lemmas.List.Folds.{list_any-append}
use Rattle.wot_index.specs.Indexed.{every_other, has_pair, pair_cmp}
use Rattle.wot_types.specs.Next.{IsNext}

-- one pair more, and one fewer
pub added : (a b n k : ℕ) (old any : Bool)
    → (cond (is_eq (ordering_then (nat_cmp a n) (nat_cmp b k))) true old || any) ≡ (old || (((a == n) && (b == k)) || any))
added a b n k true any = grind (arith, nat_tests)
added a b n k false true = grind (arith, nat_tests)
added a b n k false false = grind (arith, nat_tests)

pub taken : (a b n k : ℕ) (old any : Bool)
    → (cond (is_eq (ordering_then (nat_cmp a n) (nat_cmp b k))) false old && not any) ≡ (old && not (((a == n) && (b == k)) || any))
taken a b n k true true = grind (arith, nat_tests)
taken a b n k true false = grind (arith, nat_tests)
taken a b n k false any = grind (arith, nat_tests)

-- those that stand at every other place from the first on, and those from the second on
pub both_halves : {X : Type 0} (p : X → Bool) (xs : List X) → (list_any p (every_other true xs) || list_any p (every_other false xs)) ≡ list_any p xs
both_halves p [] = refl
both_halves p (x ∷ xs) =
    assoc (p x) (list_any p (every_other false xs)) (list_any p (every_other true xs)) ∙ ap (λ b. p x || b) (both_halves p xs)
  where
    assoc : (a b c : Bool) → ((a || b) || c) ≡ (a || (c || b))
    assoc true b c = refl
    assoc false true true = refl
    assoc false true false = refl
    assoc false false true = refl
    assoc false false false = refl

-- both halves of the last pairs are added, and the others are left
pub window_added : (n k : ℕ) (old one two : Bool) (pairs : List (ℕ × ℕ)) (i : ℕ)
    → one ≡ (old || has_pair n k (every_other true (drop i pairs))) → two ≡ (one || has_pair n k (every_other false (drop i pairs)))
    → (two || has_pair n k (take i pairs)) ≡ (old || has_pair n k pairs)
window_added n k old one two pairs i e f =
    let p = λ (pair : ℕ × ℕ). (pair.0 == n) && (pair.1 == k) in
    let all = sym (list_any-append p (take i pairs) (drop i pairs)) ∙ ap (list_any p) (take-append-drop i pairs) in
    ap (λ b. b || has_pair n k (take i pairs)) (f ∙ ap (λ b. b || has_pair n k (every_other false (drop i pairs))) e)
    ∙ turned old (has_pair n k (every_other true (drop i pairs))) (has_pair n k (every_other false (drop i pairs))) (has_pair n k (take i pairs))
    ∙ ap (λ b. old || (has_pair n k (take i pairs) || b)) (both_halves p (drop i pairs))
    ∙ ap (λ b. old || b) all
  where
    turned : (a b c d : Bool) → (((a || b) || c) || d) ≡ (a || (d || (b || c)))
    turned true b c d = refl
    turned false true c true = refl
    turned false true c false = refl
    turned false false true true = refl
    turned false false true false = refl
    turned false false false true = refl
    turned false false false false = refl

-- the members of a set that is made of a list of pairs
pub members : (n k : ℕ) (pairs : List (ℕ × ℕ)) → is_member (eq_by_cmp pair_cmp) pairs (n, k) ≡ has_pair n k pairs
members n k [] = refl
members n k (p ∷ ps) = ap₂ (λ a b. a || b) (same p.0 p.1 n k) (members n k ps)
  where
    same : (a b n k : ℕ) → is_eq (ordering_then (nat_cmp n a) (nat_cmp k b)) ≡ ((a == n) && (b == k))
    same a b n k = grind (arith, nat_tests)

abbrev same_pair : ℕ × ℕ → ℕ × ℕ → Bool
same_pair p q = (p.0 == q.0) && (p.1 == q.1)

-- of pairs that repeat one is left
pub distinct_from : (n k : ℕ) (p : ℕ × ℕ) (ps : List (ℕ × ℕ)) → has_pair n k (dedup_from same_pair p ps) ≡ has_pair n k (p ∷ ps)
distinct_from n k p [] = refl
distinct_from n k p (q ∷ ps) =
    elim (same_pair q p) as (λ b. same_pair q p ≡ b → has_pair n k (cond b (dedup_from same_pair p ps) (p ∷ dedup_from same_pair q ps)) ≡ has_pair n k (p ∷ q ∷ ps)) [
      | true ↦ λ e. distinct_from n k p ps ∙ again p.0 p.1 q.0 q.1 n k (has_pair n k ps) e
      | false ↦ λ e. ap (λ b. ((p.0 == n) && (p.1 == k)) || b) (distinct_from n k q ps)
    ] refl
  where
    again : (a b c d n k : ℕ) (rest : Bool) → ((c == a) && (d == b)) ≡ true → (((a == n) && (b == k)) || rest) ≡ (((a == n) && (b == k)) || (((c == n) && (d == k)) || rest))
    again a b c d n k true e = grind (arith, nat_tests)
    again a b c d n k false e = grind (arith, nat_tests)

pub distinct : (n k : ℕ) (ps : List (ℕ × ℕ)) → has_pair n k (dedup same_pair ps) ≡ has_pair n k ps
distinct n k [] = refl
distinct n k (p ∷ ps) = distinct_from n k p ps

module _ (s : BTreeSet (ℕ × ℕ)) where
  under : ℕ → ℕ → Bool
  under number k = set.contains pair_cmp s (number, k)

  pub next_found : (number a m n : ℕ) (rest : List (ℕ × ℕ)) → set.IsKeyRangeOf pair_cmp (Excluded (number, a)) Unbounded s ((m, n) ∷ rest) → m ≡ number
      → IsNext (λ k. set.contains pair_cmp s (number, k)) (Some a) (Some n)
  next_found number a m n rest range same =
      (subst (λ x. set.contains pair_cmp s (x, n) ≡ true) same range.1.1, above number a m n range.1.0.0 same, λ k after l. false_from_ne_true _ (λ has. below number m n k (range.2 (number, k) (within number a k after, tt) has) same l))
    where
      above : (number a m n : ℕ) → pair_cmp (number, a) (m, n) ≡ Less → m ≡ number → a < n
      above number a m n e f = grind (arith, nat_tests)

      within : (number a k : ℕ) → a < k → pair_cmp (number, a) (number, k) ≡ Less
      within number a k l = grind (arith, nat_tests)

      below : (number m n k : ℕ) → is_gt (pair_cmp (m, n) (number, k)) ≡ false → m ≡ number → k < n → ⊥
      below number m n k e f l = grind (arith, nat_tests)

  pub none_found : (number a m n : ℕ) (rest : List (ℕ × ℕ)) → set.IsKeyRangeOf pair_cmp (Excluded (number, a)) Unbounded s ((m, n) ∷ rest) → (m == number) ≡ false
      → IsNext (λ k. set.contains pair_cmp s (number, k)) (Some a) None
  none_found number a m n rest range other k after =
      false_from_ne_true _ (λ has. beyond number a m n k range.1.0.0 (range.2 (number, k) (within number a k after, tt) has) other)
    where
      within : (number a k : ℕ) → a < k → pair_cmp (number, a) (number, k) ≡ Less
      within number a k l = grind (arith, nat_tests)

      beyond : (number a m n k : ℕ) → pair_cmp (number, a) (m, n) ≡ Less → is_gt (pair_cmp (m, n) (number, k)) ≡ false → (m == number) ≡ false → ⊥
      beyond number a m n k e f g = grind (arith, nat_tests)

  pub none_left : (number a : ℕ) → set.IsKeyRangeOf pair_cmp (Excluded (number, a)) Unbounded s [] → IsNext (λ k. set.contains pair_cmp s (number, k)) (Some a) None
  none_left number a range k after = range.5 refl (number, k) (within number a k after, tt)
    where
      within : (number a k : ℕ) → a < k → pair_cmp (number, a) (number, k) ≡ Less
      within number a k l = grind (arith, nat_tests)

  -- and of all, from key ID 0 on
  from_0 : (number k : ℕ) → is_gt (pair_cmp (number, 0) (number, k)) ≡ false
  from_0 number k = grind (arith, nat_tests)

  pub first_found : (number m n : ℕ) (rest : List (ℕ × ℕ)) → set.IsKeyRangeOf pair_cmp (Included (number, 0)) Unbounded s ((m, n) ∷ rest) → m ≡ number
      → IsNext (λ k. set.contains pair_cmp s (number, k)) None (Some n)
  first_found number m n rest range same =
      (subst (λ x. set.contains pair_cmp s (x, n) ≡ true) same range.1.1, tt, λ k _ l. false_from_ne_true _ (λ has. below number m n k (range.2 (number, k) (from_0 number k, tt) has) same l))
    where
      below : (number m n k : ℕ) → is_gt (pair_cmp (m, n) (number, k)) ≡ false → m ≡ number → k < n → ⊥
      below number m n k e f l = grind (arith, nat_tests)

  pub first_none : (number m n : ℕ) (rest : List (ℕ × ℕ)) → set.IsKeyRangeOf pair_cmp (Included (number, 0)) Unbounded s ((m, n) ∷ rest) → (m == number) ≡ false
      → IsNext (λ k. set.contains pair_cmp s (number, k)) None None
  first_none number m n rest range other k _ =
      false_from_ne_true _ (λ has. beyond number m n k range.1.0.0 (range.2 (number, k) (from_0 number k, tt) has) other)
    where
      beyond : (number m n k : ℕ) → is_gt (pair_cmp (number, 0) (m, n)) ≡ false → is_gt (pair_cmp (m, n) (number, k)) ≡ false → (m == number) ≡ false → ⊥
      beyond number m n k e f g = grind (arith, nat_tests)

  pub first_empty : (number : ℕ) → set.IsKeyRangeOf pair_cmp (Included (number, 0)) Unbounded s [] → IsNext (λ k. set.contains pair_cmp s (number, k)) None None
  first_empty number range k _ = range.5 refl (number, k) (from_0 number k, tt)

-- what a test of two lists of pairs has told
pub same_pairs : (xs ys : List (ℕ × ℕ)) → pointwise (λ p q. (p.0 == q.0) && (p.1 == q.1)) xs ys ≡ true → xs ≡ ys
same_pairs [] [] h = refl
same_pairs [] (q ∷ ys) h = cc
same_pairs (p ∷ xs) [] h = cc
same_pairs (p ∷ xs) (q ∷ ys) h =
    ap₂ (λ a b. (a, b) ∷ xs) (equal p.0 q.0 (first _ _ (first _ _ h))) (equal p.1 q.1 (second _ _ (first _ _ h))) ∙ ap (λ zs. q ∷ zs) (same_pairs xs ys (second _ _ h))
  where
    first : (a b : Bool) → (a && b) ≡ true → a ≡ true
    first true b h = refl
    first false b h = cc

    second : (a b : Bool) → (a && b) ≡ true → b ≡ true
    second true b h = h
    second false b h = cc

    equal : (a b : ℕ) → (a == b) ≡ true → a ≡ b
    equal a b h = grind (arith, nat_tests)

-- the pairs that go are those that come
pub exchanged : (old gone : Bool) → (gone ≡ true → old ≡ true) → old ≡ ((old && not gone) || gone)
exchanged true true h = refl
exchanged true false h = refl
exchanged false true h = h refl
exchanged false false h = refl
