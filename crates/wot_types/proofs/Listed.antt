-- Finite maps made of a list of entries whose keys rise.
use Rattle.std.proofs.Common.{◌≡◌, ◌&&◌, ◌<◌, T, ℕ, zero, suc, cond, List, [], ◌∷◌, fold, map, Some, None, refl, sym, ap, subst, ◌∙◌, add-one, arith}
use Rattle.std.specs.declared.cmp.Ordering.{Ordering}
use Rattle.std.specs.declared.cmp.Ordering.TheVariants.{Less, Equal, Greater}
use Rattle.std.specs.List.Sorted.{IsStrictlyIncreasing}
use Rattle.std.specs.Option.{option_or}
use Rattle.std.specs.Ordering.{is_eq, is_lt, nat_cmp}
use Rattle.std.specs.Cmp.{IsTotalOrder}
use Rattle.std.specs.FinMap.{FinMap, IsAntisymmetric, empty, entries, entries-from_sorted, entries_sorted, find, from_sorted, get, get-empty, get-entries, get-insert, insert, is_sorted, same_map}
use Rattle.std.specs.FinMap.Entries.{below_all}
use Rattle.std.proofs.lemmas.Bool.Decides.{nat_tests}
use Rattle.wot_types.specs.Payload.{IsRisingBy}
use Rattle.wot_types.proofs.Optionals.{or_none}
use Rattle.wot_types.proofs.Tests.{both_parts, first_part, less_from, second_part}

less_is : (r : Ordering) → r ≡ Less → T (is_lt r)
less_is Less h = tt
less_is Equal h = cc
less_is Greater h = cc

module _ {K X : Type 0} {R : K → K → Ordering} (o : IsTotalOrder R) (same : IsAntisymmetric R) where
  abbrev pub inserted : FinMap R X → List (K × X) → FinMap R X
  inserted m es = fold (λ m e. insert m e.0 e.1) m es

  -- what goes before all entries isn't among them
  absent : (q : K) (es : List (K × X)) → T (below_all R q es) → find R q es ≡ None
  absent q [] h = refl
  absent q (e ∷ es) h = elim (R q e.0) as (λ r. T (is_lt r && below_all R q es) → cond (is_eq r) (Some e.1) (find R q es) ≡ None) [
    | Less ↦ λ below. absent q es below
    | Equal ↦ λ below. absurd below
    | Greater ↦ λ below. absurd below
  ] h

  get_inserted : (q : K) (es : List (K × X)) (m : FinMap R X) → T (is_sorted R es) → get (inserted m es) q ≡ option_or (find R q es) (get m q)
  get_inserted q [] m h = refl
  get_inserted q (e ∷ es) m h =
      get_inserted q es (insert m e.0 e.1) (second_part (below_all R e.0 es) (is_sorted R es) h)
      ∙ ap (option_or (find R q es)) (get-insert o m e.0 e.1 q)
      ∙ at (R q e.0) refl
    where
      at : (r : Ordering) → R q e.0 ≡ r → option_or (find R q es) (cond (is_eq r) (Some e.1) (get m q)) ≡ option_or (cond (is_eq r) (Some e.1) (find R q es)) (get m q)
      at Less is = refl
      at Equal is =
          let below = subst (λ k. T (below_all R k es)) (sym (same q e.0 is)) (first_part (below_all R e.0 es) (is_sorted R es) h) in
          ap (λ found. option_or found (Some e.1)) (absent q es below)
      at Greater is = refl

  -- the entries of a map, inserted into an empty one, are the map
  pub inserted_again : (m : FinMap R X) → inserted empty (entries m) ≡ m
  inserted_again m = same_map o same _ _ (λ q.
      get_inserted q (entries m) empty (entries_sorted m)
      ∙ ap (option_or (find R q (entries m))) (get-empty R q)
      ∙ or_none (find R q (entries m))
      ∙ sym (get-entries m q))

  -- entries whose keys rise, inserted into an empty map, are its entries
  pub entries_inserted : (es : List (K × X)) → T (is_sorted R es) → entries (inserted empty es) ≡ es
  entries_inserted es h =
      let m = from_sorted {R = R} es in
      let is = entries-from_sorted R es h in
      ap (λ fs. entries (inserted empty fs)) (sym is) ∙ ap entries (inserted_again m) ∙ is

  module _ {A : Type 0} (f : A → K × X) where
    below_more : (k : K) (x : A) (xs : List A) → R k (f x).0 ≡ Less → T (below_all R (f x).0 (map f xs)) → T (below_all R k (map f xs))
    below_more k x [] less h = tt
    below_more k x (y ∷ ys) less h =
        let next = less_from (R (f x).0 (f y).0) (first_part _ _ h) in
        both_parts _ _ (less_is _ (o.trans k (f x).0 (f y).0 less next)) (below_more k x ys less (second_part _ _ h))

    below_next : (x y : A) (ys : List A) → R (f x).0 (f y).0 ≡ Less → T (is_sorted R (map f (y ∷ ys))) → T (below_all R (f x).0 (map f (y ∷ ys)))
    below_next x y ys less h = both_parts _ _ (less_is _ less) (below_more (f x).0 y ys less (first_part _ _ h))

    -- each below the next is each below all that follow
    pub sorted_from_rising : (xs : List A) → IsRisingBy (λ a b. R (f a).0 (f b).0) xs → T (is_sorted R (map f xs))
    sorted_from_rising [] h = tt
    sorted_from_rising (x ∷ []) h = tt
    sorted_from_rising (x ∷ y ∷ ys) h =
        let rest = sorted_from_rising (y ∷ ys) h.1 in
        both_parts _ _ (below_next x y ys h.0 rest) rest

    pub rising_from_sorted : (xs : List A) → T (is_sorted R (map f xs)) → IsRisingBy (λ a b. R (f a).0 (f b).0) xs
    rising_from_sorted [] h = tt
    rising_from_sorted (x ∷ []) h = tt
    rising_from_sorted (x ∷ y ∷ ys) h =
        (less_from (R (f x).0 (f y).0) (first_part _ _ (first_part _ _ h)), rising_from_sorted (y ∷ ys) (second_part _ _ h))

-- numbers that rise, as the order of numbers tells it
less : (a b : ℕ) → a < b → nat_cmp a b ≡ Less
less a b l = grind (arith, nat_tests)

below : (a b : ℕ) → nat_cmp a b ≡ Less → a < b
below a b e = grind (arith, nat_tests)

pub increasing_from_rising : {A : Type 0} (n : A → ℕ) (xs : List A) → IsRisingBy (λ a b. nat_cmp (n a) (n b)) xs → IsStrictlyIncreasing (map n xs)
increasing_from_rising n [] e k h = absurd (omega arith)
increasing_from_rising n (x ∷ []) e k h = absurd (omega arith)
increasing_from_rising n (x ∷ y ∷ ys) e zero h = below (n x) (n y) e.0
increasing_from_rising n (x ∷ y ∷ ys) e (suc k) h =
    let ih = increasing_from_rising n (y ∷ ys) e.1 k (omega arith) in
    rw add-one (rw add-one at ih)

pub rising_from_increasing : {A : Type 0} (n : A → ℕ) (xs : List A) → IsStrictlyIncreasing (map n xs) → IsRisingBy (λ a b. nat_cmp (n a) (n b)) xs
rising_from_increasing n [] h = tt
rising_from_increasing n (x ∷ []) h = tt
rising_from_increasing n (x ∷ y ∷ ys) h =
    (less (n x) (n y) (h 0 (omega arith)), rising_from_increasing n (y ∷ ys) (λ k lt. let more = h (suc k) (omega arith) in rw add-one (rw add-one at more)))
