-- The certifications on keys of a list.
use Rattle.std.proofs.Common.{◌≡◌, ◌+◌, ◌-◌, ◌*◌, ◌<◌, ◌≤◌, ℕ, zero, suc, false, T, cond, nat_eq, List, [], ◌∷◌, ◌++◌, get_or, length, map, take, Some, None, refl, sym, ap, subst, ◌∙◌, arith}
use Rattle.std.specs.FinMap as finmap
use Rattle.std.specs.FinMap.Entries.{below_all}
use Rattle.std.specs.FinMap.{entries_sorted, get-remove, is_sorted, nat_cmp-IsAntisymmetric}
use Rattle.std.specs.List.{AllByRecursion, IsDistinct, dedup}
use Rattle.std.specs.Option.{option_map_or}
use Rattle.std.specs.Cmp.{nat_cmp_total}
use Rattle.std.specs.Ordering.{nat_cmp, eq_by_cmp, is_lt}
use Rattle.std.proofs.lemmas.Bool.Decides.{nat_tests}
use Rattle.std.proofs.lemmas.List.{take_more}
use Rattle.std.proofs.lemmas.List.Kept.{IsStrictlySortedBy-dedup}
use Rattle.std.proofs.lemmas.List.Sums.{sum_by-cons}
use Rattle.std.proofs.lemmas.Map.Keys.{IsDistinct-from_sorted}
use Rattle.std.specs.List.Sorted.{IsSorted}
use Rattle.wot_types.specs.Keyring.{Keyring, cert_total, certs_at, key_certs}
use Rattle.wot_types.proofs.Removals.{sum_by-remove}
use Rattle.wot_types.proofs.Tests.{first_part, second_part, true_from_T}
use Rattle.wot_levels.specs.Frontier.{weight}

-- ---- lists with each key once

same_tests : eq_by_cmp nat_cmp ≡ nat_eq
same_tests = λ i x y. one x y i
  where
    one : (x y : ℕ) → eq_by_cmp nat_cmp x y ≡ nat_eq x y
    one x y = grind (arith, nat_tests)

pub distinct_sorted : (ids : List ℕ) → IsSorted nat_cmp ids → IsDistinct nat_eq (dedup nat_eq ids)
distinct_sorted ids h = subst (λ e. IsDistinct e (dedup nat_eq ids)) same_tests (IsDistinct-from_sorted nat_cmp (dedup nat_eq ids) (IsStrictlySortedBy-dedup nat_cmp_total ties ids h))
  where
    ties : (x y : ℕ) → nat_eq x y ≡ eq_by_cmp nat_cmp x y
    ties x y = grind (arith, nat_tests)

ties_not : (a b : ℕ) → T (is_lt (nat_cmp a b)) → nat_eq a b ≡ false
ties_not a b h = let less = true_from_T (is_lt (nat_cmp a b)) h in grind (arith, nat_tests, less)

module _ {X : Type 0} where
  beyond : (id : ℕ) (es : List (ℕ × X)) → T (below_all nat_cmp id es) → AllByRecursion (λ y. nat_eq id y ≡ false) (map (λ e. e.0) es)
  beyond id [] h = tt
  beyond id (e ∷ es) h = (ties_not id e.0 (first_part _ _ h), beyond id es (second_part _ _ h))

  distinct_entries : (es : List (ℕ × X)) → T (is_sorted nat_cmp es) → IsDistinct nat_eq (map (λ e. e.0) es)
  unfolding IsDistinct
  distinct_entries [] h = tt
  distinct_entries (e ∷ es) h = (beyond e.0 es (first_part _ _ h), distinct_entries es (second_part _ _ h))

pub distinct_keys : (keys : Keyring) → IsDistinct nat_eq (finmap.keys keys)
distinct_keys keys = distinct_entries (finmap.entries keys) (entries_sorted keys)

-- ---- a walk over a list by its places

pub next_of : (ids : List ℕ) (i x : ℕ) → i < length ids → x ≡ get_or ids i x → take (i + 1) ids ≡ take i ids ++ x ∷ []
next_of ids i x inside is = take_more ids i x inside ∙ ap (λ y. take i ids ++ y ∷ []) (sym is)

pub take_all : (ids : List ℕ) (i : ℕ) → length ids ≤ i → take i ids ≡ ids
take_all [] zero h = refl
take_all [] (suc i) h = refl
take_all (x ∷ ids) zero h = absurd (omega (arith, h))
take_all (x ∷ ids) (suc i) h = ap (λ xs. x ∷ xs) (take_all ids i (omega (arith, h)))

-- ---- sums over lists

pub weight_both : (keys : Keyring) (ids js : List ℕ) → weight keys (ids ++ js) ≡ weight keys ids + weight keys js
weight_both keys [] js = omega arith
weight_both keys (x ∷ ids) js =
    let all = sum_by-cons (certs_at keys) x (ids ++ js) in
    let first = sum_by-cons (certs_at keys) x ids in
    let rest = weight_both keys ids js in
    omega (arith, all, first, rest)

pub weight_take : (keys : Keyring) (ids : List ℕ) (i : ℕ) → weight keys (take i ids) ≤ weight keys ids
weight_take keys [] zero = omega arith
weight_take keys [] (suc i) = omega arith
weight_take keys (x ∷ ids) zero = omega arith
weight_take keys (x ∷ ids) (suc i) =
    let all = sum_by-cons (certs_at keys) x ids in
    let first = sum_by-cons (certs_at keys) x (take i ids) in
    let rest = weight_take keys ids i in
    omega (arith, all, first, rest)

pub weight_one : (keys : Keyring) (id : ℕ) → weight keys (id ∷ []) ≡ certs_at keys id
weight_one keys id = let all = sum_by-cons (certs_at keys) id [] in omega (arith, all)

apart : (x y : ℕ) → nat_eq x y ≡ false → eq_by_cmp nat_cmp y x ≡ false
apart x y h = grind (arith, nat_tests)

without : (keys : Keyring) (x : ℕ) (ids : List ℕ) → AllByRecursion (λ y. nat_eq x y ≡ false) ids → weight (finmap.remove keys x) ids ≡ weight keys ids
without keys x [] h = refl
without keys x (y ∷ ids) h =
    sum_by-cons (certs_at (finmap.remove keys x)) y ids
    ∙ (λ i. option_map_or key_certs ((get-remove nat_cmp_total keys x y ∙ ap (λ b. cond b None (finmap.get keys y)) (apart x y h.0)) i) 0 + without keys x ids h.1 i)
    ∙ sym (sum_by-cons (certs_at keys) y ids)

-- no more than those on all keys
pub weight_total : (keys : Keyring) (ids : List ℕ) → IsDistinct nat_eq ids → weight keys ids ≤ cert_total keys
unfolding IsDistinct
weight_total keys [] h = omega arith
weight_total keys (x ∷ ids) h = elim (finmap.get keys x) as (λ o. finmap.get keys x ≡ o → weight keys (x ∷ ids) ≤ cert_total keys) [
  | None ↦ λ none.
      let one = sum_by-cons (certs_at keys) x ids in
      let zero = ap (λ o. option_map_or key_certs o 0) none in
      let rest = weight_total keys ids h.1 in
      omega (arith, one, zero, rest)
  | Some key ↦ λ is.
      let one = sum_by-cons (certs_at keys) x ids in
      let here = ap (λ o. option_map_or key_certs o 0) is in
      let rest = weight_total (finmap.remove keys x) ids h.1 in
      let same = without keys x ids h.0 in
      let total = sum_by-remove nat_cmp_total nat_cmp-IsAntisymmetric key_certs keys x key is in
      omega (arith, one, here, rest, same, total)
] refl

-- ---- levels

pub once_more : (n c : ℕ) → 1 ≤ n → n * c ≡ (n - 1) * c + c
once_more zero c some = absurd (omega (arith, some))
once_more (suc n) c some = let here : suc n - 1 ≡ n = omega arith in grind (arith, here)

pub no_more_than : (a b c : ℕ) → a ≤ b → a * c ≤ b * c
no_more_than a b c h = grind arith
