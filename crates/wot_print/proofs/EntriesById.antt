-- Ownertrust that is walked in the order of key IDs.
use Rattle.std.proofs.Common.{◌≡◌, ℕ, ◌<◌, ◌≤◌, T, cond, List, [], ◌∷◌, All, IfSome, Option, Some, None, length, map, unwrap_or, refl, sym, ap, ◌∙◌, arith}
use Rattle.std.specs.Cmp.{IsTotalOrder, tied_itself}
use Rattle.std.specs.FinMap.{FinMap, entries, entries_sorted, find, get, get-entries, is_sorted}
use Rattle.std.specs.FinMap.Entries.{below_all}
use Rattle.std.specs.List.{HoldsAt}
use Rattle.std.specs.Ordering.{is_eq, ordering_reverse}
use Rattle.std.specs.declared.cmp.Ordering.{Ordering}
use Rattle.std.proofs.lemmas.List.Elements.{All-cons, All-head, All-map, All-nil, All-tail, All-weaker}
use Rattle.std.proofs.lemmas.List.Sorted.{All-permutation, IsNonDecreasingBy-from_sort, IsPermutation-sym}
use Rattle.wot_types.specs.declared.ownertrust.Ownertrust.{Ownertrust}
use Rattle.wot_types.specs.Fingerprint.{key_id_of}
use Rattle.wot_types.specs.Ownertrust.{OwnertrustMap, ownertrust_of, unset}
use Rattle.wot_types.proofs.FinMaps.{IfSome-get}
use Rattle.wot_types.proofs.Fingerprints.{fpr_cmp_total, fpr_cmp-IsAntisymmetric}
use Rattle.wot_types.proofs.Tests.{first_part, less_from, second_part}
use Rattle.wot_print.specs.declared.ownertrust_walk.EntryById.{EntryById}
use Rattle.wot_print.specs.OwnertrustWalk.{AreWalked, by_id, seen}

module _ {K X : Type 0} {R : K → K → Ordering} (o : IsTotalOrder R) where
  abbrev IsFound : List (K × X) → K × X → Type 0
  IsFound es e = find R e.0 es ≡ Some e.1

  -- an entry below them is in the way of none
  found_above : (d : K × X) (all es : List (K × X)) → T (below_all R d.0 es) → All (IsFound all) es → All (IsFound (d ∷ all)) es
  found_above d all [] below h = All-nil (IsFound (d ∷ all))
  found_above d all (e ∷ es) below h =
      let greater = o.antisymm e.0 d.0 ∙ ap ordering_reverse (less_from _ (first_part _ _ below)) in
      All-cons (IsFound (d ∷ all)) e es (ap (λ r. cond (is_eq r) (Some d.1) (find R e.0 all)) greater ∙ All-head (IsFound all) e es h)
      (found_above d all es (second_part _ _ below) (All-tail (IsFound all) e es h))

  each_found : (es : List (K × X)) → T (is_sorted R es) → All (IsFound es) es
  each_found [] h = All-nil (IsFound [])
  each_found (e ∷ es) h =
      All-cons (IsFound (e ∷ es)) e es (ap (λ r. cond (is_eq r) (Some e.1) (find R e.0 es)) (tied_itself o e.0))
      (found_above e es es (first_part _ _ h) (each_found es (second_part _ _ h)))

  -- each entry of a map is found in it
  entries_found : (m : FinMap R X) → All (λ e. get m e.0 ≡ Some e.1) (entries m)
  entries_found m = All-weaker (IsFound (entries m)) (λ e. get m e.0 ≡ Some e.1) (λ e p. get-entries m e.0 ∙ p) (entries m) (each_found (entries m) (entries_sorted m))

-- what holds of each as it is seen
all_seen_of : {X Y : Type 0} (P : Y → Type 0) (f : X → Y) (xs : List X) → All P (map f xs) → All (λ x. P (f x)) xs
all_seen_of P f [] h = All-nil (λ x. P (f x))
all_seen_of P f (x ∷ xs) h = All-cons (λ x. P (f x)) x xs (All-head P (f x) (map f xs) h) (all_seen_of P f xs (All-tail P (f x) (map f xs) h))

module _ (trusts : OwnertrustMap) (from : ℕ) (held : List EntryById) (passed : ℕ) (are : AreWalked trusts from held passed) where
  abbrev IsKept : ℕ × List ℕ × Ownertrust → Type 0
  IsKept t = get trusts t.1 ≡ Some t.2

  -- each is kept
  pub each_kept : All (λ entry. get trusts entry.fpr.now ≡ Some entry.kept) held
  each_kept = all_seen_of IsKept seen held (All-permutation IsKept _ _ are.whole (All-map IsKept by_id (entries trusts) (entries_found fpr_cmp_total trusts)))

  abbrev IsOther : ℕ × List ℕ × Ownertrust → Type 0
  IsOther t = t.0 ≡ from → ⊥

  abbrev pub IsOtherAhead : List EntryById → Type 0
  IsOtherAhead es = passed < length es → HoldsAt (λ entry. IsOther (seen entry)) es passed

  others : IsOtherAhead held → All (λ entry. IsOther (seen entry)) held
  others other k d h same =
      let up = IsNonDecreasingBy-from_sort (λ (entry : EntryById). entry.id) held are.rising in
      let before : k < passed → ⊥ = λ l. omega (arith, are.parted.0 k d (omega arith) l, same) in
      let behind : passed ≤ k → ⊥ = λ l. other (omega arith) d (omega (arith, are.parted.1 passed d (omega arith) (omega arith), up passed k d l h, same)) in
      omega (arith, before, behind)

  module _ (fpr : List ℕ) (own : from ≡ key_id_of fpr) where
    unkept : (kept : Option Ownertrust) → IfSome kept (λ _. IsOther (by_id (fpr, unset))) → unset ≡ unwrap_or kept unset
    unkept None h = refl
    unkept (Some kept) h = absurd (h (sym own))

    -- a fingerprint isn't kept if the first entry that isn't passed is of another key ID
    pub none_kept : IsOtherAhead held → unset ≡ ownertrust_of trusts fpr
    none_kept other =
        let all = All-permutation IsOther _ _ (IsPermutation-sym _ _ are.whole) (All-map IsOther seen held (others other)) in
        unkept (get trusts fpr) (IfSome-get fpr_cmp_total fpr_cmp-IsAntisymmetric (λ e. IsOther (by_id e)) trusts fpr (all_seen_of IsOther by_id (entries trusts) all))
