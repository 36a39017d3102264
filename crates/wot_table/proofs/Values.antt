-- What some value of a finite map passes, and which key it stands under.
use Rattle.std.proofs.Common.{◌≡◌, ◌||◌, ℕ, T, Bool, true, false, cond, List, [], ◌∷◌, map, Some, nat_cmp, refl, sym, ap, ◌∙◌, arith}
use Rattle.std.proofs.Math.Bool.{or-true}
use Rattle.std.specs.FinMap.{FinMap, entries, entries_sorted, find, get, get-entries, is_sorted, values}
use Rattle.std.specs.FinMap.Entries.{below_all}
use Rattle.std.specs.List.{list_any}
use Rattle.std.specs.declared.cmp.Ordering.{Ordering}
use Rattle.std.specs.declared.cmp.Ordering.TheVariants.{Less, Equal, Greater}
use Rattle.std.specs.Ordering.{eq_by_cmp, is_lt}
use Rattle.std.proofs.lemmas.Bool.Decides.{nat_tests}
use Rattle.wot_types.proofs.Tests.{first_part, second_part}

apart : (a k b : ℕ) → eq_by_cmp nat_cmp k b ≡ true → T (is_lt (nat_cmp a b)) → eq_by_cmp nat_cmp k a ≡ false
apart a k b e l = less (nat_cmp a b) refl l
  where
    unequal : (a k b : ℕ) → eq_by_cmp nat_cmp k b ≡ true → is_lt (nat_cmp a b) ≡ true → eq_by_cmp nat_cmp k a ≡ false
    unequal a k b e l = grind (arith, nat_tests)

    less : (o : Ordering) → nat_cmp a b ≡ o → T (is_lt o) → eq_by_cmp nat_cmp k a ≡ false
    less Less is l = unequal a k b e (ap is_lt is)
    less Equal is l = absurd l
    less Greater is l = absurd l

at_itself : (k : ℕ) → eq_by_cmp nat_cmp k k ≡ true
at_itself k = grind (arith, nat_tests)

module _ {X : Type 0} where
  -- what is found among entries that another is below has another key
  another : (a k : ℕ) (v : X) (es : List (ℕ × X)) → T (below_all nat_cmp a es) → find nat_cmp k es ≡ Some v → eq_by_cmp nat_cmp k a ≡ false
  another a k v [] below found = cc
  another a k v (e ∷ es) below found =
      elim (eq_by_cmp nat_cmp k e.0) as (λ b. eq_by_cmp nat_cmp k e.0 ≡ b → cond b (Some e.1) (find nat_cmp k es) ≡ Some v → eq_by_cmp nat_cmp k a ≡ false) [
        | true ↦ λ t _. apart a k e.0 t (first_part _ _ below)
        | false ↦ λ _ f. another a k v es (second_part _ _ below) f
      ] refl found

  entry_found : (test : X → Bool) (es : List (ℕ × X)) → T (is_sorted nat_cmp es) → list_any test (map (λ e. e.1) es) ≡ true
      → (k : ℕ) × (v : X) × (find nat_cmp k es ≡ Some v) × (test v ≡ true)
  entry_found test [] sorted any = cc
  entry_found test (e ∷ es) sorted any =
      elim (test e.1) as (λ b. test e.1 ≡ b → (b || list_any test (map (λ e. e.1) es)) ≡ true → (k : ℕ) × (v : X) × (find nat_cmp k (e ∷ es) ≡ Some v) × (test v ≡ true)) [
        | true ↦ λ t _. (e.0, e.1, ap (λ b. cond b (Some e.1) (find nat_cmp e.0 es)) (at_itself e.0), t)
        | false ↦ λ _ g.
            let rest = entry_found test es (second_part _ _ sorted) g in
            (rest.0, rest.1, ap (λ b. cond b (Some e.1) (find nat_cmp rest.0 es)) (another e.0 rest.0 rest.1 es (first_part _ _ sorted) rest.2) ∙ rest.2, rest.3)
      ] refl any

  entry_passes : (test : X → Bool) (es : List (ℕ × X)) (k : ℕ) (v : X) → find nat_cmp k es ≡ Some v → test v ≡ true → list_any test (map (λ e. e.1) es) ≡ true
  entry_passes test [] k v found passes = cc
  entry_passes test (e ∷ es) k v found passes =
      elim (eq_by_cmp nat_cmp k e.0) as (λ b. cond b (Some e.1) (find nat_cmp k es) ≡ Some v → (test e.1 || list_any test (map (λ e. e.1) es)) ≡ true) [
        | true ↦ λ f. ap (λ b. b || list_any test (map (λ e. e.1) es)) (same e.1 f)
        | false ↦ λ f. ap (λ b. test e.1 || b) (entry_passes test es k v f passes) ∙ or-true (test e.1)
      ] found
    where
      same : (w : X) → Some w ≡ Some v → test w ≡ true
      same w f = cc

  pub value_found : (test : X → Bool) (m : FinMap nat_cmp X) → list_any test (values m) ≡ true → (k : ℕ) × (v : X) × (get m k ≡ Some v) × (test v ≡ true)
  value_found test m any =
      let found = entry_found test (entries m) (entries_sorted m) any in
      (found.0, found.1, get-entries m found.0 ∙ found.2, found.3)

  pub value_passes : (test : X → Bool) (m : FinMap nat_cmp X) (k : ℕ) (v : X) → get m k ≡ Some v → test v ≡ true → list_any test (values m) ≡ true
  value_passes test m k v there passes = entry_passes test (entries m) k v (sym (get-entries m k) ∙ there) passes
