-- Lists of keys that an edit names.
use Rattle.std.proofs.Common.{◌≡◌, ◌==◌, ◌&&◌, ◌||◌, ℕ, Bool, true, false, min, max, nat_eq, List, [], ◌∷◌, All, IsTrue, ◌↔◌, IfSome, Option, Some, None, refl, sym, ap, subst, ◌∙◌, arith}
use Rattle.std.specs.Cmp.Lexicographic.{pointwise}
use Rattle.std.specs.FinMap as map
use Rattle.std.specs.List.{Contains, list_any}
use Rattle.std.specs.Option.{option_map_or}
use Rattle.std.proofs.lemmas.Bool.Decides.{nat_tests}
use Rattle.wot_types.specs.declared.key.Key.{Key}
use Rattle.std.specs.Cmp.{nat_cmp_total, nat_eq_equiv}
use Rattle.std.specs.FinMap.{nat_cmp-IsAntisymmetric}
use Rattle.std.proofs.lemmas.Bool.{eqb-true, true≢false}
use Rattle.std.proofs.lemmas.Map.Views.{Contains-from_any, list_any-from_Contains}
use Rattle.std.proofs.lemmas.Bool.Decides.{Decides-eqb}
use Rattle.std.proofs.lemmas.Slice.Eq.{slice_eq-Decides}
use Rattle.wot_types.specs.Accepted.{IsFiled}
use Rattle.wot_types.specs.Fingerprint.{key_id_of}
use Rattle.wot_types.specs.Keyring.{Keyring, is_fpr_of}
use Rattle.wot_types.proofs.FinMaps.{IfSome-get}
use Rattle.wot_types.proofs.Tests.{is_key}
use Rattle.wot_types.specs.Indexes.{is_between}
use Rattle.wot_types.specs.NextCheck.{key_expiries}
use Rattle.wot_types.specs.Touched.{is_passed_between}
use Rattle.std.proofs.lemmas.Bool.{false_from_ne_true}
use Rattle.wot_live.specs.Recounting.{among, with_id}
use Rattle.wot_live.proofs.Lists.{among_with}

-- one thing more of a list, by the key that it names
pub named_more : {X : Type 0} (test : X → Bool) (list : List ℕ) (id : ℕ) (x : X) (xs : List X) (k : ℕ) → test x ≡ (id == k)
    → (among (with_id list id) k || list_any test xs) ≡ (among list k || list_any test (x ∷ xs))
named_more test list id x xs k same =
    ap (λ b. b || list_any test xs) (among_with list id k ∙ ap (λ b. among list k || b) (sym same)) ∙ joined (among list k) (test x) (list_any test xs)
  where
    joined : (a b d : Bool) → ((a || b) || d) ≡ (a || (b || d))
    joined true b d = refl
    joined false b d = refl

-- an expiry lies between two dates where one has passed it and the other hasn't
pub between_is : (a b e : ℕ) → is_between (min a b) (max a b) e ≡ is_passed_between a b e
between_is a b e = grind (arith, nat_tests)

pub any_between : (a b : ℕ) (es : List ℕ) → list_any (is_between (min a b) (max a b)) es ≡ list_any (is_passed_between a b) es
any_between a b [] = refl
any_between a b (e ∷ es) = λ i. between_is a b e i || any_between a b es i

pub dated : (a b : ℕ) (o : Option Key) → option_map_or (λ key. list_any (is_between (min a b) (max a b)) (key_expiries key)) o false ≡ option_map_or (λ key. list_any (is_passed_between a b) (key_expiries key)) o false
dated a b None = refl
dated a b (Some key) = any_between a b (key_expiries key)

pub each_way : (id : ℕ) (ids : List ℕ) → among ids id ≡ list_any (nat_eq id) ids
each_way id [] = refl
each_way id (k ∷ ids) = λ i. swapped id k i || each_way id ids i
  where
    swapped : (a b : ℕ) → (b == a) ≡ nat_eq a b
    swapped a b = grind (arith, nat_tests)

-- a list with exactly the numbers that pass a test
pub among_is : (ids : List ℕ) (id : ℕ) (passes : Bool) → Contains ids id ↔ IsTrue passes → among ids id ≡ passes
among_is ids id true exact = each_way id ids ∙ list_any-from_Contains nat_eq_equiv id ids (exact.1 refl)
among_is ids id false exact = false_from_ne_true (among ids id) (λ there. true≢false (sym (exact.0 (Contains-from_any eqb-true id ids (sym (each_way id ids) ∙ there)))))

-- only the key under its fingerprint's key ID is the key of a fingerprint
pub fpr_at : (keys : Keyring) (fpr : List ℕ) (id x : ℕ) → All IsFiled (map.entries keys) → key_id_of fpr ≡ id → is_fpr_of fpr (map.get keys x) ≡ ((id == x) && is_fpr_of fpr (map.get keys id))
fpr_at keys fpr id x filed its = elim (id == x) as (λ b. (id == x) ≡ b → is_fpr_of fpr (map.get keys x) ≡ (b && is_fpr_of fpr (map.get keys id))) [
  | true ↦ λ same. ap (λ k. is_fpr_of fpr (map.get keys k)) (sym (is_key id x same))
  | false ↦ λ other. at (map.get keys x) other (IfSome-get nat_cmp_total nat_cmp-IsAntisymmetric IsFiled keys x filed)
] refl
  where
    itself : (n : ℕ) → (n == n) ≡ true
    itself n = grind (arith, nat_tests)

    at : (o : Option Key) → (id == x) ≡ false → IfSome o (λ key. IsFiled (x, key)) → is_fpr_of fpr o ≡ false
    at None other h = refl
    at (Some key) other h = elim (pointwise nat_eq key.fpr fpr) as (λ b. pointwise nat_eq key.fpr fpr ≡ b → b ≡ false) [
      | true ↦ λ same.
          let one : key.fpr ≡ fpr = (slice_eq-Decides Decides-eqb key.fpr fpr (pointwise nat_eq key.fpr fpr) refl).0 same in
          let here : id ≡ x = sym its ∙ sym (ap key_id_of one) ∙ h.own_id in
          absurd (true≢false (sym (subst (λ k. (id == k) ≡ true) here (itself id)) ∙ other))
      | false ↦ λ _. refl
    ] refl
