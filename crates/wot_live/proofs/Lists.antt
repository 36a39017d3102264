-- A list of keys that grows, each there once.
use Rattle.std.proofs.Common.{◌≡◌, ◌<◌, ◌==◌, ◌&&◌, ◌||◌, ◌⊎◌, inl, inr, ℕ, Bool, true, false, cond, nat_eq, nat_le, List, [], ◌∷◌, ◌++◌, Option, Some, None, refl, sym, ap, subst, ◌∙◌, append_assoc, append-nil, arith}
use Rattle.std.specs.List.{AllByRecursion, IsDistinct}
use Rattle.std.proofs.lemmas.Bool.{false≢true, true≢false}
use Rattle.std.proofs.lemmas.Bool.Decides.{nat_tests}
use Rattle.std.proofs.lemmas.List.Folds.{list_any-append}
use Rattle.std.proofs.Math.Bool.{or-true, or-false}
use Rattle.wot_types.specs.Explanation.{KeySet}
use Rattle.wot_types.specs.Next.{IsAfter, IsNext}
use Rattle.wot_types.proofs.Tests.{is_key}
use Rattle.wot_levels.proofs.Halfway.{is_done}
use Rattle.wot_live.specs.Recounting.{IsGrownBy, among, with_id}

among_append : (xs ys : List ℕ) (k : ℕ) → among (xs ++ ys) k ≡ (among xs k || among ys k)
among_append xs ys k = list_any-append (λ id. id == k) xs ys

among_one : (id k : ℕ) → among (id ∷ []) k ≡ (id == k)
among_one id k = or-false (id == k)

pub among_pushed : (xs : List ℕ) (id k : ℕ) → among (xs ++ id ∷ []) k ≡ (among xs k || (id == k))
among_pushed xs id k = among_append xs (id ∷ []) k ∙ ap (λ b. among xs k || b) (among_one id k)

first_of : (a b : Bool) → (a || b) ≡ false → a ≡ false
first_of true b e = e
first_of false b e = refl

second_of : (a b : Bool) → (a || b) ≡ false → b ≡ false
second_of true b e = absurd (true≢false e)
second_of false b e = e

-- one more key that wasn't there
pub distinct_more : (ids : List ℕ) (id : ℕ) → IsDistinct nat_eq ids → among ids id ≡ false → IsDistinct nat_eq (ids ++ id ∷ [])
unfolding IsDistinct
distinct_more [] id h out = (tt, tt)
distinct_more (x ∷ xs) id h out = (all xs h.0, distinct_more xs id h.1 (second_of (x == id) (among xs id) out))
  where
    other : (a b : ℕ) → (a == b) ≡ false → nat_eq a b ≡ false
    other a b e = e

    all : (ys : List ℕ) → AllByRecursion (λ y. nat_eq x y ≡ false) ys → AllByRecursion (λ y. nat_eq x y ≡ false) (ys ++ id ∷ [])
    all [] k = (other x id (first_of (x == id) (among xs id) out), tt)
    all (y ∷ ys) k = (k.0, all ys k.1)

pub distinct_none : IsDistinct nat_eq []
unfolding IsDistinct
distinct_none = tt

-- ---- growth

pub grown_at_start : (set : KeySet) (ids : List ℕ) → ((x : ℕ) → set x ≡ false) → IsGrownBy set ids ids
grown_at_start set ids none = record {
  longer = ([], sym (append-nil ids));
  all = λ x its. absurd (false≢true (sym (none x) ∙ its));
  only = λ x its. inl its;
}

either_of : (a b : Bool) → (a || b) ≡ true → (a ≡ true) ⊎ (b ≡ true)
either_of true b e = inl refl
either_of false b e = inr e

with_id_longer : (ids : List ℕ) (id : ℕ) → (added : List ℕ) × (with_id ids id ≡ ids ++ added)
with_id_longer ids id = elim (among ids id) as (λ b. (added : List ℕ) × (cond b ids (ids ++ id ∷ []) ≡ ids ++ added)) [
  | true ↦ ([], sym (append-nil ids))
  | false ↦ (id ∷ [], refl)
]

pub among_with : (ids : List ℕ) (id k : ℕ) → among (with_id ids id) k ≡ (among ids k || (id == k))
among_with ids id k = elim (among ids id) as (λ b. among ids id ≡ b → among (cond b ids (ids ++ id ∷ [])) k ≡ (among ids k || (id == k))) [
  | true ↦ λ there. elim (id == k) as (λ b. (id == k) ≡ b → among ids k ≡ (among ids k || b)) [
    | true ↦ λ same. ap (among ids) (sym (is_key id k same)) ∙ there ∙ sym (or-true (among ids k))
    | false ↦ λ _. sym (or-false (among ids k))
  ] refl
  | false ↦ λ _. among_pushed ids id k
] refl

-- one more key of the set, beside those that came in before
pub grown_more : (set next : KeySet) (old now : List ℕ) (id : ℕ) → IsGrownBy set old now → next id ≡ true → ((x : ℕ) → set x ≡ true → next x ≡ true) → ((x : ℕ) → next x ≡ true → (id == x) ≡ false → set x ≡ true)
    → IsGrownBy next old (with_id now id)
grown_more set next old now id grown its wider only_one = record {
  longer = (grown.longer.0 ++ longer.0, longer.1 ∙ ap (λ xs. xs ++ longer.0) grown.longer.1 ∙ append_assoc old grown.longer.0 longer.0);
  all = λ x h. among_with now id x ∙ elim (id == x) as (λ b. (id == x) ≡ b → (among now x || b) ≡ true) [
    | true ↦ λ _. or-true (among now x)
    | false ↦ λ other. ap (λ b. b || false) (grown.all x (only_one x h other))
  ] refl;
  only = λ x h. elim (either_of (among now x) (id == x) (sym (among_with now id x) ∙ h)) as (λ _. (among old x ≡ true) ⊎ (next x ≡ true)) [
    | inl there ↦ elim (grown.only x there) as (λ _. (among old x ≡ true) ⊎ (next x ≡ true)) [ inl before ↦ inl before | inr in_set ↦ inr (wider x in_set) ]
    | inr same ↦ inr (sym (ap next (is_key id x same)) ∙ its)
  ];
}
  where
    longer : (added : List ℕ) × (with_id now id ≡ now ++ added)
    longer = with_id_longer now id

pub grown_push : (xs old now : List ℕ) (id : ℕ) → IsGrownBy (among xs) old now → IsGrownBy (among (xs ++ id ∷ [])) old (with_id now id)
grown_push xs old now id grown =
    grown_more (among xs) (among (xs ++ id ∷ [])) old now id grown (among_pushed xs id id ∙ ap (λ b. among xs id || b) (itself id) ∙ or-true (among xs id))
    (λ x h. among_pushed xs id x ∙ ap (λ b. b || (id == x)) h)
    (λ x h other. sym (or-false (among xs x)) ∙ ap (λ b. among xs x || b) (sym other) ∙ sym (among_pushed xs id x) ∙ h)
  where
    itself : (n : ℕ) → (n == n) ≡ true
    itself n = grind (arith, nat_tests)

pub grown_same : (set next : KeySet) (old now : List ℕ) → IsGrownBy set old now → ((x : ℕ) → set x ≡ next x) → IsGrownBy next old now
grown_same set next old now grown same = record {
  longer = grown.longer;
  all = λ x h. grown.all x (same x ∙ h);
  only = λ x h. elim (grown.only x h) as (λ _. (among old x ≡ true) ⊎ (next x ≡ true)) [ inl before ↦ inl before | inr its ↦ inr (sym (same x) ∙ its) ];
}

-- which keys are there
pub grown_members : (set : KeySet) (old new : List ℕ) → IsGrownBy set old new → (x : ℕ) → among new x ≡ (among old x || set x)
grown_members set old new grown x =
    equal (among new x) (among old x) (set x) (λ h. ap (λ xs. among xs x) grown.longer.1 ∙ among_append old grown.longer.0 x ∙ ap (λ b. b || among grown.longer.0 x) h) (grown.all x) (grown.only x)
  where
    equal : (n o b : Bool) → (o ≡ true → n ≡ true) → (b ≡ true → n ≡ true) → (n ≡ true → (o ≡ true) ⊎ (b ≡ true)) → n ≡ (o || b)
    equal n true b up all only = up refl
    equal n false true up all only = all refl
    equal true false false up all only = elim (only refl) as (λ _. true ≡ false) [ inl e ↦ sym e | inr e ↦ sym e ]
    equal false false false up all only = refl

-- ---- a walk over the keys of a set in rising order

abbrev pub passed : KeySet → Option ℕ → KeySet
passed set after x = is_done after x && set x

both : (a b : Bool) → a ≡ true → b ≡ true → (a && b) ≡ true
both true b h k = k
both false b h k = absurd (false≢true h)

low_itself : (n : ℕ) → nat_le n n ≡ true
low_itself n = grind (arith, nat_tests)

before_next : (after : Option ℕ) (id x : ℕ) → IsAfter after id → is_done after x ≡ true → nat_le x id ≡ true
before_next None id x h d = absurd (false≢true d)
before_next (Some a) id x h d = grind (arith, nat_tests)

is_after : (after : Option ℕ) (k : ℕ) → is_done after k ≡ false → IsAfter after k
is_after None k h = tt
is_after (Some a) k h = grind (arith, nat_tests)

below : (id k : ℕ) → (id == k) ≡ false → nat_le k id ≡ true → k < id
below id k e l = grind (arith, nat_tests)

-- the keys so far, with the next one
pub passed_more : (set : KeySet) (after : Option ℕ) (ids : List ℕ) (id : ℕ) → IsNext set after (Some id) → ((x : ℕ) → among ids x ≡ passed set after x) → (x : ℕ) → among (ids ++ id ∷ []) x ≡ passed set (Some id) x
passed_more set after ids id next is x =
    among_pushed ids id x ∙ ap (λ b. b || (id == x)) (is x)
    ∙ elim (id == x) as (λ b. (id == x) ≡ b → (passed set after x || b) ≡ passed set (Some id) x) [
      | true ↦ λ same. or-true (passed set after x) ∙ sym (subst (λ k. passed set (Some id) k ≡ true) (is_key id x same) (both (nat_le id id) (set id) (low_itself id) next.0))
      | false ↦ λ other. or-false (passed set after x) ∙ elim (is_done after x) as (λ d. is_done after x ≡ d → (d && set x) ≡ (nat_le x id && set x)) [
        | true ↦ λ done. ap (λ b. b && set x) (sym (before_next after id x next.1 done))
        | false ↦ λ ahead. elim (nat_le x id) as (λ l. nat_le x id ≡ l → false ≡ (l && set x)) [
          | true ↦ λ low. sym (next.2 x (is_after after x ahead) (below id x other low))
          | false ↦ λ _. refl
        ] refl
      ] refl
    ] refl

pub passed_all : (set : KeySet) (after : Option ℕ) (ids : List ℕ) → IsNext set after None → ((x : ℕ) → among ids x ≡ passed set after x) → (x : ℕ) → among ids x ≡ set x
passed_all set after ids next is x = is x ∙ elim (is_done after x) as (λ d. is_done after x ≡ d → (d && set x) ≡ set x) [
  | true ↦ λ _. refl
  | false ↦ λ ahead. sym (next x (is_after after x ahead))
] refl
