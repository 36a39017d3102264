-- Walks over keys: of the keys of a map, of the next key of two, and the first key of a walk that fails a test, which is the least that fails it.
use Rattle.std.proofs.Common.{◌≡◌, ◌<◌, ◌≤◌, ◌==◌, ◌||◌, inl, inr, ℕ, T, Bool, true, false, cond, nat_le, List, [], ◌∷◌, find, map, Option, Some, None, refl, ap, ◌∙◌, arith}
use Rattle.std.specs.List.{AllByRecursion, list_any}
use Rattle.std.specs.declared.cmp.Ordering.TheVariants.{Less}
use Rattle.std.specs.FinMap as finmap
use Rattle.std.specs.FinMap.{FinMap, contains_key-keys, entries_sorted, is_sorted}
use Rattle.std.specs.FinMap.Entries.{below_all}
use Rattle.std.specs.Ordering.{nat_cmp, eq_by_cmp}
use Rattle.std.proofs.lemmas.Bool.{cases_order}
use Rattle.std.proofs.lemmas.Bool.Decides.{nat_tests}
use Rattle.wot_types.specs.Next.{IsAfter, IsNext}
use Rattle.wot_types.proofs.Nexts.{after_more}
use Rattle.wot_types.proofs.Tests.{first_part, less_from, same_key, second_part}
use Rattle.wot_check.specs.KeyWalk.{IsWalk, lesser}

-- nothing fails after this key, or this is the least that does
abbrev pub IsLeastFailing : (ℕ → Bool) → Option ℕ → Option ℕ → Type 0
IsLeastFailing fails after None = (x : ℕ) → IsAfter after x → fails x ≡ false
IsLeastFailing fails after (Some id) = (fails id ≡ true) × IsAfter after id × ((x : ℕ) → IsAfter after x → x < id → fails x ≡ false)

module _ (has fails : ℕ → Bool) (others : (x : ℕ) → has x ≡ false → fails x ≡ false) where
  -- a key that doesn't fail is passed
  passed : (after : Option ℕ) (id : ℕ) (found : Option ℕ) → IsNext has after (Some id) → fails id ≡ false → IsLeastFailing fails (Some id) found → IsLeastFailing fails after found
  passed after id found next good rest = elim found as (λ r. IsLeastFailing fails (Some id) r → IsLeastFailing fails after r) [
    | None ↦ λ none x later. at x later (λ more. none x more)
    | Some f ↦ λ least. (least.0, after_more after id f next.1 least.1, λ x later less. at x later (λ more. least.2 x more less))
  ] rest
    where
      at : (x : ℕ) → IsAfter after x → (id < x → fails x ≡ false) → fails x ≡ false
      at x later above = elim (cases_order x id) as (λ _. fails x ≡ false) [
        | inl same ↦ ap fails same ∙ good
        | inr order ↦ elim order as (λ _. fails x ≡ false) [ inl below ↦ others x (next.2 x later below) | inr more ↦ above more ]
      ]

  pub least_failing : (after : Option ℕ) (ids : List ℕ) → IsWalk has after ids → IsLeastFailing fails after (find fails ids)
  least_failing after [] walk = λ x later. others x (walk x later)
  least_failing after (id ∷ ids) walk =
      elim (fails id) as (λ b. fails id ≡ b → IsLeastFailing fails after (cond b (Some id) (find fails ids))) [
        | true ↦ λ bad. (bad, walk.0.1, λ x later less. others x (walk.0.2 x later less))
        | false ↦ λ good. passed after id (find fails ids) walk.0 good (least_failing (Some id) ids walk.1)
      ] refl

-- ---- the next key of two

module _ (a b : ℕ → Bool) where
  neither : (x : ℕ) → a x ≡ false → b x ≡ false → (a x || b x) ≡ false
  neither x p q = ap (λ t. t || b x) p ∙ q

  one_of : (x : ℕ) → a x ≡ true → (a x || b x) ≡ true
  one_of x p = ap (λ t. t || b x) p

  other_of : (x : ℕ) → b x ≡ true → (a x || b x) ≡ true
  other_of x p = elim (a x) as (λ t. (t || b x) ≡ true) [ true ↦ refl | false ↦ p ]

  pub next_of_two : (after m n : Option ℕ) → IsNext a after m → IsNext b after n → IsNext (λ x. a x || b x) after (lesser m n)
  next_of_two after None None p q = λ x later. neither x (p x later) (q x later)
  next_of_two after None (Some n) p q = (other_of n q.0, q.1, λ x later less. neither x (p x later) (q.2 x later less))
  next_of_two after (Some m) None p q = (one_of m p.0, p.1, λ x later less. neither x (p.2 x later less) (q x later))
  next_of_two after (Some m) (Some n) p q =
      elim (nat_le m n) as (λ t. nat_le m n ≡ t → IsNext (λ x. a x || b x) after (cond t (Some m) (Some n))) [
        | true ↦ λ is.
            let low : m ≤ n = grind (arith, nat_tests, is) in
            (one_of m p.0, p.1, λ x later less. neither x (p.2 x later less) (q.2 x later (omega (arith, less, low))))
        | false ↦ λ is.
            let low : n ≤ m = grind (arith, nat_tests, is) in
            (other_of n q.0, q.1, λ x later less. neither x (p.2 x later (omega (arith, less, low))) (q.2 x later less))
      ] refl

-- ---- rising key IDs are a walk over themselves

abbrev pub any_of : ℕ → List ℕ → Bool
any_of x ids = list_any (λ id. id == x) ids

abbrev AreAbove : ℕ → List ℕ → Type 0
AreAbove x ids = AllByRecursion (λ id. x < id) ids

abbrev AreRising : List ℕ → Type 0
AreRising [] = Unit {0}
AreRising (id ∷ ids) = AreAbove id ids × AreRising ids

not_below : (x id : ℕ) → x < id → (id == x) ≡ false
not_below x id less = grind (arith, nat_tests, less)

not_above : (x id : ℕ) → id < x → (id == x) ≡ false
not_above x id more = grind (arith, nat_tests, more)

itself : (id : ℕ) → (id == id) ≡ true
itself id = grind (arith, nat_tests)

none_among : (x id : ℕ) (ids : List ℕ) → x < id → AreAbove id ids → any_of x ids ≡ false
none_among x id [] less above = refl
none_among x id (y ∷ ids) less above = ap (λ b. b || any_of x ids) (not_below x y (omega (arith, less, above.0))) ∙ none_among x id ids less above.1

walk_of : (has : ℕ → Bool) (after : Option ℕ) (ids : List ℕ) → AreRising ids → AllByRecursion (IsAfter after) ids → ((x : ℕ) → IsAfter after x → has x ≡ any_of x ids) → IsWalk has after ids
walk_of has after [] rising later is = is
walk_of has after (id ∷ ids) rising later is = (
  (
    is id later.0 ∙ ap (λ b. b || any_of id ids) (itself id),
    later.0,
    λ x l less. is x l ∙ ap (λ b. b || any_of x ids) (not_below x id less) ∙ none_among x id ids less rising.0,
  ),
  walk_of has (Some id) ids rising.1 rising.0 (λ x above. is x (after_more after id x later.0 above) ∙ ap (λ b. b || any_of x ids) (not_above x id above)),
)

-- ---- the keys of a map

less_than : (a b : ℕ) → nat_cmp a b ≡ Less → a < b
less_than a b is = grind (arith, nat_tests, is)

pub any_by_order : (x : ℕ) (ids : List ℕ) → list_any (eq_by_cmp nat_cmp x) ids ≡ any_of x ids
any_by_order x ids = λ i. list_any (λ id. same_key x id i) ids

module _ {X : Type 0} where
  abbrev pub ids_of : List (ℕ × X) → List ℕ
  ids_of es = map (λ e. e.0) es

  above_from : (id : ℕ) (es : List (ℕ × X)) → T (below_all nat_cmp id es) → AreAbove id (ids_of es)
  above_from id [] below = tt
  above_from id (e ∷ es) below = (less_than id e.0 (less_from _ (first_part _ _ below)), above_from id es (second_part _ _ below))

  rising_from : (es : List (ℕ × X)) → T (is_sorted nat_cmp es) → AreRising (ids_of es)
  rising_from [] sorted = tt
  rising_from (e ∷ es) sorted = (above_from e.0 es (first_part _ _ sorted), rising_from es (second_part _ _ sorted))

  pub has_among : (m : FinMap nat_cmp X) (x : ℕ) → finmap.contains_key m x ≡ any_of x (finmap.keys m)
  has_among m x = contains_key-keys m x ∙ any_by_order x (finmap.keys m)

all_later : (ids : List ℕ) → AllByRecursion (IsAfter None) ids
all_later [] = tt
all_later (id ∷ ids) = (tt, all_later ids)

module _ {X : Type 0} where
  -- the keys of a map are a walk over whatever has these alone
  pub walk_by : (has : ℕ → Bool) (m : FinMap nat_cmp X) → ((x : ℕ) → has x ≡ any_of x (finmap.keys m)) → IsWalk has None (finmap.keys m)
  walk_by has m is = walk_of has None (finmap.keys m) (rising_from (finmap.entries m) (entries_sorted m)) (all_later (finmap.keys m)) (λ x _. is x)

  pub keys_walk : (m : FinMap nat_cmp X) → IsWalk (λ id. finmap.contains_key m id) None (finmap.keys m)
  keys_walk m = walk_by (λ id. finmap.contains_key m id) m (has_among m)
