-- The next expiry and the keys with an expiry between two dates, as the index by expiry tells them.
use Rattle.std.proofs.Common.{◌≡◌, ◌==◌, ◌&&◌, ◌||◌, ℕ, ◌<◌, ◌≤◌, Bool, true, false, cond, List, [], ◌∷◌, filter, nat_lt, nat_le, Option, Some, None, refl, sym, ap, ◌∙◌, arith}
use Rattle.std.proofs.Math.Bool.{or-true}
use Rattle.std.specs.FinMap as finmap
use Rattle.std.specs.List.{flat_map, list_any}
use Rattle.std.specs.Option.{option_map_or}
use Rattle.std.proofs.lemmas.Bool.Decides.{nat_tests}
use Rattle.std.proofs.lemmas.List.Folds.{list_any-append}
use Rattle.wot_types.specs.declared.key.Key.{Key}
use Rattle.wot_types.specs.Indexes.{has_expiry_between, is_between}
use Rattle.wot_types.specs.Keyring.{Keyring}
use Rattle.wot_types.specs.NextCheck.{key_expiries, sooner_of, soonest_after, soonest_of}
use Rattle.wot_types.specs.Soonest.{next_expiry, none_at_0}
use Rattle.wot_table.specs.declared.heading.Heading.TheVariants.{Expiry}
use Rattle.wot_table.specs.Headings.{AgreesWith, is_one_of, is_under}
use Rattle.wot_table.proofs.Values.{value_found, value_passes}

abbrev if_after : ℕ → ℕ → ℕ
if_after date expires = cond (nat_lt date expires) expires 0

-- the first expiry, if it comes after the date, and the others
soonest_after-cons : (date e : ℕ) (es : List ℕ) → soonest_after date (e ∷ es) ≡ sooner_of (if_after date e) (soonest_after date es)
soonest_after-cons date e es =
    elim (nat_lt date e) as (λ b. soonest_of (cond b (e ∷ filter (λ x. nat_lt date x) es) (filter (λ x. nat_lt date x) es)) ≡ sooner_of (cond b e 0) (soonest_after date es)) [ true ↦ refl | false ↦ refl ]

-- whether an expiry lies between two dates, told by the soonest after the first
reached : (date limit : ℕ) (es : List ℕ) → (nat_lt 0 (soonest_after date es) && nat_le (soonest_after date es) limit) ≡ list_any (is_between date limit) es
reached date limit [] = refl
reached date limit (e ∷ es) =
    ap (λ n. nat_lt 0 n && nat_le n limit) (soonest_after-cons date e es)
    ∙ step date limit e (soonest_after date es) (list_any (is_between date limit) es) (reached date limit es)
  where
    step : (d l e s : ℕ) (any : Bool) → (nat_lt 0 s && nat_le s l) ≡ any
        → (nat_lt 0 (sooner_of (if_after d e) s) && nat_le (sooner_of (if_after d e) s) l) ≡ ((nat_lt d e && nat_le e l) || any)
    step d l e s true h = grind (arith, nat_tests)
    step d l e s false h = grind (arith, nat_tests)

same_reach : (s t : ℕ) → ((l : ℕ) → (nat_lt 0 s && nat_le s l) ≡ (nat_lt 0 t && nat_le t l)) → s ≡ t
same_reach s t h = both s t (h s) (h t)
  where
    both : (s t : ℕ) → (nat_lt 0 s && nat_le s s) ≡ (nat_lt 0 t && nat_le t s) → (nat_lt 0 s && nat_le s t) ≡ (nat_lt 0 t && nat_le t t) → s ≡ t
    both s t a b = grind (arith, nat_tests)

-- a number that passes and is one of them
number_found : (test : ℕ → Bool) (es : List ℕ) → list_any test es ≡ true → (e : ℕ) × (test e ≡ true) × (is_one_of e es ≡ true)
number_found test [] any = cc
number_found test (e ∷ es) any =
    elim (test e) as (λ b. test e ≡ b → (b || list_any test es) ≡ true → (n : ℕ) × (test n ≡ true) × (is_one_of n (e ∷ es) ≡ true)) [
      | true ↦ λ t _. (e, t, ap (λ b. b || is_one_of e es) (itself e))
      | false ↦ λ _ g. let rest = number_found test es g in (rest.0, rest.1, ap (λ b. (e == rest.0) || b) rest.2 ∙ or-true (e == rest.0))
    ] refl any
  where
    itself : (n : ℕ) → (n == n) ≡ true
    itself n = grind (arith, nat_tests)

number_passes : (test : ℕ → Bool) (es : List ℕ) (n : ℕ) → is_one_of n es ≡ true → test n ≡ true → list_any test es ≡ true
number_passes test [] n among passes = cc
number_passes test (e ∷ es) n among passes =
    elim (e == n) as (λ b. (e == n) ≡ b → (b || is_one_of n es) ≡ true → (test e || list_any test es) ≡ true) [
      | true ↦ λ t _. ap (λ m. test m || list_any test es) (same e n t) ∙ ap (λ b. b || list_any test es) passes
      | false ↦ λ _ g. ap (λ b. test e || b) (number_passes test es n g passes) ∙ or-true (test e)
    ] refl among
  where
    same : (e n : ℕ) → (e == n) ≡ true → e ≡ n
    same e n t = grind (arith, nat_tests)

any_of_all : (test : ℕ → Bool) (keys : List Key) → list_any test (flat_map key_expiries keys) ≡ list_any (λ key. list_any test (key_expiries key)) keys
any_of_all test [] = refl
any_of_all test (key ∷ keys) =
    list_any-append test (key_expiries key) (flat_map key_expiries keys) ∙ ap (λ b. list_any test (key_expiries key) || b) (any_of_all test keys)

both_ways : (a b : Bool) → (a ≡ true → b ≡ true) → (b ≡ true → a ≡ true) → a ≡ b
both_ways true b f g = sym (f refl)
both_ways false true f g = g refl
both_ways false false f g = refl

second_test : (a b : Bool) → (a && b) ≡ true → b ≡ true
second_test true b h = h
second_test false b h = cc

both_tests : (a b : Bool) → a ≡ true → b ≡ true → (a && b) ≡ true
both_tests true b h k = k
both_tests false b h k = cc

positive : (a b : ℕ) → a < b → nat_lt 0 b ≡ true
positive a b h = grind (arith, nat_tests)

between_from : (from to n : ℕ) → from < n → n ≤ to → is_between from to n ≡ true
between_from from to n a b = grind (arith, nat_tests)

above_from : (from to n : ℕ) → is_between from to n ≡ true → from < n
above_from from to n h = grind (arith, nat_tests)

upto_from : (from to n : ℕ) → is_between from to n ≡ true → n ≤ to
upto_from from to n h = grind (arith, nat_tests)

absurd_from : (b : Bool) → b ≡ true → b ≡ false → ⊥
absurd_from b h k = cc

zero : (s : ℕ) (b : Bool) → (nat_lt 0 s && nat_le s s) ≡ b → (b ≡ true → ⊥) → s ≡ 0
zero s true e f = absurd (f refl)
zero s false e f = grind (arith, nat_tests)

module _ (keys : Keyring) (has : ℕ → ℕ → Bool) (agrees : AgreesWith has Expiry keys) where
  -- the key under a number
  under_found : (n : ℕ) (found : Option Key) → is_under Expiry n found ≡ true → (key : Key) × (found ≡ Some key) × (is_one_of n (key_expiries key) ≡ true)
  under_found n None h = cc
  under_found n (Some key) h = (key, refl, second_test _ _ h)

  stands : (n id : ℕ) → has n id ≡ true → (key : Key) × (finmap.get keys id ≡ Some key) × (is_one_of n (key_expiries key) ≡ true)
  stands n id h = under_found n (finmap.get keys id) (sym (agrees n id) ∙ h)

  has_from : (now n id : ℕ) (key : Key) → now < n → finmap.get keys id ≡ Some key → is_one_of n (key_expiries key) ≡ true → has n id ≡ true
  has_from now n id key above there among = agrees n id ∙ ap (is_under Expiry n) there ∙ both_tests _ _ (positive now n above) among

  pub between_found : (from to n id : ℕ) → from < n → n ≤ to → has n id ≡ true → has_expiry_between keys from to id ≡ true
  between_found from to n id a b h =
      let key = stands n id h in
      ap (λ found. option_map_or (λ key. list_any (is_between from to) (key_expiries key)) found false) key.1
      ∙ number_passes (is_between from to) (key_expiries key.0) n key.2 (between_from from to n a b)

  pub between_stands : (from to id : ℕ) → has_expiry_between keys from to id ≡ true → (n : ℕ) × (from < n) × (n ≤ to) × (has n id ≡ true)
  between_stands from to id h =
      let key = some_key (finmap.get keys id) h in
      let e = number_found (is_between from to) (key_expiries key.0) key.2 in
      (e.0, above_from from to e.0 e.1, upto_from from to e.0 e.1, has_from from e.0 id key.0 (above_from from to e.0 e.1) key.1 e.2)
    where
      some_key : (found : Option Key) → option_map_or (λ key. list_any (is_between from to) (key_expiries key)) found false ≡ true
          → (key : Key) × (found ≡ Some key) × (list_any (is_between from to) (key_expiries key) ≡ true)
      some_key None h = cc
      some_key (Some key) h = (key, refl, h)

  -- an expiry of the keyring after the date stands in the index
  some_stands : (now limit : ℕ) → list_any (is_between now limit) (flat_map key_expiries (finmap.values keys)) ≡ true → (n : ℕ) × (id : ℕ) × (now < n) × (n ≤ limit) × (has n id ≡ true)
  some_stands now limit h =
      let found = value_found (λ key. list_any (is_between now limit) (key_expiries key)) keys (sym (any_of_all (is_between now limit) (finmap.values keys)) ∙ h) in
      let e = number_found (is_between now limit) (key_expiries found.1) found.3 in
      (e.0, found.0, above_from now limit e.0 e.1, upto_from now limit e.0 e.1, has_from now e.0 found.0 found.1 (above_from now limit e.0 e.1) found.2 e.2)

  pub next_is_none : (now : ℕ) → ((n id : ℕ) → now < n → has n id ≡ false) → None ≡ next_expiry now keys
  next_is_none now none =
      let es = flat_map key_expiries (finmap.values keys) in
      let s = soonest_after now es in
      sym (ap none_at_0 (zero s _ (reached now s es) (λ h. let e = some_stands now s h in absurd_from (has e.0 e.1) e.4 (none e.0 e.1 e.2))))

  pub next_is : (now least : ℕ) → now < least → (id : ℕ) × (has least id ≡ true) → ((n id : ℕ) → now < n → n < least → has n id ≡ false) → Some least ≡ next_expiry now keys
  next_is now least above there none =
      let key = stands least there.0 there.1 in
      let es = flat_map key_expiries (finmap.values keys) in
      let one : (limit : ℕ) → (nat_lt 0 least && nat_le least limit) ≡ true → list_any (is_between now limit) es ≡ true = λ limit h.
      any_of_all (is_between now limit) (finmap.values keys)
      ∙ value_passes (λ k. list_any (is_between now limit) (key_expiries k)) keys there.0 key.0 key.1
      (number_passes (is_between now limit) (key_expiries key.0) least key.2 (between_from now limit least above (upto limit h))) in
      let other : (limit : ℕ) → list_any (is_between now limit) es ≡ true → (nat_lt 0 least && nat_le least limit) ≡ true = λ limit h.
      let e = some_stands now limit h in
      reaches limit e.0 e.3 (not_sooner e.0 e.1 e.2 e.4) in
      some_at now least above ∙ ap none_at_0 (same_reach _ _ (λ limit. both_ways _ _ (one limit) (other limit) ∙ sym (reached now limit es)))
    where
      some_at : (now least : ℕ) → now < least → Some least ≡ none_at_0 least
      some_at now least a = grind (arith, nat_tests)

      upto : (limit : ℕ) → (nat_lt 0 least && nat_le least limit) ≡ true → least ≤ limit
      upto limit h = grind (arith, nat_tests)

      reaches : (limit n : ℕ) → n ≤ limit → least ≤ n → (nat_lt 0 least && nat_le least limit) ≡ true
      reaches limit n a b = grind (arith, nat_tests)

      not_sooner : (n id : ℕ) → now < n → has n id ≡ true → least ≤ n
      not_sooner n id a h = go (nat_lt n least) refl
        where
          below : (n least : ℕ) → nat_lt n least ≡ true → n < least
          below n least e = grind (arith, nat_tests)

          from : (n least : ℕ) → nat_lt n least ≡ false → least ≤ n
          from n least e = grind (arith, nat_tests)

          go : (b : Bool) → nat_lt n least ≡ b → least ≤ n
          go true e = absurd (absurd_from (has n id) h (none n id a (below n least e)))
          go false e = from n least e
