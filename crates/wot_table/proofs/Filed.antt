-- Under which numbers a key is filed, part by part.
use Rattle.std.proofs.Common.{◌≡◌, ℕ, ◌+◌, ◌<◌, ◌≤◌, ◌^◌, ◌==◌, ◌&&◌, ◌||◌, not, Bool, true, false, cond, List, [], ◌∷◌, ◌++◌, drop, get_or, length, map, nat_lt, nat_cmp, Option, Some, None, IsPermutation, refl, sym, ap, ap₂, subst, ◌∙◌, arith}
use Rattle.std.specs.Cmp.{nat_cmp_total}
use Rattle.std.specs.FinMap as finmap
use Rattle.std.specs.Ordering.{eq_by_cmp}
use Rattle.std.proofs.lemmas.Bool.Decides.{nat_tests}
use Rattle.std.specs.List.{flat_map, list_any}
use Rattle.std.proofs.lemmas.List.{at_drop_all, drop_more}
use Rattle.std.proofs.lemmas.List.Folds.{Any-from_list_any, list_any-append}
use Rattle.std.proofs.lemmas.List.Sorted.{IsPermutation-map, list_any-IsPermutation}
use Rattle.wot_types.specs.declared.placed.Placed.{Placed}
use Rattle.wot_types.specs.declared.key.Key.{Key}
use Rattle.wot_types.specs.Indexes.{user_issuers}
use Rattle.wot_types.specs.Keyring.{Keyring}
use Rattle.wot_types.specs.NextCheck.{user_expiries}
use Rattle.wot_types.specs.Selection.{Spot}
use Rattle.wot_index.specs.Indexed.{has_pair}
use Rattle.wot_table.specs.declared.heading.Heading.{Heading}
use Rattle.wot_table.specs.declared.heading.Heading.TheVariants.{Issuer, Expiry}
use Rattle.wot_table.specs.Headings.{AgreesIfKept, AgreesWith, AreInRange, IsInRange, certs_under, is_one_of, is_filed_by, is_under, key_under, user_under, users_under}

each_of : (a b c : Bool) → (a && (b || c)) ≡ ((a && b) || (a && c))
each_of true b c = refl
each_of false b c = refl

pub filed_append : (heading : Heading) (n : ℕ) (is es js fs : List ℕ) → is_filed_by heading n (is ++ js) (es ++ fs) ≡ (is_filed_by heading n is es || is_filed_by heading n js fs)
filed_append Issuer n is es js fs = list_any-append (λ m. m == n) is js
filed_append Expiry n is es js fs = ap (λ b. nat_lt 0 n && b) (list_any-append (λ m. m == n) es fs) ∙ each_of (nat_lt 0 n) (is_one_of n es) (is_one_of n fs)

pub not_filed : (heading : Heading) (n : ℕ) → is_filed_by heading n [] [] ≡ false
not_filed Issuer n = refl
not_filed Expiry n = none (nat_lt 0 n)
  where
    none : (b : Bool) → (b && false) ≡ false
    none true = refl
    none false = refl

filed_moved : (heading : Heading) (n : ℕ) (is js es fs : List ℕ) → IsPermutation is js → IsPermutation es fs → is_filed_by heading n is es ≡ is_filed_by heading n js fs
filed_moved Issuer n is js es fs p q = list_any-IsPermutation (λ m. m == n) is js p
filed_moved Expiry n is js es fs p q = ap (λ b. nat_lt 0 n && b) (list_any-IsPermutation (λ m. m == n) es fs q)

issuers_again : (ps : List Placed) → map (λ p. p.cert.issuer) ps ≡ map (λ cert. cert.issuer) (map (λ p. p.cert) ps)
issuers_again [] = refl
issuers_again (p ∷ ps) = ap (λ ns. p.cert.issuer ∷ ns) (issuers_again ps)

expiries_again : (ps : List Placed) → map (λ p. p.cert.expires) ps ≡ map (λ cert. cert.expires) (map (λ p. p.cert) ps)
expiries_again [] = refl
expiries_again (p ∷ ps) = ap (λ ns. p.cert.expires ∷ ns) (expiries_again ps)

-- one of these numbers, which are read off some things
pub is_one_mapped : {X : Type 0} (f : X → ℕ) (n : ℕ) (xs : List X) → list_any (λ x. f x == n) xs ≡ is_one_of n (map f xs)
is_one_mapped f n [] = refl
is_one_mapped f n (x ∷ xs) = ap (λ b. (f x == n) || b) (is_one_mapped f n xs)

-- the certifications on a user ID in the order in which they are held
pub certs_filed : (heading : Heading) (n : ℕ) (ps qs : List Placed) → IsPermutation ps qs
    → certs_under heading n qs ≡ is_filed_by heading n (map (λ cert. cert.issuer) (map (λ p. p.cert) ps)) (map (λ cert. cert.expires) (map (λ p. p.cert) ps))
certs_filed heading n ps qs moved =
    sym (filed_moved heading n _ _ _ _ (IsPermutation-map (λ p. p.cert.issuer) ps qs moved) (IsPermutation-map (λ p. p.cert.expires) ps qs moved))
    ∙ ap₂ (λ is es. is_filed_by heading n is es) (issuers_again ps) (expiries_again ps)

-- the user IDs of a key
pub users_filed : (heading : Heading) (n : ℕ) (spots : List Spot)
    → users_under heading n spots ≡ is_filed_by heading n (flat_map user_issuers (map (λ s. s.user) spots)) (flat_map user_expiries (map (λ s. s.user) spots))
users_filed heading n [] = sym (not_filed heading n)
users_filed heading n (s ∷ spots) =
    ap (λ b. user_under heading n s.user || b) (users_filed heading n spots)
    ∙ sym (filed_append heading n (user_issuers s.user) (user_expiries s.user) (flat_map user_issuers (map (λ s. s.user) spots)) (flat_map user_expiries (map (λ s. s.user) spots)))

together : (a b c d : Bool) → ((a || (b && c)) || (b && d)) ≡ (a || (b && (c || d)))
together true b c d = refl
together false true c d = refl
together false false c d = refl

-- one part more, and then another
pub two_parts : (heading : Heading) (n expires : ℕ) (is es : List ℕ) (old own one rest two : Bool) → one ≡ (old || (own && is_filed_by heading n [] (expires ∷ [])))
    → rest ≡ is_filed_by heading n is es → two ≡ (one || (own && rest)) → two ≡ (old || (own && is_filed_by heading n is (expires ∷ es)))
two_parts heading n expires is es old own one rest two e f g =
    g ∙ ap₂ (λ a b. a || (own && b)) e f ∙ together old own (is_filed_by heading n [] (expires ∷ [])) (is_filed_by heading n is es)
    ∙ ap (λ b. old || (own && b)) (sym (filed_append heading n [] (expires ∷ []) is es))

-- a walk over some things that adds what each of them is under
module _ {X : Type 0} (under : List X → Bool) (things : List X) (i : ℕ) (had own all : Bool) where
  pub one_filed : (x : X) (one new : Bool) → i < length things → x ≡ get_or things i x → under (x ∷ drop (i + 1) things) ≡ (one || under (drop (i + 1) things))
      → new ≡ (had || (own && one)) → (had || (own && under (drop i things))) ≡ all → (new || (own && under (drop (i + 1) things))) ≡ all
  one_filed x one new short is first put whole =
      ap (λ b. b || (own && under (drop (i + 1) things))) put ∙ together had own one (under (drop (i + 1) things))
      ∙ ap (λ b. had || (own && b)) (sym first ∙ ap (λ y. under (y ∷ drop (i + 1) things)) is ∙ sym (ap under (drop_more things i x short)))
      ∙ whole

  pub none_left : length things ≤ i → under [] ≡ false → (had || (own && under (drop i things))) ≡ all → had ≡ all
  none_left long nothing whole = sym (ap (λ b. had || (own && b)) (at_drop_all under things i long ∙ nothing) ∙ neither had own) ∙ whole
    where
      neither : (b c : Bool) → (b || (c && false)) ≡ b
      neither true c = refl
      neither false true = refl
      neither false false = refl

-- where a key's own pairs come in place of those that it had
pub given_way : (own had come under : Bool) → come ≡ (own && under) → ((had && not own) || come) ≡ cond own under had
given_way own had come under e = ap (λ b. (had && not own) || b) e ∙ each own had under
  where
    each : (own had under : Bool) → ((had && not own) || (own && under)) ≡ cond own under had
    each true true under = refl
    each true false under = refl
    each false true under = refl
    each false false under = refl

-- a keyring after a put, and after a removal
pub filed_put : (heading : Heading) (keys : Keyring) (id : ℕ) (key : Key) (n k : ℕ) (had : Bool) → had ≡ is_under heading n (finmap.get keys k)
    → cond (k == id) (key_under heading n key) had ≡ is_under heading n (finmap.get (finmap.insert keys id key) k)
filed_put heading keys id key n k had e =
    ap (λ b. cond (k == id) (key_under heading n key) b) e ∙ chosen (k == id) (finmap.get keys k)
    ∙ ap (λ b. is_under heading n (cond b (Some key) (finmap.get keys k))) (same_id k id)
    ∙ sym (ap (is_under heading n) (finmap.get-insert nat_cmp_total keys id key k))
  where
    chosen : (b : Bool) (former : Option Key) → cond b (key_under heading n key) (is_under heading n former) ≡ is_under heading n (cond b (Some key) former)
    chosen true former = refl
    chosen false former = refl

    same_id : (k id : ℕ) → (k == id) ≡ eq_by_cmp nat_cmp k id
    same_id k id = grind (arith, nat_tests)

pub filed_remove : (heading : Heading) (keys : Keyring) (id n k : ℕ) (had gone : Bool) → had ≡ is_under heading n (finmap.get keys k) → gone ≡ ((k == id) && is_under heading n (finmap.get keys id))
    → (had && not gone) ≡ is_under heading n (finmap.get (finmap.remove keys id) k)
filed_remove heading keys id n k had gone e f =
    ap₂ (λ a b. a && not b) e f
    ∙ elim (k == id) as (λ b. (k == id) ≡ b → (is_under heading n (finmap.get keys k) && not (b && is_under heading n (finmap.get keys id))) ≡ is_under heading n (cond b None (finmap.get keys k))) [
      | true ↦ λ t. ap (λ i. is_under heading n (finmap.get keys i) && not (is_under heading n (finmap.get keys id))) (same k id t) ∙ never (is_under heading n (finmap.get keys id))
      | false ↦ λ t. always (is_under heading n (finmap.get keys k))
    ] refl
    ∙ ap (λ b. is_under heading n (cond b None (finmap.get keys k))) (same_id k id)
    ∙ sym (ap (is_under heading n) (finmap.get-remove nat_cmp_total keys id k))
  where
    same : (k id : ℕ) → (k == id) ≡ true → k ≡ id
    same k id t = grind (arith, nat_tests)

    same_id : (k id : ℕ) → (k == id) ≡ eq_by_cmp nat_cmp k id
    same_id k id = grind (arith, nat_tests)

    never : (b : Bool) → (b && not b) ≡ false
    never true = refl
    never false = refl

    always : (b : Bool) → (b && true) ≡ b
    always true = refl
    always false = refl

pub none_filed : (heading : Heading) (n k : ℕ) → is_under heading n (finmap.get (finmap.empty {R = nat_cmp}) k) ≡ false
none_filed heading n k = ap (is_under heading n) (finmap.get-empty nat_cmp k)

-- the number under which a pair stands
pub number_in_range : (heading : Heading) (n k : ℕ) (pairs : List (ℕ × ℕ)) → AreInRange heading pairs → has_pair n k pairs ≡ true → IsInRange heading n
number_in_range heading n k pairs all there =
    let found = Any-from_list_any (λ pair. (pair.0 == n) && (pair.1 == k)) pairs there in
    subst (IsInRange heading) (same found.1.0 found.1.1 n k found.4) (subst (λ (pair : ℕ × ℕ). IsInRange heading pair.0) found.3 (all found.0 found.1 found.2))
  where
    same : (a b n k : ℕ) → ((a == n) && (b == k)) ≡ true → a ≡ n
    same a b n k t = grind (arith, nat_tests)

-- a date that stands in the index after others came in place of some, and after some went
pub date_after_put : (n : ℕ) (had gone come : Bool) → (had ≡ true → n < 2 ^ 32) → (come ≡ true → n < 2 ^ 32) → ((had && not gone) || come) ≡ true → n < 2 ^ 32
date_after_put n true gone come old new there = old refl
date_after_put n false gone come old new there = new there

pub date_after_removal : (n : ℕ) (had gone : Bool) → (had ≡ true → n < 2 ^ 32) → (had && not gone) ≡ true → n < 2 ^ 32
date_after_removal n true gone old there = old refl
date_after_removal n false gone old there = cc

-- an index that is kept, where it is kept
module _ {X : Type 0} (has : X → ℕ → ℕ → Bool) (keys : Keyring) where
  pub kept_at : (kept : Option X) (x : X) → kept ≡ Some x → AgreesIfKept has kept keys → AgreesWith (has x) Issuer keys
  kept_at kept x is agrees = subst (λ o. AgreesIfKept has o keys) is agrees

  pub kept_some : (kept : Option X) (x : X) → kept ≡ Some x → AgreesWith (has x) Issuer keys → AgreesIfKept has kept keys
  kept_some kept x is agrees = subst (λ o. AgreesIfKept has o keys) (sym is) agrees

  pub kept_none : (kept : Option X) → kept ≡ None → AgreesIfKept has kept keys
  kept_none kept is = subst (λ o. AgreesIfKept has o keys) (sym is) tt
