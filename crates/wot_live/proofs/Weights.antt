-- The certifications on keys of a list, each there once, are among those on a set of keys.
use Rattle.std.proofs.Common.{◌≡◌, ◌+◌, ◌≤◌, ◌==◌, ◌||◌, ℕ, Bool, true, false, cond, nat_eq, List, [], ◌∷◌, Option, Some, None, is_some, refl, sym, ap, ◌∙◌, arith}
use Rattle.std.specs.FinMap as map
use Rattle.std.specs.FinMap.{nat_cmp-IsAntisymmetric, same_map}
use Rattle.std.specs.List.{AllByRecursion, IsDistinct}
use Rattle.std.specs.Option.{option_map_or}
use Rattle.std.specs.Cmp.{nat_cmp_total}
use Rattle.std.proofs.lemmas.Bool.Decides.{nat_tests}
use Rattle.std.proofs.lemmas.List.Sums.{sum_by-cons}
use Rattle.std.proofs.Math.Bool.{or-true}
use Rattle.wot_types.specs.declared.key.Key.{Key}
use Rattle.wot_types.specs.Explanation.{KeySet}
use Rattle.wot_types.specs.Keyring.{Keyring, cert_total, certs_at, key_certs}
use Rattle.wot_types.specs.Touched.{certs_on}
use Rattle.wot_types.proofs.MapLemmas.{get_only}
use Rattle.wot_levels.specs.Frontier.{weight}
use Rattle.wot_levels.proofs.Weights.{weight_total}
use Rattle.wot_live.specs.Recounting.{among}

within_set : (set : KeySet) (keys : Keyring) (ids : List ℕ) → AllByRecursion (λ x. set x ≡ true) ids → weight keys ids ≡ weight (map.retain_keys keys set) ids
within_set set keys [] h = refl
within_set set keys (x ∷ ids) h =
    sum_by-cons (certs_at keys) x ids
    ∙ (λ i. option_map_or key_certs (sym (get_only keys set x ∙ ap (λ b. cond b (map.get keys x) None) h.0) i) 0 + within_set set keys ids h.1 i)
    ∙ sym (sum_by-cons (certs_at (map.retain_keys keys set)) x ids)

each_of : (set : KeySet) (ids : List ℕ) → ((x : ℕ) → among ids x ≡ true → set x ≡ true) → AllByRecursion (λ x. set x ≡ true) ids
each_of set [] h = tt
each_of set (x ∷ ids) h =
    (h x (ap (λ b. b || among ids x) (itself x)), each_of set ids (λ y its. h y (ap (λ b. (x == y) || b) its ∙ or-true (x == y))))
  where
    itself : (n : ℕ) → (n == n) ≡ true
    itself n = grind (arith, nat_tests)

-- those on keys of the set
pub weight_within : (set : KeySet) (keys : Keyring) (ids : List ℕ) → IsDistinct nat_eq ids → ((x : ℕ) → among ids x ≡ true → set x ≡ true) → weight keys ids ≤ certs_on set keys
weight_within set keys ids distinct h =
    let same = within_set set keys ids (each_of set ids h) in
    let less = weight_total (map.retain_keys keys set) ids distinct in
    omega (arith, same, less)

-- where all keys are in the set it is all certifications
pub all_within : (set : KeySet) (keys : Keyring) → ((x : ℕ) → map.contains_key keys x ≡ true → set x ≡ true) → certs_on set keys ≡ cert_total keys
all_within set keys all = ap cert_total (same_map nat_cmp_total nat_cmp-IsAntisymmetric _ _ (λ x. get_only keys set x ∙ each x (map.get keys x) refl))
  where
    absent : Option Key
    absent = None

    none : (b : Bool) → cond b absent absent ≡ absent
    none true = refl
    none false = refl

    each : (x : ℕ) (o : Option Key) → map.get keys x ≡ o → cond (set x) o None ≡ o
    each x None is = none (set x)
    each x (Some key) is = ap (λ b. cond b (Some key) None) (all x (ap is_some is))
