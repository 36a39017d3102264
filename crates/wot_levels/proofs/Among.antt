-- The keys of a list, and of one with each key once.
use Rattle.std.proofs.Common.{◌≡◌, ◌==◌, ◌||◌, ℕ, Bool, true, false, cond, nat_eq, List, [], ◌∷◌, Some, None, refl, sym, ap, ◌∙◌, arith}
use Rattle.std.specs.Cmp.{nat_eq_equiv}
use Rattle.std.specs.FinMap as finmap
use Rattle.std.specs.List.{Contains, dedup, dedup_from, list_any}
use Rattle.std.specs.Option.{option_map_or}
use Rattle.std.proofs.lemmas.Bool.{false≢true}
use Rattle.std.proofs.lemmas.Bool.Decides.{nat_tests}
use Rattle.std.proofs.lemmas.Map.Views.{Contains-from_any, list_any-from_Contains}
use Rattle.wot_types.specs.Explanation.{KeySet}
use Rattle.wot_types.specs.Indexes.{has_cert_by, key_issuers}
use Rattle.wot_types.specs.Keyring.{Keyring}
use Rattle.wot_types.specs.Touched.{is_certified_at, is_certified_by}
use Rattle.wot_types.proofs.Frames.{certified_by_one}
use Rattle.wot_types.proofs.Tests.{is_key}
use Rattle.wot_levels.specs.Frontier.{among}

-- ---- each key once

twice : (a b : Bool) → (a || b) ≡ (a || (a || b))
twice true b = refl
twice false b = refl

among_dedup_from : (y : ℕ) (ys : List ℕ) (x : ℕ) → among (dedup_from nat_eq y ys) x ≡ ((y == x) || among ys x)
among_dedup_from y [] x = refl
among_dedup_from y (z ∷ ys) x = elim (nat_eq z y) as (λ b. nat_eq z y ≡ b → among (cond b (dedup_from nat_eq y ys) (y ∷ dedup_from nat_eq z ys)) x ≡ ((y == x) || ((z == x) || among ys x))) [
  | true ↦ λ same. among_dedup_from y ys x ∙ twice (y == x) (among ys x) ∙ ap (λ k. (y == x) || ((k == x) || among ys x)) (sym (is_key z y same))
  | false ↦ λ _. ap (λ b. (y == x) || b) (among_dedup_from z ys x)
] refl

pub among_dedup : (ids : List ℕ) (x : ℕ) → among (dedup nat_eq ids) x ≡ among ids x
among_dedup [] x = refl
among_dedup (y ∷ ys) x = among_dedup_from y ys x

-- ---- elements

turned : (x id : ℕ) → nat_eq x id ≡ (id == x)
turned x id = grind (arith, nat_tests)

from_Contains : (ids : List ℕ) (x : ℕ) → Contains ids x → among ids x ≡ true
from_Contains ids x there = sym (λ i. list_any (λ id. turned x id i) ids) ∙ list_any-from_Contains nat_eq_equiv x ids there

to_Contains : (ids : List ℕ) (x : ℕ) → among ids x ≡ true → Contains ids x
to_Contains ids x its = Contains-from_any (λ a b e. is_key a b e) x ids ((λ i. list_any (λ id. turned x id i) ids) ∙ its)

pub Contains_among : (ids js : List ℕ) (x : ℕ) → among js x ≡ among ids x → Contains ids x → Contains js x
Contains_among ids js x same there = to_Contains js x (same ∙ from_Contains ids x there)

-- ---- certified by a key of a set

pub certified_at_one : (keys : Keyring) (set : KeySet) (y x : ℕ) → set y ≡ true → has_cert_by keys y x ≡ true → is_certified_at keys set x ≡ true
certified_at_one keys set y x its = elim (finmap.get keys x) as (λ o. option_map_or (λ key. list_any (λ n. n == y) (key_issuers key)) o false ≡ true → option_map_or (is_certified_by set) o false ≡ true) [
  | None ↦ λ none. absurd (false≢true none)
  | Some key ↦ certified_by_one set y its key
]
