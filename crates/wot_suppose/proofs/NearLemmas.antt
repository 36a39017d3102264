-- A search in breadth over certifications.
use Rattle.std.proofs.Common.{◌≡◌, ◌+◌, ◌==◌, ◌⊎◌, inl, inr, ℕ, Bool, true, false, cond, nat_cmp, List, drop, Some, slice_get, refl, sym, ap, subst, ◌∙◌, arith}
use Rattle.std.specs.BTreeMap.{is_at}
use Rattle.std.specs.List.Sorted.{IsPermutation}
use Rattle.std.proofs.lemmas.Bool.{or_cases}
use Rattle.std.proofs.lemmas.Bool.Decides.{nat_tests}
use Rattle.std.proofs.lemmas.List.Sorted.{list_any-IsPermutation}
use Rattle.wot_types.specs.declared.placed.Placed.{Placed}
use Rattle.wot_types.specs.declared.user.User.{User}
use Rattle.wot_types.specs.Indexes.{has_cert_by}
use Rattle.wot_types.specs.Keyring.{Keyring}
use Rattle.wot_types.specs.Selection.{Spot, spots_from}
use Rattle.wot_types.proofs.Tests.{is_key}
use Rattle.wot_levels.specs.Certifiers.{has_issuer}
use Rattle.wot_levels.proofs.CertifierLemmas.{at_user, has_cert_on}
use Rattle.wot_suppose.specs.declared.near.Near.{Near}
use Rattle.wot_suppose.specs.Near.{IsWider, LeadsTo, is_found, is_unread}

pub as_wide : (near : Near) → IsWider near near
as_wide near = record { kept = λ y its. its; left = λ y its. its; listed = λ y its. inl its }

at_is : (id y : ℕ) → is_at (nat_cmp id) y ≡ (id == y)
at_is id y = grind (arith, nat_tests)

-- one key more is found, which is unread where it wasn't found before
pub with_one : (old new : Near) (id : ℕ) → ((y : ℕ) → is_found new y ≡ cond (is_at (nat_cmp id) y) true (is_found old y)) → ((y : ℕ) → is_unread old y ≡ true → is_unread new y ≡ true)
    → (is_found old id ≡ true) ⊎ (is_unread new id ≡ true) → IsWider old new
with_one old new id more left known = record {
  kept = λ y its. more y ∙ ap (cond (is_at (nat_cmp id) y) true) its ∙ always (is_at (nat_cmp id) y);
  left = left;
  listed = λ y its. elim (id == y) as (λ b. (id == y) ≡ b → cond b true (is_found old y) ≡ true → (is_found old y ≡ true) ⊎ (is_unread new y ≡ true)) [
    | true ↦ λ same _. subst (λ k. (is_found old k ≡ true) ⊎ (is_unread new k ≡ true)) (is_key id y same) known
    | false ↦ λ _ before. inl before
  ] refl (ap (λ b. cond b true (is_found old y)) (sym (at_is id y)) ∙ sym (more y) ∙ its);
}
  where
    always : (b : Bool) → cond b true true ≡ true
    always true = refl
    always false = refl

pub wider_still : (old now new : Near) → IsWider old now → IsWider now new → IsWider old new
wider_still old now new first second = record {
  kept = λ y its. second.kept y (first.kept y its);
  left = λ y its. second.left y (first.left y its);
  listed = λ y its. elim (second.listed y its) as (λ _. (is_found old y ≡ true) ⊎ (is_unread new y ≡ true)) [
    | inr unread ↦ inr unread
    | inl before ↦ elim (first.listed y before) as (λ _. (is_found old y ≡ true) ⊎ (is_unread new y ≡ true)) [
      | inl there ↦ inl there
      | inr unread ↦ inr (second.left y unread)
    ]
  ];
}

-- the search over so many certifications: whoever certified a key that was read is found
pub record IsSearched (keys : Keyring) (id n : ℕ) (near : Near) : Type 0 where
  pub reached : (y : ℕ) → LeadsTo keys n id y → is_found near y ≡ true
  pub read : (x y : ℕ) → is_found near x ≡ true → has_cert_by keys y x ≡ true → (is_unread near x ≡ true) ⊎ (is_found near y ≡ true)

-- the certifiers of the user IDs so far are found: with those of one user ID more
pub certified_more : (old new : Near) (users : List User) (i : ℕ) (spot : Spot) (certs : List Placed) → slice_get (spots_from 0 users) i ≡ Some spot → IsPermutation spot.certs certs
    → IsWider old new → ((y : ℕ) → has_issuer certs y ≡ true → is_found new y ≡ true)
    → (y : ℕ) → (is_found old y ≡ true) ⊎ (has_cert_on (drop i users) y ≡ true) → (is_found new y ≡ true) ⊎ (has_cert_on (drop (i + 1) users) y ≡ true)
certified_more old new users i spot certs is moved wider there y (inl known) = inl (wider.kept y known)
certified_more old new users i spot certs is moved wider there y (inr left) =
    elim (or_cases (has_issuer spot.certs y) (has_cert_on (drop (i + 1) users) y) (sym (at_user 0 users i spot is y) ∙ left)) as (λ _. (is_found new y ≡ true) ⊎ (has_cert_on (drop (i + 1) users) y ≡ true)) [
      | inl here ↦ inl (there y (sym (list_any-IsPermutation (λ p. p.cert.issuer == y) spot.certs certs moved) ∙ here))
      | inr later ↦ inr later
    ]
