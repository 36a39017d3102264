-- The issuers of the certifications on a key, user ID by user ID.
use Rattle.std.proofs.Common.{◌≡◌, ◌+◌, ◌==◌, ◌||◌, ◌⊎◌, inl, inr, ℕ, zero, suc, Bool, true, List, [], ◌∷◌, drop, length, map, Option, Some, None, IfSome, slice_get, refl, sym, ap, ◌∙◌, arith}
use Rattle.std.specs.FinMap as finmap
use Rattle.std.specs.List.{flat_map, list_any}
use Rattle.std.specs.List.Sorted.{IsPermutation}
use Rattle.std.proofs.lemmas.Bool.{or_cases}
use Rattle.std.proofs.lemmas.List.Folds.{list_any-append}
use Rattle.std.proofs.lemmas.List.Sorted.{list_any-IsPermutation}
use Rattle.std.proofs.Math.Bool.{or-true}
use Rattle.std.proofs.lemmas.Option.{none-some, same_Some}
use Rattle.wot_types.specs.declared.cert.Cert.{Cert}
use Rattle.wot_types.specs.declared.placed.Placed.{Placed}
use Rattle.wot_types.specs.declared.row.Row.{Row}
use Rattle.wot_types.specs.declared.user.User.{User}
use Rattle.wot_types.specs.Candidates.{RowMap}
use Rattle.wot_types.specs.Explanation.{KeySet}
use Rattle.wot_types.specs.Indexes.{user_issuers}
use Rattle.wot_types.specs.Selection.{Spot, placed_from, spots_from}
use Rattle.wot_levels.specs.Certifiers.{StandsAt, has_issuer, is_level_of}

abbrev pub has_cert_on : List User → ℕ → Bool
has_cert_on users y = list_any (λ n. n == y) (flat_map user_issuers users)

-- more levels tell of no fewer rows
pub stands_with : (rows : RowMap) (old new : List ℕ) (y : ℕ) → ((n : ℕ) → is_level_of old n ≡ true → is_level_of new n ≡ true) → StandsAt rows old y → StandsAt rows new y
stands_with rows old new y kept = each (finmap.get rows y)
  where
    each : (o : Option Row) → IfSome o (λ row. is_level_of old row.level ≡ true) → IfSome o (λ row. is_level_of new row.level ≡ true)
    each None h = tt
    each (Some row) h = kept row.level h

placed_issuers : (set : KeySet) (first : ℕ) (certs : List Cert) → list_any (λ p. set p.cert.issuer) (placed_from first certs) ≡ list_any (λ cert. set cert.issuer) certs
placed_issuers set first [] = refl
placed_issuers set first (cert ∷ certs) = ap (λ b. set cert.issuer || b) (placed_issuers set (first + 1) certs)

issuers_are : (set : KeySet) (certs : List Cert) → list_any set (map (λ cert. cert.issuer) certs) ≡ list_any (λ cert. set cert.issuer) certs
issuers_are set [] = refl
issuers_are set (cert ∷ certs) = ap (λ b. set cert.issuer || b) (issuers_are set certs)

-- what is left of the user IDs behind one, and the issuers of the certifications on that one
pub at_user : (n : ℕ) (users : List User) (i : ℕ) (spot : Spot) → slice_get (spots_from n users) i ≡ Some spot
    → (y : ℕ) → has_cert_on (drop i users) y ≡ (has_issuer spot.certs y || has_cert_on (drop (i + 1) users) y)
at_user n [] i spot is y = absurd (none-some spot is)
at_user n (user ∷ users) zero spot is y =
    list_any-append (λ n. n == y) (user_issuers user) (flat_map user_issuers users)
    ∙ ap (λ b. b || has_cert_on users y) (issuers_are (λ n. n == y) user.certs ∙ sym (placed_issuers (λ n. n == y) n user.certs) ∙ ap (λ (s : Spot). has_issuer s.certs y) (same_Some (record { user = user; certs = placed_from n user.certs }) spot is))
at_user n (user ∷ users) (suc i) spot is y =
    let one : suc i + 1 ≡ suc (i + 1) = omega arith in
    at_user (n + length user.certs) users i spot is y ∙ ap (λ k. has_issuer spot.certs y || has_cert_on (drop k (user ∷ users)) y) (sym one)

-- the levels of those who certified the user IDs so far, with one more
pub one_more : (rows : RowMap) (old new : List ℕ) (n : ℕ) (users : List User) (i : ℕ) (spot : Spot) (certs : List Placed) → slice_get (spots_from n users) i ≡ Some spot → IsPermutation spot.certs certs
    → ((n : ℕ) → is_level_of old n ≡ true → is_level_of new n ≡ true) → ((y : ℕ) → has_issuer certs y ≡ true → StandsAt rows new y)
    → (y : ℕ) → StandsAt rows old y ⊎ (has_cert_on (drop i users) y ≡ true) → StandsAt rows new y ⊎ (has_cert_on (drop (i + 1) users) y ≡ true)
one_more rows old new n users i spot certs is moved kept there y (inl known) = inl (stands_with rows old new y kept known)
one_more rows old new n users i spot certs is moved kept there y (inr left) =
    elim (or_cases (has_issuer spot.certs y) (has_cert_on (drop (i + 1) users) y) (sym (at_user n users i spot is y) ∙ left)) as (λ _. StandsAt rows new y ⊎ (has_cert_on (drop (i + 1) users) y ≡ true)) [
      | inl here ↦ inl (there y (sym (list_any-IsPermutation (λ p. p.cert.issuer == y) spot.certs certs moved) ∙ here))
      | inr later ↦ inr later
    ]

-- an issuer of the set on one user ID is one on the key
pub issuer_in : (set : KeySet) (n : ℕ) (users : List User) (i : ℕ) (spot : Spot) → slice_get (spots_from n users) i ≡ Some spot
    → list_any (λ p. set p.cert.issuer) spot.certs ≡ true → list_any set (flat_map user_issuers users) ≡ true
issuer_in set n [] i spot is its = absurd (none-some spot is)
issuer_in set n (user ∷ users) zero spot is its =
    list_any-append set (user_issuers user) (flat_map user_issuers users)
    ∙ ap (λ b. b || list_any set (flat_map user_issuers users))
    (issuers_are set user.certs ∙ sym (placed_issuers set n user.certs) ∙ ap (λ (s : Spot). list_any (λ p. set p.cert.issuer) s.certs) (same_Some (record { user = user; certs = placed_from n user.certs }) spot is) ∙ its)
issuer_in set n (user ∷ users) (suc i) spot is its =
    list_any-append set (user_issuers user) (flat_map user_issuers users)
    ∙ ap (λ b. list_any set (user_issuers user) || b) (issuer_in set (n + length user.certs) users i spot is its) ∙ or-true (list_any set (user_issuers user))
