-- The user IDs of a key and their certifications, with the places that they stand at.
use Rattle.std.proofs.Common.{◌≡◌, ℕ, zero, suc, ◌+◌, List, [], ◌∷◌, ◌++◌, All, Some, slice_get, length, refl, ap, subst}
use Rattle.std.specs.List.{flat_map}
use Rattle.std.proofs.lemmas.List.Elements.{All-cons, All-head, All-nil, All-tail}
use Rattle.std.proofs.lemmas.Option.{none-some, same_Some}
use Rattle.wot_types.specs.declared.cert.Cert.{Cert}
use Rattle.wot_types.specs.declared.placed.Placed.{Placed}
use Rattle.wot_types.specs.declared.user.User.{User}
use Rattle.wot_types.specs.Selection.{Spot, placed_from, spots_from}

-- a user ID's certifications stand at places in a row
pub placed_at : (n : ℕ) (users : List User) (i : ℕ) (spot : Spot) → slice_get (spots_from n users) i ≡ Some spot → (m : ℕ) × (placed_from m spot.user.certs ≡ spot.certs)
placed_at n [] i spot is = absurd (none-some spot is)
placed_at n (user ∷ users) zero spot is =
    (n, subst (λ (s : Spot). placed_from n s.user.certs ≡ s.certs) (same_Some (record { user = user; certs = placed_from n user.certs }) spot is) refl)
placed_at n (user ∷ users) (suc i) spot is = placed_at (n + length user.certs) users i spot is

pub placed_lines : (f : Cert → List ℕ) (n : ℕ) (certs : List Cert) → flat_map (λ (placed : Placed). f placed.cert) (placed_from n certs) ≡ flat_map f certs
placed_lines f n [] = refl
placed_lines f n (cert ∷ certs) = ap (λ l. f cert ++ l) (placed_lines f (n + 1) certs)

pub placed_all : (P : Cert → Type 0) (n : ℕ) (certs : List Cert) → All (λ (placed : Placed). P placed.cert) (placed_from n certs) → All P certs
placed_all P n [] h = All-nil P
placed_all P n (cert ∷ certs) h =
    let place : Placed = record { place = n; cert = cert } in
    All-cons P cert certs (All-head (λ (placed : Placed). P placed.cert) place (placed_from (n + 1) certs) h)
    (placed_all P (n + 1) certs (All-tail (λ (placed : Placed). P placed.cert) place (placed_from (n + 1) certs) h))

pub spots_all : (P : User → Type 0) (n : ℕ) (users : List User) → All (λ (spot : Spot). P spot.user) (spots_from n users) → All P users
spots_all P n [] h = All-nil P
spots_all P n (user ∷ users) h =
    let spot : Spot = record { user = user; certs = placed_from n user.certs } in
    All-cons P user users (All-head (λ (spot : Spot). P spot.user) spot (spots_from (n + length user.certs) users) h)
    (spots_all P (n + length user.certs) users (All-tail (λ (spot : Spot). P spot.user) spot (spots_from (n + length user.certs) users) h))
