-- Room for the certifications on each user ID that is listed.
use Rattle.std.proofs.Common.{◌≡◌, ◌≤◌, ℕ, All, IfSome, Some, length, min, ap, subst, arith}
use Rattle.std.specs.Cmp.{nat_cmp_total}
use Rattle.std.specs.FinMap as map
use Rattle.std.specs.FinMap.{nat_cmp-IsAntisymmetric}
use Rattle.std.proofs.Math.Nat.{le-min}
use Rattle.std.proofs.lemmas.List.Sums.{get_or-le-sum_by}
use Rattle.std.proofs.lemmas.Option.{get_or_from_slice_get, slice_get_within}
use Rattle.wot_types.specs.declared.key.Key.{Key}
use Rattle.wot_types.specs.Accepted.{IsFiled}
use Rattle.wot_types.specs.Arrangement.{spot_of}
use Rattle.wot_types.specs.Keyring.{Keyring, cert_total, key_certs}
use Rattle.wot_types.specs.Limits.{most_certs}
use Rattle.wot_types.specs.Selection.{Spot, spots_from}
use Rattle.wot_types.proofs.FinMaps.{IfSome-get}
use Rattle.wot_levels.proofs.SpotLemmas.{spot_certs}
use Rattle.wot_live.proofs.AllCounts.{all_certs_left}

-- where there is room for the certifications of a key there is for those of each user ID: it has no more
pub room_at : (key : Key) (user most : ℕ) (spot : Spot) → spot_of key user ≡ Some spot → key_certs key ≤ most → length spot.certs ≤ most
room_at key user most spot at room =
    let spots = spots_from 0 key.users in
    let within = get_or-le-sum_by (λ (s : Spot). length s.certs) spots user spot (slice_get_within spots user spot at) in
    let same = ap (λ (s : Spot). length s.certs) (get_or_from_slice_get spots user spot spot at) in
    let all = spot_certs 0 key.users in
    omega (arith, within, same, all, room)

-- there is room for each key: it has no more than all keys together, and no more than a key may have
pub room_for_each : (keys : Keyring) (most : ℕ) → All IsFiled (map.entries keys) → min (cert_total keys) most_certs ≤ most → All (λ (e : ℕ × Key). key_certs e.1 ≤ most) (map.entries keys)
room_for_each keys most filed room k d h =
    let within = get_or-le-sum_by (λ (e : ℕ × Key). key_certs e.1) (map.entries keys) k d h in
    let all = all_certs_left keys in
    let both = le-min {a = cert_total keys} {b = most_certs} (omega (arith, within, all)) (filed k d h).well_formed.few_certs in
    omega (arith, both, room)

-- there is room for the key of a key ID
pub room_for_key : (keys : Keyring) (id most : ℕ) (key : Key) → All IsFiled (map.entries keys) → min (cert_total keys) most_certs ≤ most → map.get keys id ≡ Some key → key_certs key ≤ most
room_for_key keys id most key filed room there =
    subst (λ o. IfSome o (λ k. key_certs k ≤ most)) there (IfSome-get nat_cmp_total nat_cmp-IsAntisymmetric (λ e. key_certs e.1 ≤ most) keys id (room_for_each keys most filed room))
