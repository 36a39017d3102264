-- How many certifications a recount reads: at each level no more than there are, and those on one user ID at the end.
use Rattle.std.proofs.Common.{◌≡◌, ℕ, zero, suc, ◌+◌, ◌*◌, ◌≤◌, List, [], ◌∷◌, length, sum_by, Some, slice_get, ap, arith}
use Rattle.std.specs.Cmp.{nat_cmp_total}
use Rattle.std.specs.FinMap as finmap
use Rattle.std.specs.FinMap.{nat_cmp-IsAntisymmetric}
use Rattle.std.proofs.lemmas.List.Sums.{sum_by-cons}
use Rattle.std.proofs.lemmas.Option.{none-some, same_Some}
use Rattle.wot_types.specs.Keyring.{cert_total, key_certs}
use Rattle.wot_types.specs.Selection.{Spot, spots_from}
use Rattle.wot_types.specs.State.{State}
use Rattle.wot_types.proofs.Removals.{sum_by-remove}
use Rattle.wot_levels.proofs.SpotLemmas.{spot_certs}
use Rattle.wot_live.proofs.Rounds.{once_more}
use Rattle.wot_explain.proofs.DirectLemmas.{IsThere}

part_of_sum : {X : Type 0} (f : X → ℕ) (xs : List X) (i : ℕ) (x : X) → slice_get xs i ≡ Some x → f x ≤ sum_by f xs
part_of_sum f [] i x is = absurd (none-some x is)
part_of_sum f (y ∷ xs) zero x is = omega (arith, sum_by-cons f y xs, ap f (same_Some y x is))
part_of_sum f (y ∷ xs) (suc i) x is = omega (arith, sum_by-cons f y xs, part_of_sum f xs i x is)

-- no user ID has more certifications than the keyring
certs_within : (s : State) (id user : ℕ) (t : IsThere s id user) → length t.spot.certs ≤ cert_total s.keys
certs_within s id user t =
    let one = part_of_sum (λ (p : Spot). length p.certs) (spots_from 0 t.key.users) user t.spot t.spot_is in
    let on_key : sum_by (λ (p : Spot). length p.certs) (spots_from 0 t.key.users) ≡ key_certs t.key = spot_certs 0 t.key.users in
    let all : cert_total (finmap.remove s.keys id) + key_certs t.key ≡ cert_total s.keys = sum_by-remove nat_cmp_total nat_cmp-IsAntisymmetric key_certs s.keys id t.key t.key_is in
    omega (arith, one, on_key, all)

module _ (s : State) (start mid end : ℕ) (levels : mid ≤ start + s.options.depth * cert_total s.keys) where
  pub within_recount : (id user : ℕ) (t : IsThere s id user) → end ≤ mid + length t.spot.certs → end ≤ start + (s.options.depth + 1) * cert_total s.keys
  within_recount id user t more = omega (arith, levels, more, certs_within s id user t, once_more s.options.depth (cert_total s.keys))
