use Rattle.std.proofs.Common.{◌≡◌, ◌+◌, ◌≤◌, ◌⊎◌, ℕ, true, drop, length, sum_by}
use Rattle.wot_types.specs.Keyring.{key_certs}
use Rattle.wot_types.specs.Selection.{Spot, spots_from}
use Rattle.wot_types.specs.Touched.{is_certified_by}
use Rattle.wot_levels.specs.Certifiers.{StandsAt, is_level_of, stands_at}
use Rattle.wot_levels.proofs.CertifierLemmas.{has_cert_on}
use Rattle.wot_levels.proofs.certifiers.levels_in.Given as goal

abbrev pub invariant-loop-user : goal.invariant-loop-user
invariant-loop-user g l = record {
  there : (y : ℕ) → has_cert_on l.keyblock.1.users y ≡ true → StandsAt l.rows l.levels.items y ⊎ (has_cert_on (drop l.user l.keyblock.1.users) y ≡ true);
  only : (n : ℕ) → is_level_of l.levels.items n ≡ true → is_certified_by (stands_at l.rows n) l.keyblock.1 ≡ true;
  ticks : l.steps + sum_by (λ (s : Spot). length s.certs) (drop l.user (spots_from 0 l.keyblock.1.users)) ≤ l.initial.steps + key_certs l.keyblock.1;
}
