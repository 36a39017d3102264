use Rattle.std.proofs.Common.{◌≡◌, ◌⊎◌, ℕ, true, drop}
use Rattle.wot_levels.proofs.CertifierLemmas.{has_cert_on}
use Rattle.wot_suppose.specs.Near.{IsWider, is_found}
use Rattle.wot_suppose.proofs.near.with_certifiers.Given as goal

abbrev pub invariant-loop-user : goal.invariant-loop-user
invariant-loop-user g l = record {
  there : (y : ℕ) → has_cert_on l.keyblock.1.users y ≡ true → (is_found l.near y ≡ true) ⊎ (has_cert_on (drop l.user l.keyblock.1.users) y ≡ true);
  wider : IsWider l.fn.near l.near;
}
