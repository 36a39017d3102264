use Rattle.std.proofs.Common.{◌≡◌, ℕ, true, take}
use Rattle.wot_levels.specs.Certifiers.{has_issuer}
use Rattle.wot_suppose.specs.Near.{IsWider, is_found}
use Rattle.wot_suppose.proofs.near.with_issuers.Given as goal

abbrev pub invariant-loop-placed : goal.invariant-loop-placed
invariant-loop-placed l = record {
  there : (y : ℕ) → has_issuer (take l.placed-index l.certs) y ≡ true → is_found l.near y ≡ true;
  wider : IsWider l.fn.near l.near;
}
