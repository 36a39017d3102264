use Rattle.std.proofs.Common.{◌≡◌, ◌||◌, ℕ, true, take}
use Rattle.wot_levels.specs.Certifiers.{StandsAt, has_issuer, has_issuer_at, is_level_of}
use Rattle.wot_levels.proofs.certifiers.with_issuers.Given as goal

abbrev pub invariant-loop-placed : goal.invariant-loop-placed
invariant-loop-placed l = record {
  there : (y : ℕ) → has_issuer (take l.placed-index l.certs) y ≡ true → StandsAt l.rows l.levels.items y;
  kept : (n : ℕ) → is_level_of l.fn.levels.items n ≡ true → is_level_of l.levels.items n ≡ true;
  only : (n : ℕ) → is_level_of l.levels.items n ≡ true → (is_level_of l.fn.levels.items n || has_issuer_at (take l.placed-index l.certs) l.rows n) ≡ true;
}
