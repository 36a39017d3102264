-- Certifications of one issuer.
use Rattle.std.specs.Prelude.{◌≡◌, ℕ, List}
use Rattle.std.specs.List.{AllByRecursion}
use Rattle.wot_types.specs.declared.placed.Placed.{Placed}

-- all are this issuer's
abbrev pub IsBy : ℕ → List Placed → Type 0
IsBy issuer ps = AllByRecursion (λ p. p.cert.issuer ≡ issuer) ps
