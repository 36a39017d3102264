-- The scope of a certification and the fingerprint of its issuer, as they are kept.
use Rattle.std.specs.Prelude.{◌≡◌, ◌++◌, ℕ, List, length, Option, Some, None}
use Rattle.std.specs.Int.{w64, to_be_bytes}
use Rattle.wot_types.specs.declared.packed_cert.Names.{Names}
use Rattle.wot_types.specs.declared.packed_cert.Names.TheVariants.{Head, Named, Neither, Scope}

abbrev pub scope_in : Names → Option (List ℕ)
scope_in Neither = None
scope_in (Scope scope) = Some scope
scope_in (Head head) = None
scope_in (Named named) = named.value.scope

-- a head stands before the key ID of its issuer
abbrev pub fpr_in : ℕ → Names → Option (List ℕ)
fpr_in issuer Neither = None
fpr_in issuer (Scope scope) = None
fpr_in issuer (Head head) = Some (head ++ to_be_bytes w64 issuer)
fpr_in issuer (Named named) = Some named.value.fpr

abbrev pub HasItsHead : Names → Type 0
HasItsHead (Head head) = length head ≡ 12
HasItsHead _ = Unit {0}
