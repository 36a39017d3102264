-- Fingerprints and scopes by their lengths, as a reader tests them.
use Rattle.std.proofs.Common.{◌≡◌, ℕ, ◌≤◌, true, List, length, Option, Some, None, refl, arith, inl, inr}
use Rattle.std.specs.Prelude.{IsSome, IfSome, ◌==◌}
use Rattle.std.specs.Option.{ok_or}
use Rattle.std.proofs.lemmas.Bool.{cases_Bool, eqb-true, or_cases}
use Rattle.std.proofs.lemmas.Bool.Decides.{nat_tests}
use Rattle.wot_types.specs.Fingerprint.{IsFprLength}
use Rattle.wot_spelling.specs.declared.no_value.NoValue.TheVariants.{NoSpelling}
use Rattle.wot_spelling.specs.Reading.{Gives, number_1_at, bytes_at, is_fpr, fpr_at}
use Rattle.wot_spelling.specs.Checks.{is_scope}

pub fpr_yes : (f : List ℕ) → IsFprLength f → is_fpr f ≡ true
fpr_yes f (inl e) = rw e refl
fpr_yes f (inr e) = rw e refl

pub fpr_is : (f : List ℕ) → is_fpr f ≡ true → IsFprLength f
fpr_is f e = elim (or_cases (length f == 20) (length f == 32) e) [ inl h ↦ inl (eqb-true (length f) 20 h) | inr h ↦ inr (eqb-true (length f) 32 h) ]

pub fpr_gives : (bytes f mid rest : List ℕ) (n : ℕ) (found : Option (List ℕ)) → number_1_at bytes ≡ Some (n, mid) → bytes_at n mid ≡ Some (f, rest)
    → (IsSome found → IsFprLength f) → (IsFprLength f → IsSome found) → IfSome found (λ x. x ≡ f) → Gives (fpr_at bytes) (ok_or found NoSpelling) rest
unfolding fpr_at
fpr_gives bytes f mid rest n (Some x) h1 h2 to from same = rw (h1, h2, fpr_yes f (to refl), same) refl
fpr_gives bytes f mid rest n None h1 h2 to from same =
    elim (cases_Bool (is_fpr f)) [
      | inl is ↦ (let some : IsSome {T = List ℕ} None = from (fpr_is f is) in absurd cc)
      | inr other ↦ rw (h1, h2, other) refl
    ]

pub scope_yes : (t : List ℕ) → (1 ≤ length t) × (length t ≤ 255) → is_scope t ≡ true
scope_yes t h = grind (arith, nat_tests, h.0, h.1)

pub scope_is : (t : List ℕ) → is_scope t ≡ true → (1 ≤ length t) × (length t ≤ 255)
scope_is t h = (grind (arith, nat_tests), grind (arith, nat_tests))
