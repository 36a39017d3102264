-- Which calls are planned to fail.
use Rattle.std.proofs.Common.{◌≡◌, ℕ, Bool, List, subst}
use Rattle.std.specs.Prelude.{◌↔◌, IsTrue}
use Rattle.std.specs.List.{Contains}
use Rattle.wot_site.specs.declared.memory.plan.CallKind.{CallKind}

-- a test of equal plans for equal calls
pub planned : (test : Bool) (plan same : List (CallKind × ℕ)) (kind : CallKind) (number next : ℕ) → plan ≡ same → number ≡ next
    → (IsTrue test ↔ Contains plan (kind, number)) → IsTrue test ↔ Contains same (kind, next)
planned test plan same kind number next e f decides =
    subst (λ (p : List (CallKind × ℕ)). IsTrue test ↔ Contains p (kind, next)) e
    (subst (λ (n : ℕ). IsTrue test ↔ Contains plan (kind, n)) f decides)
