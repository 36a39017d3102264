-- Which arguments of a command can be bad: one of its own, or the first one behind them.
use Rattle.std.proofs.Common.{◌≡◌, ℕ, suc, ◌+◌, ◌≤◌, Bool, true, false, List, [], ◌∷◌, length, Option, Some, None, IfErr, refl, arith}
use Rattle.std.specs.Prelude.{if◌then◌else◌}
use Rattle.wot_types.specs.declared.head.Head.{Head}
use Rattle.wot_types.specs.Grammar.{first_bad, unless_bad, with_arguments}
use Rattle.wot_commands.specs.Heads.{IsEarly}

some_is : (n k : ℕ) → ◌≡◌ {A = Option ℕ} (Some n) (Some k) → n ≡ k
some_is n k e = cc

tried : (n k m : ℕ) (good : Bool) (next : Option ℕ) → (next ≡ Some k → k ≤ (n + 1) + m) → (if good then next else Some n) ≡ Some k → k ≤ n + suc m
tried n k m true next later e = omega (arith, later e)
tried n k m false next later e = omega (arith, some_is n k e)

within : (n : ℕ) (tests : List (List ℕ → Bool)) (words : List (List ℕ)) (k : ℕ) → first_bad n tests words ≡ Some k → k ≤ n + length tests
within n [] [] k e = cc
within n [] (word ∷ words) k e = omega (arith, some_is n k e)
within n (test ∷ tests) [] k e = omega (arith, some_is n k e)
within n (test ∷ tests) (word ∷ words) k e = tried n k (length tests) (test word) (first_bad (n + 1) tests words) (within (n + 1) tests words k) e

by_place : (place : Option ℕ) (head : Head) → ((k : ℕ) → place ≡ Some k → k ≤ 6) → IfErr (unless_bad place head) IsEarly
by_place None head early = tt
by_place (Some k) head early = early k refl

-- a command of up to five arguments
pub early : (tests : List (List ℕ → Bool)) (words : List (List ℕ)) (head : Head) → length tests ≤ 5 → IfErr (with_arguments tests words head) IsEarly
early tests words head few = by_place (first_bad 1 tests words) head (λ k is. omega (arith, few, within 1 tests words k is))
