-- The carriage return at the end of a line.
use Rattle.std.proofs.Common.{◌≡◌, ◌≢◌, ℕ, Bool, true, false, cond, eqb, List, [], ◌∷◌, ◌++◌, Option, Some, None, MatchOption, refl, sym, ap, ◌∙◌}
use Rattle.std.specs.Prelude.{unwrap_or}
use Rattle.std.proofs.lemmas.Bool.{eqb-true}
use Rattle.wot_types.specs.Lines.{without_return}

-- one that stands there is dropped
at_return : (rest : List ℕ) → without_return (rest ++ 13 ∷ []) ≡ rest
at_return [] = refl
at_return (b ∷ []) = refl
at_return (b ∷ c ∷ rest) = ap (λ bytes. b ∷ bytes) (at_return (c ∷ rest))

last_byte : (b : ℕ) (t : Bool) → eqb b 13 ≡ t → ((front : List ℕ) → b ∷ [] ≢ front ++ 13 ∷ []) → cond t [] (b ∷ []) ≡ b ∷ []
last_byte b true e other = absurd (other [] (ap (λ n. n ∷ []) (eqb-true b 13 e)))
last_byte b false e other = refl

-- and nothing else is
pub at_no_return : (line : List ℕ) → ((front : List ℕ) → line ≢ front ++ 13 ∷ []) → without_return line ≡ line
at_no_return [] other = refl
at_no_return (b ∷ []) other = last_byte b _ refl other
at_no_return (b ∷ c ∷ bytes) other =
    ap (λ bytes. b ∷ bytes) (at_no_return (c ∷ bytes) (λ front e. other (b ∷ front) (ap (λ bytes. b ∷ bytes) e)))

-- what `strip_suffix` gives
pub without_return_is : {X : Type 0} (now : X → List ℕ) (line : List ℕ) (o : Option X) (other r : X) → now other ≡ line → r ≡ unwrap_or o other
    → MatchOption o ((front : List ℕ) → line ≢ front ++ 13 ∷ []) (λ x. line ≡ now x ++ 13 ∷ [])
    → now r ≡ without_return line
without_return_is now line (Some x) other r same is h = ap now is ∙ sym (ap without_return h ∙ at_return (now x))
without_return_is now line None other r same is h = ap now is ∙ same ∙ sym (at_no_return line h)
