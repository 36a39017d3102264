-- Hashes of letters and digits alone.
use Rattle.std.proofs.Common.{◌≡◌, ℕ, Bool, true, List, [], ◌∷◌, refl, ap, ◌∙◌}
use Rattle.std.specs.List.{filter, list_all}
use Rattle.std.proofs.lemmas.Bool.{cond-true, and_parts}

-- a list whose elements all pass
pub filter_whole : (p : ℕ → Bool) (xs : List ℕ) → list_all p xs ≡ true → filter p xs ≡ xs
filter_whole p [] e = refl
filter_whole p (x ∷ xs) e =
    let parts = and_parts (p x) (list_all p xs) e in
    cond-true (p x) _ _ parts.0 ∙ ap (λ ys. x ∷ ys) (filter_whole p xs parts.1)
