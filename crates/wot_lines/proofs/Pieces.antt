-- Parts of a line that are added as their fields, one after the other.
use Rattle.std.proofs.Common.{◌≡◌, ℕ, List, ◌++◌, append_assoc, sym, ap, subst, ◌∙◌}

module _ {X : Type 0} (adds : X → List ℕ → X → Type 0) (both : (old now new : X) (a b : List ℕ) → adds old a now → adds now b new → adds old (a ++ b) new) where
  pub and_two : (old now new : X) (l a b : List ℕ) → adds old l now → adds now (a ++ b) new → adds old (l ++ a ++ b) new
  and_two old now new l a b first part = subst (λ (line : List ℕ). adds old line new) (sym (append_assoc l a b)) (both old now new l (a ++ b) first part)

  pub and_three : (old now new : X) (l a b c : List ℕ) → adds old l now → adds now (a ++ b ++ c) new → adds old (l ++ a ++ b ++ c) new
  and_three old now new l a b c first part =
      subst (λ (line : List ℕ). adds old line new) (sym (append_assoc l (a ++ b) c) ∙ ap (λ line. line ++ c) (sym (append_assoc l a b))) (both old now new l (a ++ b ++ c) first part)
