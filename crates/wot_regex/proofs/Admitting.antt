-- The test of a scope against a text.
use Rattle.std.proofs.Common.{◌≡◌, ◌↔◌, ℕ, true, List, Option, Some, None, refl, sym, ap, ◌∙◌}
use Rattle.std.proofs.lemmas.Bool.{false≢true}
use Rattle.wot_types.specs.Expression.{Tree}
use Rattle.wot_types.specs.ExpressionGrammar.{IsExpression}
use Rattle.wot_types.specs.ExpressionMatch.{Admits}
use Rattle.wot_types.specs.Scope.{admits, tree_matches}
use Rattle.wot_types.specs.ExpressionReading.{tree_of}
use Rattle.wot_regex.proofs.Completes.{reads-tree_of}
use Rattle.wot_regex.proofs.Found.{found-means}
use Rattle.wot_regex.proofs.Sound.{tree_of-reads}

admitted_by : (scope text : List ℕ) (o : Option Tree) → tree_of scope ≡ o → tree_matches o text ≡ true → Admits scope text
admitted_by scope text None e h = absurd (false≢true h)
admitted_by scope text (Some tree) e h = record { tree = tree; reads = tree_of-reads tree scope e; matches = (found-means tree text).0 h }

pub admitted-means : (scope text : List ℕ) → (admits (Some scope) text ≡ true) ↔ Admits scope text
admitted-means scope text = (
  λ h. admitted_by scope text (tree_of scope) refl h,
  λ a. ap (λ o. tree_matches o text) (reads-tree_of a.tree scope a.reads) ∙ (found-means a.tree text).1 a.matches,
)

-- an expression has one tree
pub one_tree : (a b : Tree) (scope : List ℕ) → IsExpression a scope → IsExpression b scope → a ≡ b
one_tree a b scope h k =
    let same : Some a ≡ Some b = sym (reads-tree_of a scope h) ∙ reads-tree_of b scope k in
    cc
