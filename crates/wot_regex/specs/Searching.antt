-- The table of a tree with marks, and what is found from here on.
use Rattle.std.specs.Prelude.{◌≡◌, ℕ, Bool, List}
use Rattle.wot_types.specs.Expression.{Tree}
use Rattle.wot_types.specs.ExpressionMarks.{Marks, finds}
use Rattle.wot_regex.specs.Cells.{cells_of}
use Rattle.wot_regex.specs.declared.reach.Reach.{Reach}

pub record Searching (tree : Tree) (cells : List Reach) (start : Bool) (rest : List ℕ) (found : Bool) : Type 0 where
  pub marks : Marks tree
  pub is : cells ≡ cells_of tree marks
  pub finds : finds start tree marks rest ≡ found
