-- The cells of a table, with marks.
use Rattle.std.specs.Prelude.{ℕ, Bool, List, [], ◌∷◌, ◌++◌}
use Rattle.wot_types.specs.Expression.{Symbol, Tree, any, any_number, at_least_one, at_most_one, byte, either, followed, nothing, range, symbol, text_end, text_start}
use Rattle.wot_types.specs.ExpressionMarks.{Marks}
use Rattle.wot_regex.specs.Reaching.{marked, nowhere}
use Rattle.wot_regex.specs.declared.reach.Reach.{Reach}

-- the cells of members
abbrev pub blanks : List (ℕ × ℕ) → List Reach
blanks [] = []
blanks (m ∷ ms) = nowhere ∷ blanks ms

abbrev pub symbol_cells : Symbol → Bool → List Reach
symbol_cells any m = marked m ∷ []
symbol_cells (byte b) m = marked m ∷ []
symbol_cells (range n ms) m = marked m ∷ blanks ms

-- the cells of a tree with these marks
abbrev pub cells_of : (e : Tree) → Marks e → List Reach
cells_of nothing m = nowhere ∷ []
cells_of (symbol x) m = symbol_cells x m
cells_of text_start m = nowhere ∷ []
cells_of text_end m = nowhere ∷ []
cells_of (followed a b) m = cells_of a m.0 ++ (cells_of b m.1 ++ nowhere ∷ [])
cells_of (either a b) m = cells_of a m.0 ++ (cells_of b m.1 ++ nowhere ∷ [])
cells_of (any_number a) m = cells_of a m ++ nowhere ∷ []
cells_of (at_least_one a) m = cells_of a m ++ nowhere ∷ []
cells_of (at_most_one a) m = cells_of a m ++ nowhere ∷ []
