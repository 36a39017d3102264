-- Matching by marks: each symbol of a tree is marked where a match that began somewhere before has just ended with it.
use Rattle.std.specs.Prelude.{ℕ, Bool, true, false, ◌&&◌, ◌||◌, List, [], ◌∷◌}
use Rattle.wot_types.specs.Expression.{Tree, any_number, at_least_one, at_most_one, either, followed, nothing, symbol, text_end, text_start}
use Rattle.wot_types.specs.ExpressionMatch.{takes}

-- a mark for each symbol
abbrev pub Marks : Tree → Type 0
Marks nothing = Unit {0}
Marks (symbol s) = Bool
Marks text_start = Unit {0}
Marks text_end = Unit {0}
Marks (followed a b) = Marks a × Marks b
Marks (either a b) = Marks a × Marks b
Marks (any_number a) = Marks a
Marks (at_least_one a) = Marks a
Marks (at_most_one a) = Marks a

abbrev pub unmarked : (tree : Tree) → Marks tree
unmarked nothing = tt
unmarked (symbol s) = false
unmarked text_start = tt
unmarked text_end = tt
unmarked (followed a b) = (unmarked a, unmarked b)
unmarked (either a b) = (unmarked a, unmarked b)
unmarked (any_number a) = unmarked a
unmarked (at_least_one a) = unmarked a
unmarked (at_most_one a) = unmarked a

-- the tree matches no bytes at a place, which is or is not the start and the end of the text
abbrev pub passes : Bool → Bool → Tree → Bool
passes s e nothing = true
passes s e (symbol x) = false
passes s e text_start = s
passes s e text_end = e
passes s e (followed a b) = passes s e a && passes s e b
passes s e (either a b) = passes s e a || passes s e b
passes s e (any_number a) = true
passes s e (at_least_one a) = passes s e a
passes s e (at_most_one a) = true

-- a match of the tree that began before ends at this place
abbrev pub ended : Bool → Bool → (tree : Tree) → Marks tree → Bool
ended s e nothing m = false
ended s e (symbol x) m = m
ended s e text_start m = false
ended s e text_end m = false
ended s e (followed a b) m = ended s e b m.1 || (ended s e a m.0 && passes s e b)
ended s e (either a b) m = ended s e a m.0 || ended s e b m.1
ended s e (any_number a) m = ended s e a m
ended s e (at_least_one a) m = ended s e a m
ended s e (at_most_one a) m = ended s e a m

-- the marks behind one byte more; a match may begin at this place where `entry` is true
abbrev pub shifted : Bool → Bool → ℕ → Bool → (tree : Tree) → Marks tree → Marks tree
shifted s e b entry nothing m = tt
shifted s e b entry (symbol x) m = entry && takes x b
shifted s e b entry text_start m = tt
shifted s e b entry text_end m = tt
shifted s e b entry (followed x y) m = (shifted s e b entry x m.0, shifted s e b ((entry && passes s e x) || ended s e x m.0) y m.1)
shifted s e b entry (either x y) m = (shifted s e b entry x m.0, shifted s e b entry y m.1)
shifted s e b entry (any_number x) m = shifted s e b (entry || ended s e x m) x m
shifted s e b entry (at_least_one x) m = shifted s e b (entry || ended s e x m) x m
shifted s e b entry (at_most_one x) m = shifted s e b entry x m

abbrev pub accepts : Bool → Bool → (tree : Tree) → Marks tree → Bool
accepts s e tree m = passes s e tree || ended s e tree m

-- a match ends at this place or behind it
abbrev pub finds : Bool → (tree : Tree) → Marks tree → List ℕ → Bool
finds s tree m [] = accepts s true tree m
finds s tree m (b ∷ rest) = accepts s false tree m || finds false tree (shifted s false b true tree m) rest
