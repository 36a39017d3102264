-- What a part of an expression reaches at a place of the text.
use Rattle.std.specs.Prelude.{Bool, true, false, ◌&&◌, ◌||◌, List, [], ◌∷◌}
use Rattle.wot_types.specs.Expression.{Tree}
use Rattle.wot_types.specs.ExpressionMarks.{Marks, ended, passes}
use Rattle.wot_regex.specs.declared.reach.Place.{Place}
use Rattle.wot_regex.specs.declared.reach.Reach.{Reach}

abbrev pub nowhere : Reach
nowhere = record { passes = false; ended = false }

abbrev pub passing : Bool → Reach
passing b = record { passes = b; ended = false }

abbrev pub marked : Bool → Reach
marked b = record { passes = false; ended = b }

abbrev pub exits : Reach → Bool → Bool
exits r entry = (entry && r.passes) || r.ended

abbrev pub one_after_another : Reach → Reach → Reach
one_after_another a b = record { passes = a.passes && b.passes; ended = b.ended || (a.ended && b.passes) }

abbrev pub one_or_another : Reach → Reach → Reach
one_or_another a b = record { passes = a.passes || b.passes; ended = a.ended || b.ended }

abbrev pub optional : Reach → Reach
optional a = record { passes = true; ended = a.ended }

-- what a tree reaches at a place, with these marks
abbrev pub reach_of : Place → (tree : Tree) → Marks tree → Reach
reach_of place tree marks = record { passes = passes place.start place.end tree; ended = ended place.start place.end tree marks }

-- by each part's two flags
abbrev pub reaches : List Bool → List Bool → List Reach
reaches [] ended = []
reaches (p ∷ passes) [] = []
reaches (p ∷ passes) (e ∷ ended) = record { passes = p; ended = e } ∷ reaches passes ended

-- the last that was pushed, and the others
abbrev pub top : List Reach → Reach
top [] = nowhere
top (r ∷ rest) = r

abbrev pub below : List Reach → List Reach
below [] = []
below (r ∷ rest) = rest
