-- Walking over a table, from the symbols to the whole and back.
use Rattle.std.specs.Prelude.{ℕ, Bool, true, false, ◌==◌, ◌&&◌, ◌||◌, not, nat_le, List, [], ◌∷◌, if◌then◌else◌}
use Rattle.wot_types.specs.Bytes.{lower_case}
use Rattle.wot_types.specs.Bytes.{other_case}
use Rattle.wot_regex.specs.Reaching.{below, exits, marked, nowhere, one_after_another, one_or_another, optional, passing, top}
use Rattle.wot_regex.specs.declared.node.Node.{Node}
use Rattle.wot_regex.specs.declared.node.Node.TheVariants.{Any, AnyNumber, AtLeastOne, AtMostOne, Byte, Either, End, Followed, Member, Nothing, Range, Start}
use Rattle.wot_regex.specs.declared.reach.Place.{Place}
use Rattle.wot_regex.specs.declared.reach.Reach.{Reach}

-- what the parts so far reach, the last first, with one more part, whose cell this is
abbrev pub gathered : Place → Node → Reach → List Reach → List Reach
gathered place Nothing cell stack = passing true ∷ stack
gathered place Start cell stack = passing place.start ∷ stack
gathered place End cell stack = passing place.end ∷ stack
gathered place Any cell stack = cell ∷ stack
gathered place (Byte b) cell stack = cell ∷ stack
gathered place (Range negated) cell stack = cell ∷ stack
gathered place (Member first last) cell stack = stack
gathered place Followed cell stack = one_after_another (top (below stack)) (top stack) ∷ below (below stack)
gathered place Either cell stack = one_or_another (top (below stack)) (top stack) ∷ below (below stack)
gathered place AnyNumber cell stack = optional (top stack) ∷ below stack
gathered place AtLeastOne cell stack = top stack ∷ below stack
gathered place AtMostOne cell stack = optional (top stack) ∷ below stack

-- the part's cell behind that
abbrev pub noted : Node → Reach → List Reach → Reach
noted Followed cell stack = top (below stack)
noted AnyNumber cell stack = top stack
noted AtLeastOne cell stack = top stack
noted node cell stack = cell

-- what the parts of a whole table reach
abbrev pub all_gathered : Place → List Node → List Reach → List Reach → List Reach
all_gathered place [] cells stack = stack
all_gathered place (node ∷ nodes) [] stack = all_gathered place nodes [] (gathered place node nowhere stack)
all_gathered place (node ∷ nodes) (cell ∷ cells) stack = all_gathered place nodes cells (gathered place node cell stack)

abbrev pub all_noted : Place → List Node → List Reach → List Reach → List Reach
all_noted place [] cells stack = cells
all_noted place (node ∷ nodes) [] stack = []
all_noted place (node ∷ nodes) (cell ∷ cells) stack = noted node cell stack ∷ all_noted place nodes cells (gathered place node cell stack)

abbrev pub is_between : ℕ → ℕ → ℕ → Bool
is_between first last b = (nat_le first b && nat_le b last) || (nat_le first (other_case b) && nat_le (other_case b) last)

-- on the way back: where the parts that are still to come may begin, the next first; whether a member of the range that is to come has the
-- byte; and the cells so far
pub record Back : Type 0 where
  pub entries : List Reach
  pub member : Bool
  pub cells : List Reach

abbrev pub back_at : List Reach → Bool → List Reach → Back
back_at entries member cells = record { entries = entries; member = member; cells = cells }

abbrev pub entry_of : Back → Bool
entry_of back = (top back.entries).ended

abbrev pub kept : Back → List Reach → Reach → Back
kept back entries cell = record { entries = entries; member = back.member; cells = cell ∷ back.cells }

abbrev pub spread_by : ℕ → Node → Reach → Back → Back
spread_by b (Member first last) cell back = record { entries = back.entries; member = back.member || is_between first last b; cells = nowhere ∷ back.cells }
spread_by b Any cell back = kept back (below back.entries) (marked (entry_of back))
spread_by b (Byte a) cell back = kept back (below back.entries) (marked (entry_of back && (lower_case a == lower_case b)))
spread_by b (Range negated) cell back =
    record { entries = below back.entries; member = false; cells = marked (entry_of back && (if negated then not back.member else back.member)) ∷ back.cells }
spread_by b Followed cell back = kept back (marked (exits cell (entry_of back)) ∷ marked (entry_of back) ∷ below back.entries) nowhere
spread_by b Either cell back = kept back (marked (entry_of back) ∷ marked (entry_of back) ∷ below back.entries) nowhere
spread_by b AnyNumber cell back = kept back (marked (entry_of back || cell.ended) ∷ below back.entries) nowhere
spread_by b AtLeastOne cell back = kept back (marked (entry_of back || cell.ended) ∷ below back.entries) nowhere
spread_by b AtMostOne cell back = kept back (marked (entry_of back) ∷ below back.entries) nowhere
spread_by b Nothing cell back = kept back (below back.entries) nowhere
spread_by b Start cell back = kept back (below back.entries) nowhere
spread_by b End cell back = kept back (below back.entries) nowhere

abbrev pub all_spread : ℕ → List Node → List Reach → Back → Back
all_spread b [] cells back = back
all_spread b (node ∷ nodes) [] back = spread_by b node nowhere (all_spread b nodes [] back)
all_spread b (node ∷ nodes) (cell ∷ cells) back = spread_by b node cell (all_spread b nodes cells back)

abbrev pub back_start : Back
back_start = record { entries = marked true ∷ []; member = false; cells = [] }
