-- What is found at a place of a text, and where a byte leads.
use Rattle.std.specs.Prelude.{ℕ, Bool, true, false, List, []}
use Rattle.wot_regex.specs.Gathering.{all_gathered, all_noted, all_spread, back_start}
use Rattle.wot_regex.specs.Reaching.{exits, top}
use Rattle.wot_regex.specs.declared.node.Node.{Node}
use Rattle.wot_regex.specs.declared.reach.Reach.{Reach}

-- a match ends at a place of the text, by the cells there
abbrev pub found_at : List Node → Bool → Bool → List Reach → Bool
found_at nodes start end cells = exits (top (all_gathered (record { start = start; end = end }) nodes cells [])) true

-- the cells behind one byte more
abbrev pub moved_by : List Node → Bool → List Reach → ℕ → List Reach
moved_by nodes start cells b = (all_spread b nodes (all_noted (record { start = start; end = false }) nodes cells []) back_start).cells
