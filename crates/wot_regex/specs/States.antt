-- What is known of the states that texts come to: what comes next there, whether a match ends there, and where a byte leads.
use Rattle.std.specs.Prelude.{◌≡◌, ℕ, ◌<◌, ◌≤◌, ◌==◌, ◌+◌, Bool, true, false, List, [], length, get_or, replicate, Some, IfSome}
use Rattle.wot_regex.specs.Following.{Holds, IsMasks, IsMeet, IsRow, IsRows, IsTable, taking}
use Rattle.wot_regex.specs.Knowing.{found_at}
use Rattle.wot_regex.specs.declared.known.Known.{Known}
use Rattle.wot_regex.specs.declared.known.State.{State}
use Rattle.wot_regex.specs.declared.node.Node.{Node}
use Rattle.wot_regex.specs.declared.reach.Reach.{Reach}
use Rattle.wot_regex.specs.declared.set.Set.{Set}

-- it tells what comes next by the cells that its set marks
pub record IsState (nodes : List Node) (start : Bool) (state : State) : Type 0 where
  pub row : (cells : List Reach) → length cells ≡ length nodes → Holds state.marks.words cells → IsRow nodes start cells state.row
  pub at_end : (cells : List Reach) (found : Bool) → length cells ≡ length nodes → Holds state.marks.words cells → state.found_at_end ≡ Some found → found ≡ found_at nodes start true cells

-- the first state is the start of the text
pub record IsStates (nodes : List Node) (states : List State) : Type 0 where
  pub some : 0 < length states
  pub few : length states ≤ 256
  pub blank : (d : State) → (get_or states 0 d).marks.words ≡ replicate 8 0
  pub each : (i : ℕ) (d : State) → i < length states → IsState nodes (i == 0) (get_or states i d)

-- whether a match ends at each state, inside a text
pub record AreFound (states : List State) (found : List Bool) : Type 0 where
  pub room : length found ≡ 256
  pub each : (i : ℕ) (d : State) → i < length states → get_or found i false ≡ (get_or states i d).row.found

-- the bytes that these symbols take lead from one state to another
pub record IsMove (states : List State) (from : ℕ) (mask : Set) (to : ℕ) : Type 0 where
  pub from_one : from < length states
  pub to_one : to < length states
  pub met : (d e : State) → IsMeet (get_or states to e).marks.words (get_or states from d).row.next.words mask.words

-- a byte leads from one state to another
pub record Leads (nodes : List Node) (states : List State) (from b to : ℕ) : Type 0 where
  pub mask : Set
  pub takes : Holds mask.words (taking nodes b)
  pub move : IsMove states from mask to

-- each move that is noted of a class of bytes, from this class on, is right; one that is not known is noted as 0
pub record IsMoves (sets : List Set) (states : List State) (first : ℕ) (moves : List (List ℕ)) : Type 0 where
  pub rows : length states ≤ length moves
  pub class : (i k : ℕ) → 0 < get_or (get_or moves i []) k 0 → first + k < length sets
  pub each : (i k : ℕ) (d : Set) → 0 < get_or (get_or moves i []) k 0 → IsMove states i (get_or sets (first + k) d) (get_or (get_or moves i []) k 0)

pub record IsKnown (nodes : List Node) (known : Known) : Type 0 where
  pub room : length nodes ≤ 512
  pub rows : IsRows nodes known.common known.rows.items
  pub whole : length known.rows.items ≡ length nodes
  pub masks : IsMasks nodes known.masks
  pub states : IsStates nodes known.states.items
  pub found : AreFound known.states.items known.found
  pub moves : IsMoves known.masks.sets.items known.states.items 0 known.moves.items
  pub further : IsMoves known.masks.sets.items known.states.items 32 known.further.items
  pub table : IfSome known.table (λ t. IsTable nodes t.items)
