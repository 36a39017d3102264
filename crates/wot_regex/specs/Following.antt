-- Sets of a table's places, and where matches may go on from these.
use Rattle.std.specs.Prelude.{◌≡◌, ℕ, ◌<◌, ◌≤◌, ◌==◌, ◌&&◌, ◌||◌, ◌*◌, ◌/◌, ◌%◌, suc, zero, Bool, true, false, List, [], ◌∷◌, get_or, length, replicate, None, Some}
use Rattle.std.specs.Int.{bit_at}
use Rattle.wot_regex.specs.Gathering.{all_noted, all_spread, back_start}
use Rattle.wot_regex.specs.Knowing.{found_at}
use Rattle.wot_regex.specs.Reaching.{marked, nowhere}
use Rattle.wot_regex.specs.declared.followers.Followers.{Followers}
use Rattle.wot_regex.specs.declared.followers.Row.{Row}
use Rattle.wot_regex.specs.declared.masks.Masks.{Masks}
use Rattle.wot_regex.specs.declared.node.Node.{Node}
use Rattle.wot_regex.specs.declared.node.Node.TheVariants.{Any, Byte, Member, Range}
use Rattle.wot_regex.specs.declared.reach.Reach.{Reach}
use Rattle.wot_regex.specs.declared.set.Set.{Set}
use Rattle.wot_regex.specs.declared.steps.Common.{Common}

-- a place is in a set of words of 64 bits
abbrev pub has : List ℕ → ℕ → Bool
has words i = bit_at (get_or words (i / 64) 0) (i % 64) == 1

-- the set of the places that are marked
abbrev pub Holds : List ℕ → List Reach → Type 0
Holds words cells = (i : ℕ) → i < length cells → get_or cells i nowhere ≡ marked (has words i)

-- the part takes any byte, if it takes one
abbrev pub open_node : Node → Node
open_node (Byte b) = Any
open_node (Range negated) = Any
open_node (Member first last) = Member 1 0
open_node node = node

abbrev pub opened : List Node → List Node
opened [] = []
opened (node ∷ nodes) = open_node node ∷ opened nodes

-- the cells behind one byte more, whatever the byte, at the start of a text or inside it
abbrev pub entered : List Node → Bool → List Reach → List Reach
entered nodes start cells = (all_spread 0 (opened nodes) (all_noted (record { start = start; end = false }) nodes cells []) back_start).cells

abbrev pub everywhere : Reach
everywhere = record { passes = true; ended = true }

-- the symbols that take a byte
abbrev pub taking : List Node → ℕ → List Reach
taking nodes b = (all_spread b nodes (replicate (length nodes) everywhere) back_start).cells

-- the places in a set are those in both others
abbrev pub IsMeet : List ℕ → List ℕ → List ℕ → Type 0
IsMeet new one other = (i : ℕ) → i < 512 → has new i ≡ (has one i && has other i)

-- what comes next by these cells, and whether a match ends there
pub record IsRow (nodes : List Node) (start : Bool) (cells : List Reach) (row : Row) : Type 0 where
  pub next : Holds row.next.words (entered nodes start cells)
  pub found : row.found ≡ found_at nodes start false cells

-- one place is marked
abbrev pub only : ℕ → ℕ → List Reach
only zero i = []
only (suc n) zero = marked true ∷ replicate n nowhere
only (suc n) (suc i) = nowhere ∷ only n i

-- the places two on from others
abbrev pub two_on : (ℕ → Bool) → ℕ → Bool
two_on places zero = false
two_on places (suc zero) = false
two_on places (suc (suc i)) = places i

-- a place leads two on, and else only to what comes next where no place is marked
pub record IsStep (first row : Row) (place : ℕ) : Type 0 where
  pub next : (i : ℕ) → i < 512 → has row.next.words i ≡ (has first.next.words i || two_on (λ j. j == place) i)
  pub found : row.found ≡ first.found

-- each of these places is a step
abbrev pub AreSteps : Row → Set → List Row → Type 0
AreSteps first steps rows = (i : ℕ) (d : Row) → i < length rows → has steps.words i ≡ true → IsStep first (get_or rows i d) i

-- what comes next inside a text where no place is marked, and where one is; and places that are steps
pub record IsRows (nodes : List Node) (common : Common) (rows : List Row) : Type 0 where
  pub none : IsRow nodes false (replicate (length nodes) nowhere) common.first
  pub each : (i : ℕ) (d : Row) → i < length nodes → IsRow nodes false (only (length nodes) i) (get_or rows i d)
  pub steps : AreSteps common.first common.steps rows

-- the marks of the first places alone
abbrev pub front : ℕ → List Reach → List Reach
front i [] = []
front zero (c ∷ cs) = nowhere ∷ front zero cs
front (suc i) (c ∷ cs) = c ∷ front i cs

-- the cells of so many places, marked where this says so
abbrev pub cells_by : (ℕ → Bool) → ℕ → List Reach
cells_by marks zero = []
cells_by marks (suc n) = marked (marks 0) ∷ cells_by (λ i. marks (suc i)) n

-- a place is one of these eight and is marked by the bits of a value
abbrev pub in_eight : ℕ → ℕ → ℕ → Bool
in_eight eight value i = (i / 8 == eight) && (bit_at value (i % 8) == 1)

-- what comes next by each way to mark eight places alone, for each eight of them
pub record IsTable (nodes : List Node) (table : List Row) : Type 0 where
  pub whole : length table ≡ 16384
  pub each : (k : ℕ) (d : Row) → k < length table → IsRow nodes false (cells_by (in_eight (k % 64) (k / 64)) (length nodes)) (get_or table k d)

-- the marks before an eight are those of the set, and there are no others
pub record Before (words : List ℕ) (n eight : ℕ) (f : ℕ → Bool) : Type 0 where
  pub first : (i : ℕ) → i < n → i < 8 * eight → f i ≡ has words i
  pub rest : (i : ℕ) → i < n → 8 * eight ≤ i → f i ≡ false

-- what comes next by the marks of a set before an eight
abbrev pub IsSoFar : List Node → List ℕ → ℕ → Row → Type 0
IsSoFar nodes words eight row = (f : ℕ → Bool) → Before words (length nodes) eight f → IsRow nodes false (cells_by f (length nodes)) row

-- the rows, and the symbols that take each byte
pub record IsFollowers (nodes : List Node) (followers : Followers) : Type 0 where
  pub rows : IsRows nodes followers.common followers.rows
  pub each_mask : (b : ℕ) (d : Set) → b < 256 → Holds (get_or followers.masks b d).words (taking nodes b)

-- a list keeps what it had
pub record Keeps {X : Type 0} (old new : List X) : Type 0 where
  pub grown : length old ≤ length new
  pub same : (i : ℕ) (d : X) → i < length old → get_or new i d ≡ get_or old i d

-- the class that is noted of a byte is one, and its set are the symbols that take the byte
pub record IsMasks (nodes : List Node) (masks : Masks) : Type 0 where
  pub within : (b k : ℕ) → get_or masks.classes b None ≡ Some k → k < length masks.sets.items
  pub takes : (b k : ℕ) (d : Set) → get_or masks.classes b None ≡ Some k → Holds (get_or masks.sets.items k d).words (taking nodes b)
