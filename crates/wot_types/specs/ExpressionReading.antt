-- Reading an expression from left to right, byte by byte.
use Rattle.std.specs.Prelude.{ℕ, Bool, true, false, ◌==◌, nat_le, List, [], ◌∷◌, ◌++◌, length, Option, Some, None, option_and_then, if◌then◌else◌}
use Rattle.wot_types.specs.Bytes.{asterisk, backslash, bar, caret, closing_bracket, closing_parenthesis, dollar, dot, hyphen, opening_bracket, opening_parenthesis, plus_sign, question_mark}
use Rattle.wot_types.specs.Limits.{longest_scope}
use Rattle.wot_types.specs.Expression.{Tree, any, any_number, at_least_one, at_most_one, byte, either, followed, nothing, range, symbol, text_end, text_start}

-- where the bytes so far end: outside ranges; behind a backslash; behind a `[`, or `[^`; in a range behind its members, behind a byte
-- of its next member, or behind that and a `-`
pub data Mode : Type 0 where
  plain : Mode
  escape : Mode
  opened : Mode
  opened_negated : Mode
  between : Bool → List (ℕ × ℕ) → Mode
  behind : Bool → List (ℕ × ℕ) → ℕ → Mode
  dashed : Bool → List (ℕ × ℕ) → ℕ → Mode

-- an expression that goes on: the one before the last `|`, the branch so far, and an atom that `*`, `+` or `?` may follow
pub record Level : Type 0 where
  pub before : Option Tree
  pub branch : Tree
  pub atom : Option Tree

-- the expressions around this one, innermost first, each up to its `(`; this one; and where it ends
pub record State : Type 0 where
  pub outer : List Level
  pub level : Level
  pub mode : Mode

abbrev pub fresh : Level
fresh = record { before = None; branch = nothing; atom = None }

abbrev pub with_piece : Tree → Option Tree → Tree
with_piece branch None = branch
with_piece branch (Some atom) = followed branch atom

abbrev pub with_branch : Option Tree → Tree → Tree
with_branch None branch = branch
with_branch (Some before) branch = either before branch

-- the branch with its last atom, and the whole expression
abbrev pub settled : Level → Tree
settled level = with_piece level.branch level.atom

abbrev pub whole : Level → Tree
whole level = with_branch level.before (settled level)

-- a level without an atom that something may follow
abbrev pub closed : Level → Level
closed level = record level { branch = settled level; atom = None }

abbrev pub with_atom : Tree → State → State
with_atom a st = record st { level = record st.level { branch = settled st.level; atom = Some a }; mode = plain }

abbrev pub with_mode : Mode → State → State
with_mode mode st = record st { mode = mode }

-- `*`, `+` or `?`
abbrev pub repeated_by : (Tree → Tree) → State → Option Tree → Option State
repeated_by repeat st None = None
repeated_by repeat st (Some a) = Some (record st { level = record st.level { branch = followed st.level.branch (repeat a); atom = None } })

-- `)`
abbrev pub group_closed : State → List Level → Option State
group_closed st [] = None
group_closed st (level ∷ outer) = Some (record { outer = outer; level = record level { atom = Some (whole st.level) }; mode = plain })

-- a byte outside ranges
abbrev pub next_plain : State → ℕ → Option State
next_plain st b =
    if b == bar then Some (record st { level = record { before = Some (whole st.level); branch = nothing; atom = None } }) else
    if b == opening_parenthesis then Some (record st { outer = closed st.level ∷ st.outer; level = fresh }) else
    if b == closing_parenthesis then group_closed st st.outer else
    if b == opening_bracket then Some (with_mode opened st) else
    if b == dot then Some (with_atom (symbol any) st) else
    if b == caret then Some (with_atom text_start st) else
    if b == dollar then Some (with_atom text_end st) else
    if b == backslash then Some (with_mode escape st) else
    if b == asterisk then repeated_by any_number st st.level.atom else
    if b == plus_sign then repeated_by at_least_one st st.level.atom else
    if b == question_mark then repeated_by at_most_one st st.level.atom else
    Some (with_atom (symbol (byte b)) st)

abbrev pub closed_range : Bool → List (ℕ × ℕ) → State → State
closed_range negated members st = with_atom (symbol (range negated members)) st

-- a byte behind a byte of a range
abbrev pub next_behind : State → Bool → List (ℕ × ℕ) → ℕ → ℕ → State
next_behind st negated members a b =
    if b == hyphen then with_mode (dashed negated members a) st else
    if b == closing_bracket then closed_range negated (members ++ (a, a) ∷ []) st else
    with_mode (behind negated (members ++ (a, a) ∷ []) b) st

-- a byte behind a byte of a range and `-`
abbrev pub next_dashed : State → Bool → List (ℕ × ℕ) → ℕ → ℕ → Option State
next_dashed st negated members a b =
    if b == closing_bracket then Some (closed_range negated (members ++ (a, a) ∷ (hyphen, hyphen) ∷ []) st) else
    if nat_le a b then Some (with_mode (between negated (members ++ (a, b) ∷ [])) st) else
    None

abbrev pub next_in : State → Mode → ℕ → Option State
next_in st plain b = next_plain st b
next_in st escape b = Some (with_atom (symbol (byte b)) st)
next_in st opened b = Some (if b == caret then with_mode opened_negated st else with_mode (behind false [] b) st)
next_in st opened_negated b = Some (with_mode (behind true [] b) st)
next_in st (between negated members) b = Some (if b == closing_bracket then closed_range negated members st else with_mode (behind negated members b) st)
next_in st (behind negated members a) b = Some (next_behind st negated members a b)
next_in st (dashed negated members a) b = next_dashed st negated members a b

-- one byte more, if an expression may go on by it
abbrev pub next : State → ℕ → Option State
next st b = next_in st st.mode b

abbrev pub after : State → List ℕ → Option State
after st [] = Some st
after st (b ∷ bytes) = option_and_then (λ s. after s bytes) (next st b)

abbrev pub opening_state : State
opening_state = record { outer = []; level = fresh; mode = plain }

-- the tree of an expression that may end here
abbrev pub finished_in : Level → Mode → List Level → Option Tree
finished_in level plain [] = Some (whole level)
finished_in level mode outer = None

abbrev pub finished : State → Option Tree
finished st = finished_in st.level st.mode st.outer

-- the tree of an expression, if the bytes are one
abbrev pub tree_of : List ℕ → Option Tree
tree_of scope = if nat_le (length scope) longest_scope then option_and_then finished (after opening_state scope) else None
