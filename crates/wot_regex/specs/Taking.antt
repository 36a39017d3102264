-- Reading into a table, byte by byte.
use Rattle.std.specs.Prelude.{ℕ, Bool, true, false, ◌==◌, ◌&&◌, nat_lt, List, [], ◌∷◌, ◌++◌, length, Option, Some, None, if◌then◌else◌}
use Rattle.wot_types.specs.Bytes.{backslash, dot, hyphen}
use Rattle.wot_types.specs.Bytes.{asterisk, bar, caret, closing_parenthesis, closing_bracket, dollar, opening_parenthesis, opening_bracket, plus_sign, question_mark}
use Rattle.wot_regex.specs.declared.node.Node.{Node}
use Rattle.wot_regex.specs.declared.node.Node.TheVariants.{Any, AnyNumber, AtLeastOne, AtMostOne, Byte, Either, End, Followed, Member, Nothing, Range, Start}
use Rattle.wot_regex.specs.declared.reader.Mode.{Mode}
use Rattle.wot_regex.specs.declared.reader.Mode.TheVariants.{Behind, Between, Dashed, Escape, Opened, OpenedNegated, Plain}
use Rattle.wot_regex.specs.declared.reader.Reader.{Reader}

abbrev pub with_last : Bool → List Node → Node → List Node
with_last b nodes node = if b then nodes ++ node ∷ [] else nodes

abbrev pub atom_ended : Reader → Reader
atom_ended r = record r { nodes = with_last r.has_atom r.nodes Followed; has_atom = false }

abbrev pub expression_ended : Reader → Reader
expression_ended r = record r { nodes = with_last r.barred (with_last r.has_atom r.nodes Followed) Either; has_atom = false }

abbrev pub begun : Reader → Reader
begun r = record r { nodes = (expression_ended r).nodes ++ Nothing ∷ []; barred = true; has_atom = false }

abbrev pub group_opened : Reader → Reader
group_opened r = record r { nodes = (atom_ended r).nodes ++ Nothing ∷ []; outer = r.barred ∷ r.outer; barred = false; has_atom = false }

abbrev pub group_ended : Reader → List Bool → Option Reader
group_ended r [] = None
group_ended r (b ∷ outer) = Some (record r { nodes = (expression_ended r).nodes; outer = outer; barred = b; has_atom = true })

abbrev pub repeated_as : Node → Reader → Option Reader
repeated_as node r = if r.has_atom then Some (record r { nodes = (r.nodes ++ node ∷ []) ++ Followed ∷ []; has_atom = false }) else None

abbrev pub atom_added : Node → Reader → Reader
atom_added node r = record r { nodes = (atom_ended r).nodes ++ node ∷ []; has_atom = true; mode = Plain }

abbrev pub range_added : Bool → ℕ → Reader → Reader
range_added negated b r = record r { nodes = (atom_ended r).nodes ++ Range negated ∷ []; has_atom = false; mode = Behind b }

abbrev pub range_ended : Reader → Reader
range_ended r = record r { has_atom = true; mode = Plain }

abbrev pub member_added : ℕ → ℕ → Reader → Reader
member_added first last r = record r { nodes = r.nodes ++ Member first last ∷ [] }

abbrev pub in_mode : Mode → Reader → Reader
in_mode mode r = record r { mode = mode }

abbrev pub taken_between : Reader → ℕ → Reader
taken_between r b = if b == closing_bracket then range_ended r else in_mode (Behind b) r

abbrev pub taken_behind : Reader → ℕ → ℕ → Reader
taken_behind r first b = if b == hyphen then in_mode (Dashed first) r else taken_between (member_added first first r) b

abbrev pub taken_dashed : Reader → ℕ → ℕ → Option Reader
taken_dashed r first b =
    if b == closing_bracket then Some (range_ended (member_added hyphen hyphen (member_added first first r))) else
    if nat_lt b first then None else
    Some (in_mode Between (member_added first b r))

abbrev pub taken_opened : Reader → ℕ → Reader
taken_opened r b = if b == caret then in_mode OpenedNegated r else range_added false b r

abbrev pub taken_plain : Reader → ℕ → Option Reader
taken_plain r b =
    if b == bar then Some (begun r) else
    if b == opening_parenthesis then Some (group_opened r) else
    if b == closing_parenthesis then group_ended r r.outer else
    if b == opening_bracket then Some (in_mode Opened r) else
    if b == dot then Some (atom_added Any r) else
    if b == caret then Some (atom_added Start r) else
    if b == dollar then Some (atom_added End r) else
    if b == backslash then Some (in_mode Escape r) else
    if b == asterisk then repeated_as AnyNumber r else
    if b == plus_sign then repeated_as AtLeastOne r else
    if b == question_mark then repeated_as AtMostOne r else
    Some (atom_added (Byte b) r)

abbrev pub taken_in : Reader → Mode → ℕ → Option Reader
taken_in r Plain b = taken_plain r b
taken_in r Escape b = Some (atom_added (Byte b) r)
taken_in r Opened b = Some (taken_opened r b)
taken_in r OpenedNegated b = Some (range_added true b r)
taken_in r Between b = Some (taken_between r b)
taken_in r (Behind first) b = Some (taken_behind r first b)
taken_in r (Dashed first) b = taken_dashed r first b

abbrev pub taken : Reader → ℕ → Option Reader
taken r b = taken_in r r.mode b

-- a reader behind a call that tells whether an expression may go on so
abbrev pub when : Bool → Reader → Option Reader
when b r = if b then Some r else None

abbrev pub is_plain_mode : Mode → Bool
is_plain_mode Plain = true
is_plain_mode mode = false

abbrev pub table_of : Reader → Option (List Node)
table_of r = if is_plain_mode r.mode && (length r.outer == 0) then Some (expression_ended r).nodes else None

abbrev pub reader_start : Reader
reader_start = record { nodes = Nothing ∷ []; outer = []; barred = false; has_atom = false; mode = Plain }
