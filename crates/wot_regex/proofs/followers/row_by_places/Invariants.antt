use Rattle.std.proofs.Common.{◌≡◌, ◌*◌, false, List, length}
use Rattle.wot_regex.specs.Following.{Holds, IsRow, IsRows, front}
use Rattle.wot_regex.specs.declared.node.Node.{Node}
use Rattle.wot_regex.specs.declared.reach.Reach.{Reach}
use Rattle.wot_regex.proofs.followers.row_by_places.Given as goal

-- what comes next by the marks of the words so far
abbrev pub invariant-loop-i : goal.invariant-loop-i
invariant-loop-i l =
    (nodes : List Node) (cells : List Reach) → length nodes ≡ length l.rows → IsRows nodes l.common l.rows → length cells ≡ length nodes → Holds l.marks.words cells → IsRow nodes false (front (64 * l.i) cells) l.row
