use Rattle.std.proofs.Common.{◌*◌}
use Rattle.wot_regex.specs.Following.{IsSoFar}
use Rattle.wot_regex.proofs.table.row_by_table.Given as goal

-- what comes next by the marks of the words so far
abbrev pub invariant-loop-i : goal.invariant-loop-i
invariant-loop-i l = IsSoFar l.nodes l.marks.words (8 * l.i) l.row
