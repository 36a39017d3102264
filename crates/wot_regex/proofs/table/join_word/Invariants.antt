use Rattle.std.proofs.Common.{◌+◌, ◌*◌}
use Rattle.wot_regex.specs.Following.{IsSoFar}
use Rattle.wot_regex.proofs.table.join_word.Given as goal

-- the marks of each eight so far are added
abbrev pub invariant-loop-j : goal.invariant-loop-j
invariant-loop-j l = IsSoFar l.nodes l.marks.words (8 * l.i) l.fn.row → IsSoFar l.nodes l.marks.words (8 * l.i + l.j) l.row
