use Rattle.std.proofs.Common.{◌≡◌, ◌≤◌, true, length, drop}
use Rattle.wot_marks.specs.Marks.{AreMarked}
use Rattle.wot_spelling.specs.Checks.{are_distinct}
use Rattle.wot_spelling.proofs.checks.are_found_once.Given as goal

abbrev pub invariant-loop-place : goal.invariant-loop-place
invariant-loop-place l = (l.place ≤ length l.users) × AreMarked l.marks (drop l.place l.users) × (are_distinct (drop l.place l.users) ≡ true)

abbrev pub decreases-loop-place : goal.decreases-loop-place
decreases-loop-place l = l.place
