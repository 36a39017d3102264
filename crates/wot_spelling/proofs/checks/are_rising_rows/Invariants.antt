use Rattle.std.proofs.Common.{◌≡◌, length}
use Rattle.wot_spelling.specs.Stored.{are_rising_rows}
use Rattle.wot_spelling.proofs.checks.are_rising_rows.Given as goal

abbrev pub invariant-loop-left : goal.invariant-loop-left
invariant-loop-left l = are_rising_rows l.left ≡ are_rising_rows l.rows

abbrev pub decreases-loop-left : goal.decreases-loop-left
decreases-loop-left l = length l.left
