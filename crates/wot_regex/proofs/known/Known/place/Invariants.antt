use Rattle.std.proofs.Common.{◌≤◌}
use Rattle.wot_regex.proofs.known.Known.place.Given as goal

abbrev pub invariant-loop-i : goal.invariant-loop-i
invariant-loop-i l = 1 ≤ l.i
