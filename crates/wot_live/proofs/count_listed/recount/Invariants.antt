use Rattle.std.proofs.Common.{◌+◌, ◌≤◌, take}
use Rattle.wot_live.specs.Counts.{AreCountedAt}
use Rattle.wot_levels.specs.Frontier.{weight}
use Rattle.wot_live.proofs.count_listed.recount.Given as goal

abbrev pub invariant-loop-i : goal.invariant-loop-i
invariant-loop-i g l = record {
  counts : AreCountedAt l.state l.rows (take l.i l.todo) l.fn.counts l.counts;
  ticks : l.steps ≤ l.initial.steps + weight l.state.keys (take l.i l.todo);
}
