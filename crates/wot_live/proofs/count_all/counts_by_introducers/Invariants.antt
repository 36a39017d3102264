use Rattle.std.proofs.Common.{◌≤◌, ◌+◌, take}
use Rattle.std.specs.FinMap as finmap
use Rattle.wot_levels.specs.Frontier.{weight}
use Rattle.wot_live.specs.Counts.{AreCountedAt}
use Rattle.wot_live.proofs.count_all.counts_by_introducers.Given as goal

abbrev pub invariant-loop-id : goal.invariant-loop-id
invariant-loop-id g l = record {
  counts : AreCountedAt l.state l.rows (take l.id-index l.id-items) finmap.empty l.counts;
  ticks : l.steps ≤ l.initial.steps + weight l.state.keys (take l.id-index l.id-items);
}
