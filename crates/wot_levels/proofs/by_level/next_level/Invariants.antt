use Rattle.std.proofs.Common.{◌≤◌, ◌+◌, [], take}
use Rattle.wot_levels.specs.Frontier.{IsLookedAt, weight}
use Rattle.wot_levels.proofs.by_level.next_level.Given as goal

abbrev pub invariant-loop-id : goal.invariant-loop-id
invariant-loop-id g l = record {
  looked_at : IsLookedAt l.state l.level (take l.id-index l.fn.reached.next.items) l.fn.reached.rows [] l.new.rows l.new.next.items;
  ticks : l.steps ≤ l.initial.steps + weight l.state.keys (take l.id-index l.fn.reached.next.items);
}
