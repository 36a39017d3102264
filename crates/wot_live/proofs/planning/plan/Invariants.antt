use Rattle.std.proofs.Common.{◌≤◌, ◌+◌, take}
use Rattle.wot_levels.specs.Frontier.{weight}
use Rattle.wot_live.specs.Agenda.{AreDue, IsWithin}
use Rattle.wot_live.proofs.planning.plan.Given as goal

abbrev pub invariant-loop-i : goal.invariant-loop-i
invariant-loop-i g l = record {
  due : AreDue l.state.keys l.fn.course.rows l.level (take l.i l.fn.course.todo) l.agenda;
  within : IsWithin l.fn.course.todo l.agenda;
  ticks : l.steps + weight l.state.keys (take l.planned l.fn.course.todo) ≤ l.initial.steps + weight l.state.keys (take l.i l.fn.course.todo);
}
