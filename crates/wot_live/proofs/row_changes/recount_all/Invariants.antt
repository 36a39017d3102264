use Rattle.std.proofs.Common.{◌≡◌, ◌+◌, ◌≤◌, ℕ, List, take}
use Rattle.wot_levels.specs.Frontier.{weight}
use Rattle.wot_live.specs.Agenda.{AreDue, IsWithin}
use Rattle.wot_live.specs.Recounting.{IsRecounted}
use Rattle.wot_live.proofs.row_changes.recount_all.Given as goal

abbrev pub invariant-loop-id : goal.invariant-loop-id
invariant-loop-id g l = record {
  pass : IsRecounted l.state l.level l.fn.course.moved.before (take l.id-index l.ids) l.fn.course.rows l.fn.course.todo l.fn.course.moved.here l.course.rows l.course.todo l.course.moved.here;
  before : l.course.moved.before ≡ l.fn.course.moved.before;
  due : (ids : List ℕ) → AreDue l.state.keys l.fn.course.rows (l.level + 1) ids l.fn.course.agenda → AreDue l.state.keys l.course.rows (l.level + 1) ids l.course.agenda;
  within : IsWithin l.fn.course.todo l.fn.course.agenda → IsWithin l.course.todo l.course.agenda;
  ticks : l.steps ≤ l.initial.steps + weight l.state.keys (take l.id-index l.ids);
  unread : l.level ≡ 0 → l.steps ≡ l.initial.steps;
}
