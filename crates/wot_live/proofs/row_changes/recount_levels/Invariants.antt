use Rattle.std.proofs.Common.{◌≡◌, ◌+◌, ◌*◌, ◌-◌, ◌≤◌, ℕ, [], false, take}
use Rattle.wot_types.specs.State.{State}
use Rattle.wot_types.specs.Explanation.{KeySet}
use Rattle.wot_types.specs.Touched.{certs_on, is_touched}
use Rattle.wot_levels.specs.Frontier.{weight}
use Rattle.wot_live.specs.Agenda.{AreDue, IsWithin}
use Rattle.wot_live.specs.Recounting.{IsBegun, IsTouchedList, among}
use Rattle.wot_live.proofs.BeforeLevels.{IsStage}
use Rattle.wot_live.proofs.Stages.{IsLow}
use Rattle.wot_live.proofs.row_changes.recount_levels.Given as goal

abbrev pub invariant-loop-level : goal.invariant-loop-level
invariant-loop-level g l = record {
  due : AreDue l.state.keys l.course.rows l.level (take l.planned l.course.todo) l.course.agenda;
  within : IsWithin l.course.todo l.course.agenda;
  low : (s : State) → IsBegun s l.state l.fn.found.rows l.fn.found.todo → IsLow (l.state.options.depth - 1) l.course.rows;
  stage : (s : State) → IsBegun s l.state l.fn.found.rows l.fn.found.todo → IsStage s l.state l.level l.course.rows l.course.todo l.course.moved.before;
  here : l.course.moved.here ≡ [];
  longer : (x : ℕ) → among l.course.todo x ≡ false → among l.fn.found.todo x ≡ false;
  touched : (s : State) (named : KeySet) → IsBegun s l.state l.fn.found.rows l.fn.found.todo
      → IsTouchedList named s l.state l.fn.found.todo → IsTouchedList named s l.state l.course.todo;
  few : (s : State) (named : KeySet) → IsBegun s l.state l.fn.found.rows l.fn.found.todo → IsTouchedList named s l.state l.fn.found.todo
      → weight l.state.keys (take l.planned l.course.todo) ≤ certs_on (is_touched named s l.state) l.state.keys;
  ticks : (s : State) (named : KeySet) → IsBegun s l.state l.fn.found.rows l.fn.found.todo → IsTouchedList named s l.state l.fn.found.todo
      → l.steps ≤ l.initial.steps + (l.level - 1) * certs_on (is_touched named s l.state) l.state.keys + weight l.state.keys (take l.planned l.course.todo);
}
