use Rattle.std.proofs.Common.{◌≡◌, ◌≤◌, ◌+◌, ◌*◌, drop}
use Rattle.wot_levels.specs.Frontier.{weight}
use Rattle.wot_check.specs.Comparison.{first_fallen}
use Rattle.wot_check.proofs.all_rows.first_fallen.Given as goal

-- the first of those left is the first of all
abbrev pub invariant-loop-id : goal.invariant-loop-id
invariant-loop-id g l = record {
  so_far : first_fallen l.state l.rows (drop l.id-index l.ids) ≡ first_fallen l.state l.rows l.ids;
  ticks : l.steps + 2 * weight l.state.keys (drop l.id-index l.ids) ≤ l.initial.steps + 2 * weight l.state.keys l.ids;
}
