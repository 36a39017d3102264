use Rattle.std.proofs.Common.{◌≡◌, ◌-◌, ◌≤◌}
use Rattle.wot_types.specs.Levels.{rows_upto}
use Rattle.wot_check.proofs.rows_anew.rows_by.Given as goal

abbrev pub invariant-loop-level : goal.invariant-loop-level
invariant-loop-level g l = record {
  so_far : l.rows ≡ rows_upto l.state (l.level - 1);
  bounded : l.level - 1 ≤ l.state.options.depth - 1;
}
