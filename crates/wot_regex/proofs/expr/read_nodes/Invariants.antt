use Rattle.std.proofs.Common.{◌+◌, ◌*◌, ◌≤◌, drop, length}
use Rattle.wot_types.specs.ExpressionReading.{after, opening_state}
use Rattle.wot_regex.proofs.Takings.{Reading}
use Rattle.wot_regex.proofs.expr.read_nodes.Given as goal

-- the rest decides
abbrev pub invariant-loop-b : goal.invariant-loop-b
invariant-loop-b l = record {
  room : length l.reader.nodes ≤ 3 * l.b-index + 1;
  depth : length l.reader.outer ≤ l.b-index;
  reads : Reading l.reader (drop l.b-index l.scope) (after opening_state l.scope);
}
