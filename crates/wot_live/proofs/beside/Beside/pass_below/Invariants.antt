use Rattle.std.proofs.Common.{length}
use Rattle.std.specs.FinMap.{FinMap}
use Rattle.std.specs.Ordering.{nat_cmp}
use Rattle.wot_live.specs.Ahead.{IsAhead, entries_left}
use Rattle.wot_live.proofs.beside.Beside.pass_below.Given as goal

abbrev pub invariant-loop-self : goal.invariant-loop-self
invariant-loop-self g l = (m : FinMap nat_cmp _) → IsAhead m l.id (entries_left l.initial.self-inside.ahead l.initial.self-inside.left) → IsAhead m l.id (entries_left l.self-inside.ahead l.self-inside.left)

abbrev pub decreases-loop-self : goal.decreases-loop-self
decreases-loop-self g l = length (entries_left l.self-inside.ahead l.self-inside.left)
