use Rattle.std.proofs.Common.{All, take}
use Rattle.wot_types.specs.IdFilter.{Passes}
use Rattle.wot_types.proofs.rows.filter_of.Given as goal

abbrev pub invariant-loop-row : goal.invariant-loop-row
invariant-loop-row l = All (λ row. Passes l.filter row.key) (take l.row-index l.rows)
