use Rattle.std.proofs.Common.{◌≡◌, ℕ, length}
use Rattle.std.specs.Option.{option_or}
use Rattle.std.specs.FinMap as map
use Rattle.wot_check.specs.Recount.{row_among}
use Rattle.wot_check.proofs.rows_anew.with_found.Given as goal

-- with the rows that are left it is that of all
abbrev pub invariant-loop-row : goal.invariant-loop-row
invariant-loop-row l = (id : ℕ) → option_or (row_among l.left id) (map.get l.rows id) ≡ option_or (row_among l.fn.found id) (map.get l.fn.rows id)

abbrev pub decreases-loop-row : goal.decreases-loop-row
decreases-loop-row l = length l.left
