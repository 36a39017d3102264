use Rattle.std.proofs.Common.{◌≡◌, None}
use Rattle.wot_check.specs.Stored.{row_below}
use Rattle.wot_check.proofs.given_row.counted_row.Given as goal

-- no lower level gives one
abbrev pub invariant-loop-level : goal.invariant-loop-level
invariant-loop-level g l = row_below l.state l.rows l.id l.level ≡ None
