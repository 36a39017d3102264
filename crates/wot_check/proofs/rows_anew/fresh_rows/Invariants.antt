use Rattle.std.proofs.Common.{◌≡◌, ◌++◌, drop}
use Rattle.wot_check.specs.Recount.{fresh_rows}
use Rattle.wot_check.proofs.rows_anew.fresh_rows.Given as goal

-- with those of the keys that are left it is those of all
abbrev pub invariant-loop-id : goal.invariant-loop-id
invariant-loop-id g l =
    let s = l.state in
    l.found ++ fresh_rows s l.rows l.level (drop l.id-index l.ids) ≡ fresh_rows s l.rows l.level l.ids
