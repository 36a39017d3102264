use Rattle.std.proofs.Common.{◌≡◌, ℕ, option_map, ap, subst, ◌∙◌}
use Rattle.std.specs.Result.{IfOk}
use Rattle.wot_levels.specs.Standings.{standing_row}
use Rattle.wot_levels.specs.Walk.{with_found}
use Rattle.wot_levels.proofs.first_level.with_first_row.Goals as goal

pub returns : goal.returns
returns c =
    let rows = c.args.rows in
    let k = c.args.keyblock.now in
    let put = λ (id : ℕ). with_found rows id (option_map (standing_row id 0) c.first_standing-standing.result) in
    subst (λ m. IfOk c.with_row_if.result (λ new. new ≡ m)) (ap put c.id.ensures ∙ ap (with_found rows k.0) (c.first_standing-standing.ensures.row k.0 k.1 c.key.ensures)) c.with_row_if.ensures
