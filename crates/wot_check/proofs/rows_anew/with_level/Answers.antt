use Rattle.std.proofs.Common.{◌≡◌, ◌<◌, ℕ, ◌∙◌, arith}
use Rattle.std.specs.FinMap as map
use Rattle.std.specs.Option.{option_or}
use Rattle.std.proofs.lemmas.Result.{IfOk-weaker}
use Rattle.wot_types.specs.Candidates.{RowMap}
use Rattle.wot_types.specs.Levels.{kept_or}
use Rattle.wot_levels.specs.Given.{given_row}
use Rattle.wot_check.specs.Recount.{fresh_rows, row_among}
use Rattle.wot_check.proofs.LevelRows.{fresh_spread, with_fresh}
use Rattle.wot_check.proofs.rows_anew.with_level.Goals as goal

pub returns : goal.returns
returns g c =
    let s = c.args.state.now in
    let rows = c.args.rows in
    let level = c.args.level in
    let ids = c.args.ids.now in
    let positive : 0 < c.args.size = omega (arith, c.requires.size.positive) in
    IfOk-weaker c.with_pieces.result
    (λ (next : RowMap). (id : ℕ) → map.get next id ≡ option_or (row_among (fresh_rows s rows level ids) id) (map.get rows id))
    (λ (next : RowMap). (id : ℕ) → map.get next id ≡ kept_or (map.get rows id) (given_row s rows level id))
    (λ next is id. is id ∙ with_fresh s rows level ids id c.requires.walk)
    (c.with_pieces.ensures (fresh_rows s rows level) c.args.size ids c.in_ok-pieces.ensures (fresh_spread s rows level) positive)
