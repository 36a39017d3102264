use Rattle.std.proofs.Common.{Some, refl, sym, ap, ◌∙◌}
use Rattle.std.specs.FinMap as map
use Rattle.wot_types.specs.Touched.{is_same_standing}
use Rattle.wot_types.proofs.SameRows.{same_standing}
use Rattle.wot_live.proofs.RowChanges.{put_at, put_others}
use Rattle.wot_live.proofs.row_change.put_row.Goals as goal

pub returns-then-is_the_row-clause-row : goal.returns-then-is_the_row-clause-row
returns-then-is_the_row-clause-row c =
    let row = c.args.row in
    same_standing (map.get c.args.rows row.key) (Some row) (ap (λ o. is_same_standing o (Some row)) (sym c.get.ensures.found) ∙ sym c.is_the_row.ensures ∙ c.if-is_the_row.true)

pub returns-clause-row : goal.returns-clause-row
returns-clause-row c =
    let row = c.args.row in
    ap (λ m. map.get m row.key) c.in_ok-insert.ensures ∙ put_at c.args.rows row.key row refl

pub returns-clause-others : goal.returns-clause-others
returns-clause-others c = λ x other.
    let row = c.args.row in
    ap (λ m. map.get m x) c.in_ok-insert.ensures ∙ put_others c.args.rows row.key row refl x other
