use Rattle.std.proofs.Common.{◌<◌, ◌∙◌, arith}
use Rattle.wot_table.proofs.Merging.{put_together}
use Rattle.wot_table.proofs.indexing.pairs_by.Goals as goal

pub returns : goal.returns
returns g c =
    let size = c.piece_size-size.result in
    let some : 0 < size = omega (arith, c.piece_size-size.ensures.positive) in
    put_together c.args.table.now size c.deref.result.now c.in_ok-pairs_by_piece.field-0.items c.merged.result some
    (c.deref.ensures.value ∙ c.in_ok-ids.ensures) c.in_ok-pairs_by_piece.ensures c.merged.ensures.whole c.merged.ensures.exact
