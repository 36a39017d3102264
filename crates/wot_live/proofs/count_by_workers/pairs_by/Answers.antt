use Rattle.std.proofs.Common.{◌∙◌}
use Rattle.wot_live.proofs.Results.{both_then}
use Rattle.wot_live.proofs.Merging.{found_all}
use Rattle.wot_live.proofs.count_by_workers.pairs_by.Goals as goal

pub returns : goal.returns
returns g c =
    both_then c.merged.result
    (λ pairs whole exact. exact ∙ found_all c.args.state.now c.args.rows.now c.piece_size-size.result c.in_ok-found.found.items c.args.ids.now c.piece_size-size.ensures.positive whole c.in_ok-found.ensures)
    c.merged.ensures.whole c.merged.ensures.exact
