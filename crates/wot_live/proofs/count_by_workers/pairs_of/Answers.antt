use Rattle.wot_live.proofs.Merging.{kept_next}
use Rattle.wot_live.proofs.count_by_workers.pairs_of.Goals as goal

pub loop-id-preserved : goal.loop-id-preserved
loop-id-preserved g c =
    kept_next c.args.state.now c.args.rows.now c.args.ids.now c.loop-id.id-index c.id-item.result c.loop-id.pairs.items c.push_counts_of_id.new.to.items
    c.loop-id-test.true c.id-item.is c.loop-id.invariant c.in_ok-push_counts_of_id.ensures
