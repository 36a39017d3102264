use Rattle.std.proofs.Common.{ap, ◌∙◌}
use Rattle.wot_types.specs.Indexes.{has_cert_by}
use Rattle.wot_live.specs.Recounting.{among}
use Rattle.wot_live.proofs.Lists.{passed_all, passed_more}
use Rattle.wot_live.proofs.worklist.certified_by.Goals as goal

pub loop-id-preserved : goal.loop-id-preserved
loop-id-preserved c = λ x.
    ap (λ xs. among xs x) c.in_ok-push.ensures.items
    ∙ passed_more (has_cert_by c.args.table.now c.args.issuer) c.loop-id.after c.loop-id.ids.items c.in-Some.id c.in-Some.ensures c.loop-id.invariant x

pub returns : goal.returns
returns c = passed_all (has_cert_by c.args.table.now c.args.issuer) c.loop-id.after c.loop-id.ids.items c.in_default.ensures c.loop-id.invariant
