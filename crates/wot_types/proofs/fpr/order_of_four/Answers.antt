use Rattle.std.proofs.Common.{rules, arith, nat_cmp, ap₂, ◌∙◌}
use Rattle.wot_types.proofs.ByteOrder.{four}
use Rattle.wot_types.proofs.fpr.order_of_four.Goals as goal

pub returns : goal.returns
returns c =
    c.cmp.ensures ∙ ap₂ nat_cmp c.from_be_bytes.ensures c.from_be_bytes-2.ensures
    ∙ four c.args.ours.now c.args.theirs.now (search rules) (search rules) (λ i. omega (arith, c.fits-ours i)) (λ i. omega (arith, c.fits-theirs i))
