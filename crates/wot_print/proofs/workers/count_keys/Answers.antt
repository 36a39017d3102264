use Rattle.std.proofs.Common.{take, take_all, ap, ◌∙◌, arith}
use Rattle.wot_print.specs.Counts.{counts_of}
use Rattle.wot_print.specs.KeyLetters.{letters_among, letters_at}
use Rattle.wot_print.proofs.Loops.{one_more}
use Rattle.wot_print.proofs.workers.count_keys.Goals as goal

pub loop-id-preserved : goal.loop-id-preserved
loop-id-preserved g c =
    let s = c.args.state.now in
    let rows = c.args.rows.now in
    let ids = c.args.ids.now in
    let i = c.loop-id.id-index in
    c.count_key.ensures (letters_among s rows (take i ids)) c.loop-id.invariant
    ∙ ap counts_of (one_more (letters_at s rows) ids i c.id-item.result c.loop-id-test.true c.id-item.is)

pub returns : goal.returns
returns g c =
    let s = c.args.state.now in
    let rows = c.args.rows.now in
    let ids = c.args.ids.now in
    c.loop-id.invariant ∙ ap (λ xs. counts_of (letters_among s rows xs)) (take_all c.loop-id.id-index ids (omega (arith, c.loop-id-test.false)))
