use Rattle.std.proofs.Common.{◌++◌, take, sym, subst, arith}
use Rattle.wot_levels.proofs.Weights.{next_of, take_all}
use Rattle.wot_live.specs.Agenda.{HasAt, due_at}
use Rattle.wot_live.proofs.Agendas.{none_added, one_added, put_off_again}
use Rattle.wot_live.proofs.agenda.Agenda.add_all.Goals as goal

pub loop-id-init : goal.loop-id-init
loop-id-init c = none_added c.args.self c.args.level

pub loop-id-preserved : goal.loop-id-preserved
loop-id-preserved c =
    let more = c.args.more.now in
    let n = c.args.level in
    let i = c.loop-id.id-index in
    let x = c.id-item.result in
    let next = next_of more i x (omega (arith, c.loop-id-test.true)) c.id-item.is in
    subst (λ xs. HasAt c.args.self n (due_at c.args.self n ++ xs) c.in_ok-agenda.agenda) (sym next)
    (one_added c.args.self c.loop-id.agenda c.in_ok-agenda.agenda n (take i more) x c.loop-id.invariant c.in_ok-agenda.ensures)

pub returns : goal.returns
returns c =
    let more = c.args.more.now in
    let n = c.args.level in
    put_off_again c.args.self c.loop-id.agenda n more
    (subst (λ xs. HasAt c.args.self n (due_at c.args.self n ++ xs) c.loop-id.agenda) (take_all more c.loop-id.id-index (omega (arith, c.loop-id-test.false))) c.loop-id.invariant)
