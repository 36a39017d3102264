use Rattle.std.proofs.Common.{[], ◌∷◌, ◌++◌, take, refl, sym, subst, arith}
use Rattle.wot_levels.proofs.Weights.{next_of, take_all}
use Rattle.wot_live.specs.Recounting.{IsGrownBy, among}
use Rattle.wot_live.proofs.Lists.{grown_at_start, grown_push}
use Rattle.wot_live.proofs.worklist.Worklist.add_all.Goals as goal

pub loop-id-init : goal.loop-id-init
loop-id-init c = grown_at_start (among []) c.args.self (λ x. refl)

pub loop-id-preserved : goal.loop-id-preserved
loop-id-preserved c =
    let ids = c.args.ids.now in
    let i = c.loop-id.id-index in
    let x = c.id-item.result in
    let next = next_of ids i x (omega (arith, c.loop-id-test.true)) c.id-item.is in
    subst (λ xs. IsGrownBy (among xs) c.args.self c.in_ok-list.list) (sym next)
    (subst (IsGrownBy (among (take i ids ++ x ∷ [])) c.args.self) (sym c.in_ok-list.ensures) (grown_push (take i ids) c.args.self c.loop-id.list x c.loop-id.invariant))

pub returns : goal.returns
returns c =
    let ids = c.args.ids.now in
    subst (λ xs. IsGrownBy (among xs) c.args.self c.loop-id.list) (take_all ids c.loop-id.id-index (omega (arith, c.loop-id-test.false))) c.loop-id.invariant
