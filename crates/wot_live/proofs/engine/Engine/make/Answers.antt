use Rattle.std.proofs.Common.{sym, subst}
use Rattle.wot_live.specs.Follows.{no_keys, uncounted_state}
use Rattle.wot_live.specs.PlainEdit.{IsAllowed, after_plain, named_by_plain}
use Rattle.wot_live.proofs.EditLemmas.{due_after, edit_bound, ranges_after}
use Rattle.wot_live.proofs.engine.Engine.make.Goals as goal

pub count-requires : goal.count-requires
count-requires g c =
    let t = uncounted_state c.uncounted.result in
    let allowed = subst (λ s. IsAllowed s c.args.edit) (sym c.uncounted.ensures.state) c.requires.allowed in
    record { due = due_after c.uncounted.ensures.due c.in_ok-make.ensures.state (ranges_after t c.args.edit c.uncounted.ensures.due.ranges allowed) c.in_ok-make.ensures.due }

pub returns-clause-ticks : goal.returns-clause-ticks
returns-clause-ticks g c =
    let s = c.args.self in
    let named = named_by_plain (uncounted_state c.uncounted.result) c.args.edit in
    edit_bound (λ v. after_plain v c.args.edit) (λ v. named_by_plain v c.args.edit) _ _ c.uncounted.ensures.state c.in_ok-make.ensures.state
    (c.count.ensures.ticks s named (c.in_ok-make.ensures.since c.uncounted.ensures.introducers s no_keys c.uncounted.ensures.since))
