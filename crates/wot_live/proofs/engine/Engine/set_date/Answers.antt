use Rattle.wot_types.specs.Touched.{named_by_date}
use Rattle.wot_live.specs.Follows.{no_keys, uncounted_state, with_named}
use Rattle.wot_live.proofs.EditLemmas.{due_after, edit_bound}
use Rattle.wot_live.proofs.engine.Engine.set_date.Goals as goal

pub count-requires : goal.count-requires
count-requires g c = record { due = due_after c.uncounted.ensures.due c.in_ok-set_date.ensures.state c.uncounted.ensures.due.ranges (λ s names due. (with_named names (named_by_date (uncounted_state c.uncounted.result) c.args.now), c.in_ok-set_date.ensures.since s names due)) }

pub returns-clause-ticks : goal.returns-clause-ticks
returns-clause-ticks g c =
    let s = c.args.self in
    let named = named_by_date (uncounted_state c.uncounted.result) c.args.now in
    edit_bound (λ v. record v { date = c.args.now }) (λ v. named_by_date v c.args.now) _ _ c.uncounted.ensures.state c.in_ok-set_date.ensures.state
    (c.count.ensures.ticks s named (c.in_ok-set_date.ensures.since s no_keys c.uncounted.ensures.since))
