use Rattle.std.specs.FinMap as map
use Rattle.wot_types.specs.Touched.{named_by_remove}
use Rattle.wot_live.specs.Follows.{no_keys, with_named}
use Rattle.wot_live.proofs.EditLemmas.{due_after, edit_bound}
use Rattle.wot_live.proofs.engine.Engine.remove.Goals as goal

pub count-requires : goal.count-requires
count-requires g c = record { due = due_after c.uncounted.ensures.due c.in_ok-remove.ensures.state c.uncounted.ensures.due.ranges (λ s names due. (with_named names (named_by_remove c.args.id), c.in_ok-remove.ensures.since s names due)) }

pub returns-clause-ticks : goal.returns-clause-ticks
returns-clause-ticks g c =
    let s = c.args.self in
    let named = named_by_remove c.args.id in
    edit_bound (λ v. record v { keys = map.remove v.keys c.args.id }) (λ v. named_by_remove c.args.id) _ _ c.uncounted.ensures.state c.in_ok-remove.ensures.state
    (c.count.ensures.ticks s named (c.in_ok-remove.ensures.since s no_keys c.uncounted.ensures.since))
