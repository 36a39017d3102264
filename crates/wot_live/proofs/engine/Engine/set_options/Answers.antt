use Rattle.wot_types.specs.Touched.{named_by_options}
use Rattle.wot_live.specs.Follows.{no_keys, with_named}
use Rattle.wot_live.proofs.EditLemmas.{due_after, edit_bound}
use Rattle.wot_live.proofs.engine.Engine.set_options.Goals as goal

pub count-requires : goal.count-requires
count-requires g c = record { due = due_after c.uncounted.ensures.due c.set_options.ensures.state c.requires.ranges (λ s names due. (with_named names named_by_options, c.set_options.ensures.since s names)) }

pub returns-clause-ticks : goal.returns-clause-ticks
returns-clause-ticks g c =
    let s = c.args.self in
    edit_bound (λ v. record v { options = c.args.options }) (λ v. named_by_options) _ _ c.uncounted.ensures.state c.set_options.ensures.state
    (c.count.ensures.ticks s named_by_options (c.set_options.ensures.since s no_keys))
