use Rattle.std.proofs.Common.{ap, ◌∙◌}
use Rattle.wot_types.specs.Keyring.{taken_id, with_keys}
use Rattle.wot_types.specs.Ownertrust.{with_entries}
use Rattle.wot_types.specs.State.{State}
use Rattle.wot_types.specs.Touched.{named_by_put}
use Rattle.wot_live.specs.Follows.{no_keys, uncounted_state}
use Rattle.wot_live.proofs.EditLemmas.{due_after, edit_bound}
use Rattle.wot_live.proofs.engine.Engine.put.Goals as goal

pub put-requires : goal.put-requires
put-requires g c = record { well_formed = c.requires.well_formed; free = ap (λ (v : State). taken_id v.keys c.args.keys) c.uncounted.ensures.state ∙ c.requires.free }

pub count-requires : goal.count-requires
count-requires g c = record { due = due_after c.uncounted.ensures.due c.in_ok-put.ensures.state c.uncounted.ensures.due.ranges c.in_ok-put.ensures.due }

pub returns-clause-ticks : goal.returns-clause-ticks
returns-clause-ticks g c =
    let s = c.args.self in
    let named = named_by_put (uncounted_state c.uncounted.result) c.args.keys c.args.entries in
    edit_bound (λ v. record v { keys = with_keys v.keys c.args.keys; trusts = with_entries v.trusts c.args.entries }) (λ v. named_by_put v c.args.keys c.args.entries) _ _ c.uncounted.ensures.state c.in_ok-put.ensures.state
    (c.count.ensures.ticks s named (c.in_ok-put.ensures.since c.uncounted.ensures.introducers s no_keys c.uncounted.ensures.since))
