use Rattle.std.proofs.Common.{◌+◌, ◌*◌, ◌≤◌, subst}
use Rattle.wot_types.specs.State.{State}
use Rattle.wot_types.specs.Keyring.{cert_total}
use Rattle.wot_types.specs.Touched.{named_by_options}
use Rattle.wot_live.specs.Follows.{uncounted_state}
use Rattle.wot_live.proofs.EditLemmas.{all_certs, all_named}
use Rattle.wot_live.proofs.draft.EngineDraft.count.Goals as goal

pub returns-clause-ticks : goal.returns-clause-ticks
returns-clause-ticks g c =
    let p = c.self.inside.uncounted in
    let t = uncounted_state p in
    let since = c.self.invariant.since in
    let cost = c.count.ensures.ticks since.0 named_by_options (all_named since.0 t since.1 p.todo since.2) in
    subst (λ (v : State). c.count.new.steps ≤ c.args.steps.now + (v.options.depth + 1) * cert_total v.keys) c.self.view_is
    (subst (λ n. c.count.new.steps ≤ c.args.steps.now + (t.options.depth + 1) * n) (all_certs t.keys) cost)
