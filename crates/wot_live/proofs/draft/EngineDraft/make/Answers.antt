use Rattle.std.proofs.Common.{sym, subst}
use Rattle.wot_live.specs.Follows.{uncounted_state}
use Rattle.wot_live.specs.PlainEdit.{IsAllowed}
use Rattle.wot_live.proofs.EditLemmas.{due_after, ranges_after}
use Rattle.wot_live.proofs.draft.EngineDraft.make.Goals as goal

pub invariant_of-result : goal.invariant_of-result
invariant_of-result c =
    let t = uncounted_state c.self.inside.uncounted in
    let allowed = subst (λ s. IsAllowed s c.args.edit) (sym c.self.view_is) c.requires.allowed in
    due_after c.self.invariant c.in_ok-uncounted.ensures.state (ranges_after t c.args.edit c.self.invariant.ranges allowed) c.in_ok-uncounted.ensures.due
