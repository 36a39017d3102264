use Rattle.std.proofs.Common.{sym, subst}
use Rattle.wot_types.specs.Touched.{named_by_remove}
use Rattle.wot_live.specs.Follows.{IsDueSince, uncounted_state, with_named}
use Rattle.wot_live.proofs.uncounted.Uncounted.remove.Goals as goal

pub returns-clause-since : goal.returns-clause-since
returns-clause-since c = λ s names due.
    let t = uncounted_state c.args.self in
    let named = with_named names (named_by_remove c.args.id) in
    subst (λ u. IsDueSince s named u c.in_ok-todo.todo) (sym c.in_ok-state.ensures) (c.in_ok-todo.ensures s t names due)
