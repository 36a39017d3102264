use Rattle.std.proofs.Common.{refl, sym, subst}
use Rattle.wot_types.specs.Touched.{named_by_put}
use Rattle.wot_live.specs.Follows.{IsDueSince, uncounted_state, with_named}
use Rattle.wot_live.proofs.uncounted.Uncounted.put.Goals as goal

pub returns-clause-since : goal.returns-clause-since
returns-clause-since c = λ there s names due.
    let t = uncounted_state c.args.self in
    let named = with_named names (named_by_put t c.args.keys c.args.entries) in
    subst (λ u. IsDueSince s named u c.in_ok-todo.todo) (sym c.in_ok-state.ensures) (c.in_ok-todo.ensures.since s t names refl c.requires.free there due)

pub returns-clause-due : goal.returns-clause-due
returns-clause-due c = λ s names due.
    let t = uncounted_state c.args.self in
    let more = c.in_ok-todo.ensures.due s t names refl c.requires.free due in
    (more.0, subst (λ u. IsDueSince s more.0 u c.in_ok-todo.todo) (sym c.in_ok-state.ensures) more.1)
