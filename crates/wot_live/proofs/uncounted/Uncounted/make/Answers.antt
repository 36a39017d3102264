use Rattle.std.proofs.Common.{IfOk, sym, subst}
use Rattle.std.proofs.lemmas.Result.{IfOk-weaker}
use Rattle.wot_types.specs.Explanation.{KeySet}
use Rattle.wot_types.specs.Touched.{named_by_date, named_by_options, named_by_remove}
use Rattle.wot_live.specs.Follows.{IsDueSince, uncounted_state, with_named}
use Rattle.wot_live.specs.PlainEdit.{IsAllowed, named_by_plain}
use Rattle.wot_live.proofs.uncounted.Uncounted.make.Goals as goal

pub put-requires : goal.put-requires
put-requires c =
    let allowed = subst (IsAllowed (uncounted_state c.args.self)) c.in-Put.is c.requires.allowed in
    record { well_formed = allowed.0; free = allowed.1 }

pub returns-in-Put-clause-since : goal.returns-in-Put-clause-since
returns-in-Put-clause-since c = λ there s names due.
    let t = uncounted_state c.args.self in
    subst (λ e. IfOk c.put.result (λ new. IsDueSince s (with_named names (named_by_plain t e)) (uncounted_state new) new.todo)) (sym c.in-Put.is) (c.put.ensures.since there s names due)

pub returns-in-Remove-clause-since : goal.returns-in-Remove-clause-since
returns-in-Remove-clause-since c = λ there s names due.
    let t = uncounted_state c.args.self in
    subst (λ e. IfOk c.remove.result (λ new. IsDueSince s (with_named names (named_by_plain t e)) (uncounted_state new) new.todo)) (sym c.in-Remove.is) (c.remove.ensures.since s names due)

pub returns-in-SetDate-clause-since : goal.returns-in-SetDate-clause-since
returns-in-SetDate-clause-since c = λ there s names due.
    let t = uncounted_state c.args.self in
    subst (λ e. IfOk c.set_date.result (λ new. IsDueSince s (with_named names (named_by_plain t e)) (uncounted_state new) new.todo)) (sym c.in-SetDate.is) (c.set_date.ensures.since s names due)

pub returns-in-SetOptions-clause-since : goal.returns-in-SetOptions-clause-since
returns-in-SetOptions-clause-since c = λ there s names due.
    let t = uncounted_state c.args.self in
    let u = c.set_options.result in
    subst (λ e. IsDueSince s (with_named names (named_by_plain t e)) (uncounted_state u) u.todo) (sym c.in-SetOptions.is) (c.set_options.ensures.since s names)

pub returns-in-Remove-clause-due : goal.returns-in-Remove-clause-due
returns-in-Remove-clause-due c = λ s names due.
    IfOk-weaker c.remove.result (λ new. IsDueSince s (with_named names (named_by_remove c.in-Remove.id)) (uncounted_state new) new.todo) (λ new. (more : KeySet) × IsDueSince s more (uncounted_state new) new.todo)
    (λ new is. (with_named names (named_by_remove c.in-Remove.id), is)) (c.remove.ensures.since s names due)

pub returns-in-SetDate-clause-due : goal.returns-in-SetDate-clause-due
returns-in-SetDate-clause-due c = λ s names due.
    let set = with_named names (named_by_date (uncounted_state c.args.self) c.in-SetDate.date) in
    IfOk-weaker c.set_date.result (λ new. IsDueSince s set (uncounted_state new) new.todo) (λ new. (more : KeySet) × IsDueSince s more (uncounted_state new) new.todo)
    (λ new is. (set, is)) (c.set_date.ensures.since s names due)

pub returns-in-SetOptions-clause-due : goal.returns-in-SetOptions-clause-due
returns-in-SetOptions-clause-due c = λ s names due. (with_named names named_by_options, c.set_options.ensures.since s names)
