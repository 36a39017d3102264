use Rattle.std.proofs.Common.{sym, subst, ap, ◌∙◌}
use Rattle.std.specs.FinMap.{contains_key}
use Rattle.wot_live.specs.Follows.{IsDueSince}
use Rattle.wot_live.proofs.todo.Todo.all_if_whole.Goals as goal

pub returns-in_default : goal.returns-in_default
returns-in_default c = λ s t names same due. subst (IsDueSince s names t) c.in_default.is due

pub returns-then-is_whole : goal.returns-then-is_whole
returns-then-is_whole c = λ s t names same due. λ x there.
    (subst (IsDueSince s names t) c.in-Named.is due).only x (c.is_whole.ensures c.if-is_whole.true x (sym (ap (λ m. contains_key m x) same) ∙ there))

pub returns : goal.returns
returns c = λ s t names same due. subst (IsDueSince s names t) c.in-Named.is due
