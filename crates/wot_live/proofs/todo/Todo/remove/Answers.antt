use Rattle.std.proofs.Common.{refl, ap, subst, ◌∙◌}
use Rattle.std.specs.FinMap as map
use Rattle.wot_types.specs.Touched.{named_by_remove}
use Rattle.wot_live.specs.Follows.{IsDueSince}
use Rattle.wot_live.specs.Recounting.{among}
use Rattle.wot_live.proofs.Lists.{among_with}
use Rattle.wot_live.proofs.EditLemmas.{all_more, listed_more, remove_alike, remove_stays}
use Rattle.wot_live.proofs.todo.Todo.remove.Goals as goal

pub returns-in_default : goal.returns-in_default
returns-in_default c = λ s t names due.
    let id = c.args.id in
    all_more t (record t { keys = map.remove t.keys id }) names (named_by_remove id) (subst (IsDueSince s names t) c.in_default.is due) (remove_alike t id)

pub returns : goal.returns
returns c = λ s t names due.
    let named = c.in-Named.field-0 in
    let id = c.args.id in
    listed_more s t (record t { keys = map.remove t.keys id }) names (named_by_remove id) named c.in_ok-list.list (subst (IsDueSince s names t) c.in-Named.is due) refl
    (λ x. ap (λ xs. among xs x) c.in_ok-list.ensures ∙ among_with named.list id x) (remove_alike t id) (λ y _ there. remove_stays t id y there)
