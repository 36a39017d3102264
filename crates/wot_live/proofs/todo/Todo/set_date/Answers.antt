use Rattle.std.proofs.Common.{◌||◌, false, refl, sym, subst, ◌∙◌}
use Rattle.std.specs.FinMap as map
use Rattle.std.specs.List.{list_any}
use Rattle.std.specs.Option.{option_map_or}
use Rattle.wot_types.specs.NextCheck.{key_expiries}
use Rattle.wot_types.specs.Touched.{is_passed_between, named_by_date}
use Rattle.wot_live.specs.Follows.{IsDueSince}
use Rattle.wot_live.specs.Recounting.{among}
use Rattle.wot_live.proofs.EditLemmas.{date_alike, listed_more}
use Rattle.wot_live.proofs.todo.Todo.set_date.Goals as goal

pub returns : goal.returns
returns c = λ s t names same before due.
    let named = c.in-Named.field-0 in
    let to = c.args.to in
    listed_more s t (record t { date = to }) names (named_by_date t to) named c.in_ok-list.list (subst (IsDueSince s names t) c.in-Named.is due) refl
    (λ x. c.in_ok-list.ensures x
    ∙ (λ i. among named.list x || option_map_or (λ key. list_any (is_passed_between (sym before i) to) (key_expiries key)) (map.get (sym same i) x) false))
    (date_alike t to) (λ y _ there. (there, refl))
