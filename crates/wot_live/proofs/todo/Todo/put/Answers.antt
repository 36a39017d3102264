use Rattle.std.proofs.Common.{◌≡◌, ◌==◌, ◌||◌, arith, refl, sym, ap, subst, ◌∙◌}
use Rattle.std.specs.FinMap as map
use Rattle.std.specs.List.{list_any}
use Rattle.std.proofs.lemmas.Bool.{true≢false}
use Rattle.wot_types.specs.declared.totals.Totals.{Totals}
use Rattle.wot_types.specs.Keyring.{id_of, is_fpr_of, with_keys}
use Rattle.wot_types.specs.Ownertrust.{with_entries}
use Rattle.wot_types.specs.Touched.{named_by_put}
use Rattle.wot_live.specs.Follows.{HasIntroducers, IsDueSince, with_named}
use Rattle.wot_live.specs.PlainEdit.{is_back}
use Rattle.wot_live.specs.Recounting.{among}
use Rattle.wot_live.proofs.EditLemmas.{all_due, all_more, listed_more, none_back, none_there, put_alike, put_stays}
use Rattle.wot_live.proofs.todo.Todo.put.Goals as goal

pub returns-then-totals-eq0-clause-since : goal.returns-then-totals-eq0-clause-since
returns-then-totals-eq0-clause-since c = λ s t names same free there due.
    let keys = c.args.keys.now in
    let entries = c.args.entries.now in
    let u = record t { keys = with_keys t.keys keys; trusts = with_entries t.trusts entries } in
    let none : map.len c.args.table.now ≡ 0 = omega (arith, ap (λ (w : Totals). w.keys) c.totals.ensures.totals) in
    all_more t u names (named_by_put t keys entries) (none_there t.keys names (ap map.len same ∙ none)) (put_alike t keys entries)

pub returns-then-totals-eq0-clause-due : goal.returns-then-totals-eq0-clause-due
returns-then-totals-eq0-clause-due c = λ s t names same free due. all_due s (record t { keys = with_keys t.keys c.args.keys.now; trusts = with_entries t.trusts c.args.entries.now })

pub returns-in_default-clause-since : goal.returns-in_default-clause-since
returns-in_default-clause-since c = λ s t names same free there due.
    let keys = c.args.keys.now in
    let entries = c.args.entries.now in
    let u = record t { keys = with_keys t.keys keys; trusts = with_entries t.trusts entries } in
    all_more t u names (named_by_put t keys entries) (subst (IsDueSince s names t) c.in_default.is due) (put_alike t keys entries)

pub returns-in_default-clause-due : goal.returns-in_default-clause-due
returns-in_default-clause-due c = λ s t names same free due. all_due s (record t { keys = with_keys t.keys c.args.keys.now; trusts = with_entries t.trusts c.args.entries.now })

pub returns-then-has_back-clause-since : goal.returns-then-has_back-clause-since
returns-then-has_back-clause-since c = λ s t names same free there due.
    let named = c.in-Named.field-0 in
    let keys = c.args.keys.now in
    let none = none_back t.keys named.rows (subst (HasIntroducers t.keys) c.in-Named.is there) keys in
    absurd (true≢false (sym c.if-has_back.true ∙ c.has_back.ensures ∙ ap (λ m. list_any (is_back m named.rows) keys) (sym same) ∙ none))

pub returns-then-has_back-clause-due : goal.returns-then-has_back-clause-due
returns-then-has_back-clause-due c = λ s t names same free due. all_due s (record t { keys = with_keys t.keys c.args.keys.now; trusts = with_entries t.trusts c.args.entries.now })

pub returns-clause-since : goal.returns-clause-since
returns-clause-since c = λ s t names same free there due.
    let named = c.in-Named.field-0 in
    let keys = c.args.keys.now in
    let entries = c.args.entries.now in
    let u = record t { keys = with_keys t.keys keys; trusts = with_entries t.trusts entries } in
    let none = ap (λ m. list_any (is_back m named.rows) keys) same ∙ sym c.has_back.ensures ∙ c.if-has_back.false in
    listed_more s t u names (named_by_put t keys entries) named c.in_ok-list.list (subst (IsDueSince s names t) c.in-Named.is due) refl
    (λ x. c.in_ok-list.ensures x ∙ ap (λ m. among named.list x || (list_any (λ key. id_of key == x) keys || list_any (λ entry. is_fpr_of entry.fpr (map.get m x)) entries)) (sym same))
    (put_alike t keys entries) (put_stays t keys named.rows free none)

pub returns-clause-due : goal.returns-clause-due
returns-clause-due c = λ s t names same free due.
    let named = c.in-Named.field-0 in
    let keys = c.args.keys.now in
    let entries = c.args.entries.now in
    let u = record t { keys = with_keys t.keys keys; trusts = with_entries t.trusts entries } in
    let none = ap (λ m. list_any (is_back m named.rows) keys) same ∙ sym c.has_back.ensures ∙ c.if-has_back.false in (
      with_named names (named_by_put t keys entries),
      listed_more s t u names (named_by_put t keys entries) named c.in_ok-list.list (subst (IsDueSince s names t) c.in-Named.is due) refl
          (λ x. c.in_ok-list.ensures x ∙ ap (λ m. among named.list x || (list_any (λ key. id_of key == x) keys || list_any (λ entry. is_fpr_of entry.fpr (map.get m x)) entries)) (sym same))
          (put_alike t keys entries) (put_stays t keys named.rows free none),
    )
