use Rattle.std.proofs.Common.{◌≡◌, ◌+◌, ◌≤◌, ◌∷◌, [], ℕ, true, IfOk, IfSome, ap, subst, ◌∙◌}
use Rattle.std.specs.FinMap as finmap
use Rattle.std.proofs.lemmas.Result.{IfOk-weaker}
use Rattle.wot_types.specs.declared.row.Row.{Row}
use Rattle.wot_types.specs.Indexes.{has_cert_by}
use Rattle.wot_levels.specs.Certifiers.{is_level_of}
use Rattle.wot_live.specs.Agenda.{AreDue, HasMoreOf, is_due}
use Rattle.wot_live.proofs.Plans.{both_of, due_one, own_kept}
use Rattle.wot_live.proofs.planning.plan_key.Goals as goal

pub returns-clause-due : goal.returns-clause-due
returns-clause-due g c =
    let keys = c.args.state.now.keys in
    let rows = c.args.rows.now in
    let n = c.args.level in
    let id = c.args.id in
    let levels = c.in_ok-levels.levels.items in
    let last = c.in_ok-agenda-3.agenda in
    let own = subst (λ o. IfSome o (λ (row : Row). n ≤ row.level → is_due last row.level id ≡ true)) c.get.ensures.found c.in_ok-agenda-3.ensures.there in
    let second = c.in_ok-agenda-2.ensures.more in
    let third = c.in_ok-agenda-3.ensures.more in
    let behind = subst (λ xs. IfOk c.add_behind.result (λ new. (l : ℕ) → is_level_of xs l ≡ true → n ≤ l + 1 → is_due new (l + 1) id ≡ true)) c.as_slice.ensures.value c.add_behind.ensures.there in
    IfOk-weaker c.add_behind.result (λ new. HasMoreOf (id ∷ []) last new × ((l : ℕ) → is_level_of levels l ≡ true → n ≤ l + 1 → is_due new (l + 1) id ≡ true)) (AreDue keys rows n (id ∷ []))
    (λ new both. due_one keys rows n id levels new
    (λ h. both.0.kept 0 id (third.kept 0 id (second.kept 0 id (c.in_ok-agenda.ensures.there h))))
    (λ h. both.0.kept 1 id (third.kept 1 id (c.in_ok-agenda-2.ensures.there h)))
    (own_kept n id (id ∷ []) last new both.0 (finmap.get rows id) own)
    (λ y its. c.in_ok-levels.ensures.there y (ap (λ m. has_cert_by m y id) c.table-table.ensures ∙ its)) both.1)
    (both_of c.add_behind.result (HasMoreOf (id ∷ []) last) (λ new. (l : ℕ) → is_level_of levels l ≡ true → n ≤ l + 1 → is_due new (l + 1) id ≡ true) c.add_behind.ensures.more behind)
