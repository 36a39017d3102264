use Rattle.std.proofs.Common.{◌≡◌, not, false, None, cond, sym, ap, ◌∙◌}
use Rattle.std.specs.FinMap as map
use Rattle.wot_types.specs.Touched.{is_same_standing}
use Rattle.wot_levels.specs.Given.{given_row}
use Rattle.wot_live.specs.Recounting.{has_level, is_lower, recounted}
use Rattle.wot_live.proofs.RowChanges.{drop_at, drop_changes, drop_others, recounted_lower, recounted_none}
use Rattle.wot_live.proofs.row_change.recount_row.Goals as goal

pub returns-then-is_lower-clause-row : goal.returns-then-is_lower-clause-row
returns-then-is_lower-clause-row g c =
    let n = c.args.level in
    let old = map.get c.args.rows c.args.id in
    sym (recounted_lower n old (given_row c.args.state.now c.args.rows n c.args.id)
    (sym (c.is_lower.ensures ∙ ap (is_lower n) c.get-kept.ensures.found) ∙ c.if-is_lower.true))

-- a key's row that no level gives goes where it is of this level
pub returns-in-None-clause-row : goal.returns-in-None-clause-row
returns-in-None-clause-row g c =
    let n = c.args.level in
    let rows = c.args.rows in
    let id = c.args.id in
    let old = map.get rows id in
    let own : c.has_level-own.result ≡ has_level n old = c.has_level-own.ensures ∙ ap (has_level n) c.get-kept.ensures.found in
    let due : is_lower n old ≡ false = sym (c.is_lower.ensures ∙ ap (is_lower n) c.get-kept.ensures.found) ∙ c.if-is_lower.false in
    ap (λ m. map.get m id) c.drop_row.ensures.rows ∙ drop_at rows id c.has_level-own.result ∙ ap (λ b. cond b None old) own
    ∙ sym (recounted_none n old due) ∙ ap (recounted n old) (sym c.in-None.is ∙ c.in_ok-row.ensures.row)

pub returns-in-None-clause-others : goal.returns-in-None-clause-others
returns-in-None-clause-others g c = λ x other. ap (λ m. map.get m x) c.drop_row.ensures.rows ∙ drop_others c.args.rows c.args.id c.has_level-own.result x other

pub returns-in-None-clause-changed : goal.returns-in-None-clause-changed
returns-in-None-clause-changed g c =
    let n = c.args.level in
    let rows = c.args.rows in
    let id = c.args.id in
    let old = map.get rows id in
    let own : c.has_level-own.result ≡ has_level n old = c.has_level-own.ensures ∙ ap (has_level n) c.get-kept.ensures.found in
    let new = ap (λ m. map.get m id) c.drop_row.ensures.rows ∙ drop_at rows id c.has_level-own.result ∙ ap (λ b. cond b None old) own in
    c.drop_row.ensures.changed ∙ own ∙ drop_changes n old ∙ ap (λ o. not (is_same_standing old o)) (sym new)
