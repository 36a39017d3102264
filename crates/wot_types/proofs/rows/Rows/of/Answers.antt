use Rattle.std.proofs.Common.{rules, All, map, nat_cmp, sym, ap, subst, ◌∙◌}
use Rattle.std.specs.BTreeMap.{IsFromIterResult}
use Rattle.std.specs.Cmp.{nat_cmp_total}
use Rattle.std.specs.List.{list_any}
use Rattle.std.specs.FinMap as finmap
use Rattle.std.specs.FinMap.{nat_cmp-IsAntisymmetric}
use Rattle.std.proofs.lemmas.Iterator.{YieldsList-from_map}
use Rattle.std.proofs.lemmas.Iterator.Adapters.{YieldsList-from_vec, fact_from_collect}
use Rattle.std.proofs.lemmas.Iterator.Consumers.{YieldsList-at}
use Rattle.std.proofs.lemmas.Result.{IfOk-at_ok}
use Rattle.wot_types.specs.IdFilter.{Passes}
use Rattle.wot_types.specs.Rows.{IsKeptRow, has_scope}
use Rattle.wot_types.proofs.AddRows.{keyed, kept_alone, rows_alone}
use Rattle.wot_types.proofs.Maps.{collected}
use Rattle.wot_types.proofs.rows.Rows.of.Goals as goal

pub returns : goal.returns
returns c =
    let rows = c.args.rows in
    let made = IfOk-at_ok _ c.in_ok-collect.was (fact_from_collect (IsFromIterResult nat_cmp) c.collect.result c.collect.ensures.ran
    (YieldsList-from_map _ keyed (YieldsList-at c.map-pairs.ensures.source (YieldsList-from_vec {s = c.into_iter.result} rows (search rules) (search rules))) c.map-pairs.ensures.closure (λ x r q k. search rules))) in
    collected nat_cmp_total nat_cmp-IsAntisymmetric (map keyed rows) c.in_ok-collect.field-0 made ∙ sym (rows_alone rows)

pub invariant_of-result : goal.invariant_of-result
invariant_of-result c = subst (λ m. All (IsKeptRow c.are_scoped-scoped.result c.in_ok-filter.filter) (finmap.entries m)) (sym (returns c))
    (kept_alone c.are_scoped-scoped.result c.in_ok-filter.filter c.args.rows (c.are_scoped-scoped.ensures ∙ ap (list_any has_scope) c.as_slice.ensures)
    (subst (All (λ row. Passes c.in_ok-filter.filter row.key)) (c.deref.ensures.value ∙ c.into_vec-left.ensures) (IfOk-at_ok _ c.in_ok-filter.was c.filter_of.ensures)))
