use Rattle.std.proofs.Common.{rules, nat_cmp, sym, subst, ◌∙◌}
use Rattle.std.specs.BTreeMap.{IsFromIterResult}
use Rattle.std.specs.Cmp.{nat_cmp_total}
use Rattle.std.specs.FinMap.{nat_cmp-IsAntisymmetric}
use Rattle.std.proofs.lemmas.Iterator.Adapters.{YieldsList-from_vec, fact_from_collect}
use Rattle.std.proofs.lemmas.Result.{IfOk-at_ok}
use Rattle.wot_types.proofs.Maps.{collected}
use Rattle.wot_table.specs.Weights.{IsSummed}
use Rattle.wot_table.proofs.table.Table.of_rising.Goals as goal

pub invariant_of-result : goal.invariant_of-result
invariant_of-result c =
    let es = c.keys.inside.keys.items in
    let made = IfOk-at_ok _ c.in_ok-keys.was (fact_from_collect (IsFromIterResult nat_cmp) c.collect.result c.collect.ensures.ran (YieldsList-from_vec es c.into_iter.ensures.rest (search rules))) in
    let same = collected nat_cmp_total nat_cmp-IsAntisymmetric es c.in_ok-keys.keys made in
    record {
      summed = subst (λ m. IsSummed m c.keys.inside.sums) (sym same) c.keys.invariant;
      signed = tt;
      dated = c.in_ok-dated.ensures.agrees;
      dates = c.in_ok-dated.ensures.in_range;
    }

pub returns : goal.returns
returns c =
    let es = c.keys.inside.keys.items in
    let made = IfOk-at_ok _ c.in_ok-keys.was (fact_from_collect (IsFromIterResult nat_cmp) c.collect.result c.collect.ensures.ran (YieldsList-from_vec es c.into_iter.ensures.rest (search rules))) in
    collected nat_cmp_total nat_cmp-IsAntisymmetric es c.in_ok-keys.keys made ∙ c.keys.view_is ∙ c.in_ok-alloc.ensures
