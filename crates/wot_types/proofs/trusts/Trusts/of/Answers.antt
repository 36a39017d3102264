use Rattle.std.proofs.Common.{rules, map, sym, subst, ◌∙◌}
use Rattle.std.specs.Prelude.{All}
use Rattle.std.specs.FinMap as finmap
use Rattle.std.specs.FinMap.{len-empty}
use Rattle.std.proofs.lemmas.List.Elements.{All-nil}
use Rattle.wot_types.specs.declared.ownertrust.Ownertrust.{Ownertrust}
use Rattle.wot_types.specs.Ownertrust.{AreKept}
use Rattle.wot_types.proofs.FinMaps.{no_entries}
use Rattle.wot_types.proofs.WellFormedStates.{IsSet, set_more}
use Rattle.std.specs.BTreeMap.{IsFromIterResult}
use Rattle.std.proofs.lemmas.Iterator.{YieldsList-from_map}
use Rattle.std.proofs.lemmas.Iterator.Adapters.{YieldsList-from_vec, fact_from_collect}
use Rattle.std.proofs.lemmas.Iterator.Consumers.{YieldsList-at}
use Rattle.std.proofs.lemmas.Result.{IfOk-at_ok}
use Rattle.wot_types.specs.Fingerprint.{fpr_cmp}
use Rattle.wot_types.proofs.Fingerprints.{fpr_cmp_total, fpr_cmp-IsAntisymmetric}
use Rattle.wot_types.proofs.Maps.{collected}
use Rattle.wot_types.proofs.SetEntries.{pair_of, set_alone}
use Rattle.wot_types.proofs.trusts.Trusts.of.Goals as goal

pub invariant_of-result : goal.invariant_of-result
invariant_of-result c =
    let entries = c.args.entries in
    let made = IfOk-at_ok _ c.in_ok-collect.was (fact_from_collect (IsFromIterResult fpr_cmp) c.collect.result c.collect.ensures.ran
    (YieldsList-from_map _ pair_of (YieldsList-at c.map-pairs.ensures.source (YieldsList-from_vec {s = c.into_iter.result} entries (search rules) (search rules))) c.map-pairs.ensures.closure (λ x r q k. search rules))) in
    subst AreKept (sym (collected fpr_cmp_total fpr_cmp-IsAntisymmetric (map pair_of entries) c.in_ok-collect.field-0 made ∙ sym (set_alone entries c.requires.set)))
    (set_more entries finmap.empty (subst (All IsSet) (sym (no_entries finmap.empty (len-empty fpr_cmp Ownertrust))) (All-nil IsSet)))

pub returns : goal.returns
returns c =
    let entries = c.args.entries in
    let made = IfOk-at_ok _ c.in_ok-collect.was (fact_from_collect (IsFromIterResult fpr_cmp) c.collect.result c.collect.ensures.ran
    (YieldsList-from_map _ pair_of (YieldsList-at c.map-pairs.ensures.source (YieldsList-from_vec {s = c.into_iter.result} entries (search rules) (search rules))) c.map-pairs.ensures.closure (λ x r q k. search rules))) in
    collected fpr_cmp_total fpr_cmp-IsAntisymmetric (map pair_of entries) c.in_ok-collect.field-0 made ∙ sym (set_alone entries c.requires.set)
