use Rattle.std.proofs.Common.{sym, subst}
use Rattle.std.specs.Prelude.{All}
use Rattle.std.specs.FinMap as map
use Rattle.std.specs.FinMap.{len-empty}
use Rattle.std.proofs.lemmas.List.Elements.{All-nil}
use Rattle.wot_types.specs.declared.ownertrust.Ownertrust.{Ownertrust}
use Rattle.wot_types.specs.Fingerprint.{fpr_cmp}
use Rattle.wot_types.specs.Ownertrust.{AreKept}
use Rattle.wot_types.proofs.FinMaps.{no_entries}
use Rattle.wot_types.proofs.WellFormedStates.{IsSet}
use Rattle.wot_types.proofs.trusts.Trusts.new.Goals as goal

pub invariant_of-result : goal.invariant_of-result
invariant_of-result c =
    subst (λ entries. AreKept (map.from_entries entries)) (sym c.new.ensures.empty)
    (subst (All IsSet) (sym (no_entries map.empty (len-empty fpr_cmp Ownertrust))) (All-nil IsSet))
