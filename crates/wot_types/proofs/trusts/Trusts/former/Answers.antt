use Rattle.std.proofs.Common.{sym, ap, subst, ◌∙◌}
use Rattle.std.specs.Prelude.{unwrap_or}
use Rattle.std.specs.FinMap as map
use Rattle.wot_types.specs.Ownertrust.{AreKept, with_ownertrust}
use Rattle.wot_types.proofs.Fingerprints.{fpr_cmp_total}
use Rattle.wot_types.proofs.Maps.{get_entries}
use Rattle.wot_types.proofs.Restoring.{restored}
use Rattle.wot_types.proofs.trusts.Trusts.former.Goals as goal

pub returns-clause-kept : goal.returns-clause-kept
returns-clause-kept c =
    let got = c.get.ensures.value in
    let there = get_entries fpr_cmp_total c.self.inside.kept.entries c.args.fpr.now in
    c.unwrap_or.ensures ∙ ap (λ r. unwrap_or r c.unset.result) (c.copied.ensures ∙ got ∙ sym there ∙ ap (λ m. map.get m c.args.fpr.now) c.self.view_is) ∙ ap (unwrap_or (map.get c.args.self.now c.args.fpr.now)) c.unset.ensures

pub returns-clause-restores : goal.returns-clause-restores
returns-clause-restores c other =
    let kept = returns-clause-kept c in
    ap (with_ownertrust (with_ownertrust c.args.self.now c.args.fpr.now other) c.args.fpr.now) kept
    ∙ restored c.args.self.now c.args.fpr.now other (subst AreKept c.self.view_is c.self.invariant)
