use Rattle.std.proofs.Common.{sym, ap, unwrap_or, ◌∙◌}
use Rattle.std.specs.Cmp.{Equal-is}
use Rattle.wot_types.specs.Ownertrust.{ownertrust_of, unset}
use Rattle.wot_types.specs.Fingerprint.{fpr_cmp}
use Rattle.wot_types.proofs.Fingerprints.{fpr_cmp-IsAntisymmetric}
use Rattle.wot_print.proofs.ownertrust_walk.kept_or_found.Goals as goal

pub returns-then-eq : goal.returns-then-eq
returns-then-eq c =
    let own = c.args.entry.now.fpr.now in
    let fpr = c.args.fpr.now in
    let same = fpr_cmp-IsAntisymmetric own fpr ((Equal-is (fpr_cmp own fpr)).0 (sym c.eq.ensures ∙ c.if-eq.true)) in
    ap (λ o. unwrap_or o unset) (sym c.requires.there) ∙ ap (ownertrust_of c.args.trusts.now) same
