use Rattle.std.proofs.Common.{◌||◌, not, Some, None, option_map, sym, ap, ◌∙◌}
use Rattle.std.specs.Option.{option_copied}
use Rattle.wot_types.specs.Candidates.{chain_admits}
use Rattle.wot_types.specs.Keyring.{fpr_at}
use Rattle.wot_types.specs.Selection.{usable}
use Rattle.wot_types.specs.declared.placed.Placed.{Placed}
use Rattle.wot_types.specs.declared.row.Row.{Row}
use Rattle.wot_levels.proofs.CandidateLemmas.{candidate_found}
use Rattle.wot_levels.proofs.candidates.candidate.Goals as goal

pub returns-in_err-placed : goal.returns-in_err-placed
returns-in_err-placed c =
    let s = c.args.state.now in
    let issuer = c.args.issuer in
    let at = sym c.get.ensures ∙ ap option_copied c.in_ok-row.was in
    let admitted = (λ i. not (sym c.options-options.ensures i).pgp || chain_admits c.args.introducers.now c.in_ok-row.row.now c.args.text.now) ∙ sym c.is_admitted.ensures ∙ c.if-not-is_admitted.false in
    let used = sym (c.usable.ensures issuer c.requires.by ∙ c.fpr_for-fpr.ensures c.date.result c.options-options.result.now.level issuer
    ∙ (λ i. usable (c.date.ensures i) (c.options-options.ensures i).level (fpr_at (c.table.ensures i) issuer) issuer c.args.run.now)) ∙ ap option_copied c.in_err-placed.was in
    ap (option_map {U = Row × Placed} (λ f. (f.0.now, f.1.now))) c.from_residual-in_err-placed.ensures
    ∙ sym (candidate_found s c.args.text.now c.args.run.now c.args.introducers.now issuer c.in_ok-row.row.now None at admitted used)

pub returns : goal.returns
returns c =
    let s = c.args.state.now in
    let issuer = c.args.issuer in
    let at = sym c.get.ensures ∙ ap option_copied c.in_ok-row.was in
    let admitted = (λ i. not (sym c.options-options.ensures i).pgp || chain_admits c.args.introducers.now c.in_ok-row.row.now c.args.text.now) ∙ sym c.is_admitted.ensures ∙ c.if-not-is_admitted.false in
    let used = sym (c.usable.ensures issuer c.requires.by ∙ c.fpr_for-fpr.ensures c.date.result c.options-options.result.now.level issuer
    ∙ (λ i. usable (c.date.ensures i) (c.options-options.ensures i).level (fpr_at (c.table.ensures i) issuer) issuer c.args.run.now)) ∙ ap option_copied c.in_ok-placed.was in
    sym (candidate_found s c.args.text.now c.args.run.now c.args.introducers.now issuer c.in_ok-row.row.now (Some c.in_ok-placed.placed.now) at admitted used)
