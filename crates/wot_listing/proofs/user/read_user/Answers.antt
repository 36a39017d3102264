use Rattle.std.proofs.Common.{drop, take, sym, ◌∙◌}
use Rattle.std.proofs.lemmas.Result.{err_from_is_err_and}
use Rattle.wot_types.specs.declared.fault.ListingWhat.TheVariants.{ShortRecord}
use Rattle.wot_types.specs.Fields.{has_fewer}
use Rattle.wot_types.specs.Listing.{user_checks}
use Rattle.wot_listing.proofs.AnswerLemmas.{error_amid}
use Rattle.wot_listing.proofs.user.read_user.Goals as goal

pub returns-in_err-made : goal.returns-in_err-made
returns-in_err-made c =
    let p = err_from_is_err_and c.from_residual.result c.from_residual.ensures.1 in
    let line = c.args.line.now in
    let checks = drop 1 (user_checks line) in
    rw (p.1, p.2) (error_amid c.in_err-made.field-0.0 (has_fewer 10 line) ShortRecord (take 2 checks) (drop 2 checks) _ _ (sym c.has_fewer.ensures ∙ c.if-has_fewer.false) c.in_err-made.ensures)
