use Rattle.std.proofs.Common.{drop, take}
use Rattle.std.proofs.lemmas.Result.{err_from_is_err_and}
use Rattle.wot_types.specs.Listing.{cert_checks}
use Rattle.wot_listing.proofs.AnswerLemmas.{error_more}
use Rattle.wot_listing.proofs.cert.read_values.Goals as goal

pub returns-in_err-made : goal.returns-in_err-made
returns-in_err-made c =
    let p = err_from_is_err_and c.from_residual.result c.from_residual.ensures.1 in
    let checks = cert_checks c.args.line.now in
    rw (p.1, p.2) (error_more c.in_err-made.field-0.0 (take 2 checks) (drop 2 checks) _ _ c.in_err-made.ensures)
