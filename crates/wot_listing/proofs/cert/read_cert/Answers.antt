use Rattle.std.proofs.Common.{arith, sym, ◌∙◌}
use Rattle.std.proofs.lemmas.Result.{err_from_is_err_and}
use Rattle.wot_listing.proofs.CertLemmas.{certs_full, values_fail}
use Rattle.wot_listing.proofs.cert.read_cert.Goals as goal

pub returns-in_err-cert-clause-value : goal.returns-in_err-cert-clause-value
returns-in_err-cert-clause-value c =
    let p = err_from_is_err_and c.from_residual-in_err-cert.result c.from_residual-in_err-cert.ensures.1 in
    rw (p.1, p.2)
    (values_fail c.args.id c.args.certs c.args.line.now c.in_ok-class.class c.in_ok-issuer.issuer (sym c.has_fewer.ensures ∙ c.if-has_fewer.false) c.in_ok-class.ensures (sym c.is_kept_class.ensures ∙ c.if-not-is_kept_class.false) c.in_ok-issuer.ensures (sym c.eq.ensures ∙ c.if-eq.false) c.in_err-cert.field-0.0 _ _ c.in_err-cert.ensures)

pub returns-then-certs-ge-MOST_CERTS-clause-value : goal.returns-then-certs-ge-MOST_CERTS-clause-value
returns-then-certs-ge-MOST_CERTS-clause-value c =
    certs_full c.args.id c.args.certs c.args.line.now c.in_ok-class.class c.in_ok-issuer.issuer (sym c.has_fewer.ensures ∙ c.if-has_fewer.false) c.in_ok-class.ensures (sym c.is_kept_class.ensures ∙ c.if-not-is_kept_class.false) c.in_ok-issuer.ensures (sym c.eq.ensures ∙ c.if-eq.false) c.in_ok-cert.ensures.0 (omega arith)
