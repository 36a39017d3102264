use Rattle.std.proofs.Common.{sym}
use Rattle.std.proofs.lemmas.Result.{on_ok_weaker}
use Rattle.wot_spelling.proofs.Rooms.{cert_room}
use Rattle.wot_spelling.proofs.writer.Writer.cert.Goals as goal

pub text-requires : goal.text-requires
text-requires c = let short = cert_room c.args.placed.now.cert c.requires in rw (c.as_bytes.ensures, c.as_text.ensures) (rw c.in-Some.is at (rw (sym c.scope.ensures) at short))

pub returns-clause-fits : goal.returns-clause-fits
returns-clause-fits c = on_ok_weaker c.issuer_fpr-2.result (λ named. record {
  issuer = c.cert_numbers.ensures.issuer;
  made = c.cert_numbers.ensures.made;
  expires = c.cert_numbers.ensures.expires;
  scope = cert_room c.args.placed.now.cert c.requires;
  issuer_fpr = rw c.issuer_fpr.ensures at named;
}) c.issuer_fpr-2.ensures.fits
