use Rattle.std.proofs.Common.{ap, sym, ◌∙◌, refl}
use Rattle.wot_types.specs.Records.{cert_of}
use Rattle.wot_listing.specs.Machine.{with_cert}
use Rattle.wot_listing.proofs.CertLemmas.{checks_at, chosen, counts_is, not_chosen}
use Rattle.wot_listing.proofs.key_block.KeyBlock.feed_cert.Goals as goal

pub returns-in_ok-push_cert-in-Some : goal.returns-in_ok-push_cert-in-Some
returns-in_ok-push_cert-in-Some c =
    let b = c.args.self.now in
    let line = c.args.line.now in
    let good = sym c.is_good.ensures ∙ c.if-not-is_good.false in
    let kept = chosen _ c.in-Some.cert (cert_of line) (sym c.in-Some.is ∙ c.in_ok-cert.ensures.value.1) in
    (checks_at b.primary.id b.certs line good ∙ c.in_ok-cert.ensures.value.0, (sym kept.0 ∙ sym (counts_is b.primary.id b.certs line good), c.in_ok-push_cert-in-Some.ensures ∙ ap (λ cert. with_cert cert b) kept.1))

pub returns-in-None : goal.returns-in-None
returns-in-None c =
    let b = c.args.self.now in
    let line = c.args.line.now in
    let good = sym c.is_good.ensures ∙ c.if-not-is_good.false in
    let passed = not_chosen _ (cert_of line) (sym c.in-None.is ∙ c.in_ok-cert.ensures.value.1) in
    (checks_at b.primary.id b.certs line good ∙ c.in_ok-cert.ensures.value.0, (sym passed ∙ sym (counts_is b.primary.id b.certs line good), refl))
