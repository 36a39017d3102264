use Rattle.std.proofs.Common.{List, ℕ, sym, ap, subst}
use Rattle.std.proofs.lemmas.Result.{on_ok_weaker}
use Rattle.wot_types.specs.Printing.{issuer_fpr_text}
use Rattle.wot_lines.proofs.records.push_issuer_fpr.Goals as goal

pub returns-in_ok-push-in-Some-clause-adds : goal.returns-in_ok-push-in-Some-clause-adds
returns-in_ok-push-in-Some-clause-adds g c =
    let both = g.met.W.Sink.both in
    let named = sym (ap issuer_fpr_text c.in-Some.is) in
    on_ok_weaker c.push_fpr_field.result
    (λ hex. subst (λ (line : List ℕ). g.W.Sink.adds c.args.text.now line c.push_fpr_field.new.text) named (both _ _ _ _ _ c.in_ok-push-in-Some.ensures.adds hex)) c.push_fpr_field.ensures.adds
