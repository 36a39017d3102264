use Rattle.std.proofs.Common.{List, ℕ, subst}
use Rattle.wot_types.specs.Printing.{ended_field}
use Rattle.wot_lines.proofs.Pieces.{and_two}
use Rattle.wot_lines.proofs.records.push_cert.Goals as goal

pub returns-clause-adds : goal.returns-clause-adds
returns-clause-adds g c =
    let adds = g.W.Sink.adds in
    let both = g.met.W.Sink.both in
    let name = subst (λ (name : List ℕ). adds c.args.text.now (ended_field name) c.push_field.new.text) c.cert_name.ensures c.in_ok-push_field.ensures.adds in
    let issued = both _ _ _ _ _ (both _ _ _ _ _ name c.in_ok-push_bytes.ensures.adds) (rw c.issuer.ensures at c.in_ok-push_key_id_field.ensures.adds) in
    let dated = and_two adds both _ _ _ _ _ _ issued (rw c.expires.ensures at (rw c.made.ensures at c.in_ok-push_dates.ensures.adds)) in
    let trusted = both _ _ _ _ _ (both _ _ _ _ _ dated c.in_ok-push_depth.ensures.adds) (rw c.scope.ensures at c.in_ok-push_scope.ensures.adds) in
    let classed = both _ _ _ _ _ (both _ _ _ _ _ trusted c.in_ok-push.ensures.adds) c.in_ok-push_class.ensures.adds in
    both _ _ _ _ _ (both _ _ _ _ _ classed (rw c.issuer_fpr.ensures at c.in_ok-push_issuer_fpr.ensures.adds)) c.in_ok-push-2.ensures.adds
