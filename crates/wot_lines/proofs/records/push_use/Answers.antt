use Rattle.std.proofs.Common.{List, ℕ, subst}
use Rattle.std.proofs.lemmas.Result.{on_ok_weaker}
use Rattle.wot_types.specs.Printing.{ended_field}
use Rattle.wot_lines.proofs.records.push_use.Goals as goal

pub returns-clause-adds : goal.returns-clause-adds
returns-clause-adds g c =
    let both = g.met.W.Sink.both in
    let trust = subst (λ (trust : List ℕ). g.W.Sink.adds c.args.text.now (ended_field trust) c.push_field.new.text) c.trust_text.ensures c.in_ok-push_field.ensures.adds in
    on_ok_weaker c.push_capabilities.result (both _ _ _ _ _ (both _ _ _ _ _ trust c.in_ok-push_bytes.ensures.adds)) c.push_capabilities.ensures.adds
