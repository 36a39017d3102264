use Rattle.std.proofs.Common.{List, ℕ, subst}
use Rattle.std.specs.Fmt.{decimal}
use Rattle.wot_types.specs.Printing.{ended_field}
use Rattle.wot_lines.proofs.records.push_tru.Goals as goal

pub returns-clause-adds : goal.returns-clause-adds
returns-clause-adds g c =
    let adds = g.W.Sink.adds in
    let both = g.met.W.Sink.both in
    let model = subst (λ (model : List ℕ). adds c.push_bytes.new.self (ended_field model) c.push_field.new.text) c.model_text.ensures c.in_ok-push_field.ensures.adds in
    let dated = both _ _ _ _ _ (both _ _ _ _ _ (both _ _ _ _ _ c.in_ok-push_bytes.ensures.adds model) c.in_ok-push_number_field.ensures.adds) c.in_ok-push_number_field-2.ensures.adds in
    let needs = both _ _ _ _ _ (both _ _ _ _ _ dated c.in_ok-push_number_field-3.ensures.adds) c.in_ok-push_number_field-4.ensures.adds in
    let depth = subst (λ (depth : ℕ). adds c.push_number_field-4.new.text (decimal depth) c.push_number.new.text) c.from.ensures c.in_ok-push_number.ensures.adds in
    both _ _ _ _ _ (both _ _ _ _ _ needs depth) c.in_ok-push.ensures.adds
