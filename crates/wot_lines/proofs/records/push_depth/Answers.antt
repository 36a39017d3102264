use Rattle.std.proofs.Common.{rules, ◌≡◌, ◌==◌, ◌&&◌, false, [], ◌∷◌, ◌++◌, ℕ, List, ap, append_assoc, sym, subst, ◌∙◌}
use Rattle.std.specs.Fmt.{decimal}
use Rattle.std.proofs.lemmas.Bool.{cond-false}
use Rattle.wot_types.specs.Bytes.{colon, space}
use Rattle.wot_types.specs.Printing.{ended_field, number_field}
use Rattle.wot_lines.proofs.records.push_depth.Goals as goal

pub returns-clause-adds : goal.returns-clause-adds
returns-clause-adds g c =
    let both = g.met.W.Sink.both in
    let cert = c.args.placed.now.cert in
    let depth = decimal cert.depth in
    let amount = decimal cert.amount in
    let part-1 : g.W.Sink.adds c.args.text.now depth c.push_number.new.text = search rules in
    let part-2 : g.W.Sink.adds c.push_number.new.text (space ∷ []) c.push.new.self = search rules in
    let part-3 : g.W.Sink.adds c.push.new.self (number_field cert.amount) c.push_number_field.new.text = search rules in
    let is : ((cert.depth == 0) && (cert.amount == 0)) ≡ false = search rules in
    subst (λ (text : List ℕ). g.W.Sink.adds c.args.text.now text c.push_number_field.new.text)
    (append_assoc depth (space ∷ []) (amount ++ colon ∷ []) ∙ sym (append_assoc depth (space ∷ amount) (colon ∷ []))
    ∙ ap ended_field (sym (cond-false ((cert.depth == 0) && (cert.amount == 0)) [] (depth ++ space ∷ amount) is)))
    (both _ _ _ _ _ (both _ _ _ _ _ part-1 part-2) part-3)
