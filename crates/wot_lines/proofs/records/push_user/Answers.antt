use Rattle.std.proofs.Common.{List, ℕ, subst}
use Rattle.wot_types.specs.Printing.{ended_field}
use Rattle.wot_lines.proofs.Pieces.{and_two}
use Rattle.wot_lines.proofs.records.push_user.Goals as goal

pub returns-clause-adds : goal.returns-clause-adds
returns-clause-adds g c =
    let adds = g.W.Sink.adds in
    let both = g.met.W.Sink.both in
    let kind = subst (λ (kind : List ℕ). adds c.args.text.now (ended_field kind) c.push_field.new.text) c.kind_text.ensures c.in_ok-push_field.ensures.adds in
    let letter = subst (λ (letter : List ℕ). adds c.push_field.new.text (ended_field letter) c.push_field-2.new.text) c.letter_text.ensures c.in_ok-push_field-2.ensures.adds in
    let dated = and_two adds both _ _ _ _ _ _ (both _ _ _ _ _ (both _ _ _ _ _ kind letter) c.in_ok-push_bytes.ensures.adds) c.in_ok-push_dates.ensures.adds in
    let hash = subst (λ (hash : List ℕ). adds c.push_dates.new.text (ended_field hash) c.push_field-3.new.text) c.as_bytes.ensures c.in_ok-push_field-3.ensures.adds in
    both _ _ _ _ _ (both _ _ _ _ _ (both _ _ _ _ _ (both _ _ _ _ _ dated hash) c.in_ok-push.ensures.adds) c.in_ok-push_quoted_field.ensures.adds) c.in_ok-push-2.ensures.adds
