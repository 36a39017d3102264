use Rattle.std.proofs.Common.{List, ℕ, subst}
use Rattle.wot_types.specs.Printing.{ended_field}
use Rattle.wot_lines.proofs.Pieces.{and_three, and_two}
use Rattle.wot_lines.proofs.records.push_pub.Goals as goal

pub returns-clause-adds : goal.returns-clause-adds
returns-clause-adds g c =
    let adds = g.W.Sink.adds in
    let both = g.met.W.Sink.both in
    let letter = subst (λ (letter : List ℕ). adds c.push_bytes.new.self (ended_field letter) c.push_field.new.text) c.letter_text.ensures c.in_ok-push_field.ensures.adds in
    let numbered = and_three adds both _ _ _ _ _ _ _ (both _ _ _ _ _ c.in_ok-push_bytes.ensures.adds letter) c.in_ok-push_numbers.ensures.adds in
    let dated = and_two adds both _ _ _ _ _ _ numbered c.in_ok-push_dates.ensures.adds in
    both _ _ _ _ _ (and_three adds both _ _ _ _ _ _ _ (both _ _ _ _ _ dated c.in_ok-push.ensures.adds) c.in_ok-push_use.ensures.adds) c.in_ok-push-2.ensures.adds
