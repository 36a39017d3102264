use Rattle.std.proofs.lemmas.Result.{on_ok_weaker}
use Rattle.wot_lines.proofs.records.push_numbers.Goals as goal

pub returns-clause-adds : goal.returns-clause-adds
returns-clause-adds g c =
    let both = g.met.W.Sink.both in
    on_ok_weaker c.push_key_id_field.result (both _ _ _ _ _ (both _ _ _ _ _ c.in_ok-push_number_field.ensures.adds c.in_ok-push_number_field-2.ensures.adds)) c.push_key_id_field.ensures.adds
