use Rattle.std.proofs.lemmas.Result.{on_ok_weaker}
use Rattle.wot_lines.proofs.records.push_dates.Goals as goal

pub returns-clause-adds : goal.returns-clause-adds
returns-clause-adds g c = on_ok_weaker c.push_expiry.result (g.met.W.Sink.both _ _ _ _ _ c.in_ok-push_number_field.ensures.adds) c.push_expiry.ensures.adds
