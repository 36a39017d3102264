use Rattle.std.proofs.Common.{◌≡◌, take}
use Rattle.wot_types.specs.Quotes.{printed_text}
use Rattle.wot_fields.proofs.quoting.push_each.Given as goal

abbrev pub invariant-loop-b : goal.invariant-loop-b
invariant-loop-b g l = record {
  same : g.W.Sink.name l.quoted ≡ g.W.Sink.name l.initial.quoted;
  adds : g.W.Sink.adds l.initial.quoted (printed_text (take l.b-index l.text)) l.quoted;
}
