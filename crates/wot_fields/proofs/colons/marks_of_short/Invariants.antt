use Rattle.wot_fields.proofs.ColonLemmas.{Seen}
use Rattle.wot_fields.proofs.colons.marks_of_short.Given as goal

abbrev pub invariant-loop-at : goal.invariant-loop-at
invariant-loop-at l = Seen l.line l.bits l.at
