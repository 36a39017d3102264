use Rattle.wot_fields.proofs.ColonLemmas.{at_start}
use Rattle.wot_fields.proofs.colons.Colons.of.Goals as goal

pub returns-clause-ahead : goal.returns-clause-ahead
returns-clause-ahead c = at_start c.args.line.now _ c.marks_from.ensures
