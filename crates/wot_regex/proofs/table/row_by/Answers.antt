use Rattle.std.proofs.Common.{sym}
use Rattle.wot_regex.proofs.table.row_by.Goals as goal

pub returns-in-None : goal.returns-in-None
returns-in-None c = λ cells same holds. c.row_from.ensures c.args.nodes.now cells (sym c.requires.whole) c.requires.rows same holds
