use Rattle.wot_spelling.proofs.Distinct.{few_distinct}
use Rattle.wot_spelling.proofs.checks.are_distinct.Goals as goal

pub returns-in-empty : goal.returns-in-empty
returns-in-empty c = few_distinct c.args.users.now c.in-empty.len_below
