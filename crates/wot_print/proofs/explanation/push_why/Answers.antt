use Rattle.std.proofs.Common.{arith}
use Rattle.std.proofs.lemmas.Grind.{common_steps}
use Rattle.wot_print.proofs.explanation.push_why.Goals as goal

pub returns : goal.returns
returns c = λ user at. rw (← at) (grind (arith, common_steps))
