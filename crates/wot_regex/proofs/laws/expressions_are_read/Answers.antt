use Rattle.wot_regex.proofs.Completes.{reads-tree_of}
use Rattle.wot_regex.proofs.Sound.{tree_of-reads}
use Rattle.wot_regex.proofs.laws.expressions_are_read.Goals as goal

pub returns : goal.returns
returns c = λ tree scope. (tree_of-reads tree scope, reads-tree_of tree scope)
