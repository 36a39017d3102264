use Rattle.wot_regex.proofs.Admitting.{one_tree}
use Rattle.wot_regex.proofs.laws.one_tree.Goals as goal

pub returns : goal.returns
returns c = one_tree
