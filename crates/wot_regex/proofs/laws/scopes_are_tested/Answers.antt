use Rattle.wot_regex.proofs.Admitting.{admitted-means}
use Rattle.wot_regex.proofs.laws.scopes_are_tested.Goals as goal

pub returns : goal.returns
returns c = admitted-means
