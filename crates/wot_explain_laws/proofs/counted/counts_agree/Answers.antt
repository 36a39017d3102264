use Rattle.wot_explain_laws.proofs.ListedLemmas.{counted}
use Rattle.wot_explain_laws.proofs.counted.counts_agree.Goals as goal

pub returns : goal.returns
returns c s rows spot = counted s rows spot
