use Rattle.wot_regex.proofs.Found.{found-means}
use Rattle.wot_regex.proofs.laws.marks_find_matches.Goals as goal

pub returns : goal.returns
returns c = found-means
