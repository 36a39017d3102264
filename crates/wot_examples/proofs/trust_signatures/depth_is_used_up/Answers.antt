use Rattle.std.specs.FinMap.{get-empty, get-entries}
use Rattle.std.specs.Ordering.{nat_cmp}
use Rattle.wot_types.specs.Candidates as candidates
use Rattle.wot_examples.proofs.trust_signatures.depth_is_used_up.Goals as goal

pub returns-clause-handed_on : goal.returns-clause-handed_on
unfolding candidates.chain_within
returns-clause-handed_on c = λ rows are. rw (are, get-empty nat_cmp 11, get-entries rows 11, are)
