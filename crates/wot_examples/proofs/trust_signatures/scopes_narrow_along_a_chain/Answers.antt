use Rattle.std.specs.FinMap.{get-empty, get-entries}
use Rattle.std.specs.Ordering.{nat_cmp}
use Rattle.wot_types.specs.Candidates as candidates
use Rattle.wot_examples.proofs.trust_signatures.scopes_narrow_along_a_chain.Goals as goal

pub returns-clause-introduced : goal.returns-clause-introduced
unfolding candidates.chain_within
returns-clause-introduced c = λ rows are. rw (are, get-empty nat_cmp 10, get-entries rows 10, are)

pub returns-clause-handed_on : goal.returns-clause-handed_on
unfolding candidates.chain_within
returns-clause-handed_on c = λ rows are. rw (are, get-empty nat_cmp 11, get-entries rows 10, are, get-entries rows 11, are)

pub returns-clause-outside : goal.returns-clause-outside
unfolding candidates.chain_within
returns-clause-outside c = λ rows are. rw (are, get-entries rows 11, are)

pub returns-clause-inside_both : goal.returns-clause-inside_both
unfolding candidates.chain_within
returns-clause-inside_both c = λ rows are. rw (are, get-empty nat_cmp 12, get-entries rows 10, are, get-entries rows 11, are, get-entries rows 10, are)

pub returns-clause-widened : goal.returns-clause-widened
unfolding candidates.chain_within
returns-clause-widened c = λ rows are. rw (are, get-empty nat_cmp 12, get-entries rows 10, are, get-entries rows 11, are, get-entries rows 10, are)
