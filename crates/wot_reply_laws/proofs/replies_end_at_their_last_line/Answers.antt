use Rattle.wot_reply_laws.proofs.ReplyEnds as proved
use Rattle.wot_reply_laws.proofs.replies_end_at_their_last_line.Goals as goal

pub returns-clause-ends : goal.returns-clause-ends
returns-clause-ends c = proved.replies

pub returns-clause-silent : goal.returns-clause-silent
returns-clause-silent c = proved.silent
