use Rattle.wot_reply_laws.proofs.SessionReplies as session
use Rattle.wot_reply_laws.proofs.last_lines_count_the_replies.Goals as goal

pub returns : goal.returns
returns c = session.counted
