use Rattle.wot_session.proofs.Splits.{first_newline, first_within}
use Rattle.wot_session.proofs.lines.newline_at.Goals as goal

pub returns-clause-place : goal.returns-clause-place
returns-clause-place c = first_newline c.args.bytes.now c.memchr.result c.memchr.ensures

pub returns-clause-within : goal.returns-clause-within
returns-clause-within c = first_within c.args.bytes.now c.memchr.result c.memchr.ensures
