use Rattle.std.proofs.Common.{refl}
use Rattle.wot_session.proofs.EarlierReplies.{reads_sound, replies_there}
use Rattle.wot_session.proofs.earlier.read_earlier.Goals as goal

pub returns-in-Ok-answer_in-clause-reply : goal.returns-in-Ok-answer_in-clause-reply
returns-in-Ok-answer_in-clause-reply g c s holds few =
    let read = c.in-Ok-answer_in.read in
    replies_there c.args.place.now s c.args.n _ c.args.query c.state_at.result c.in-Ok.engine read.0 read.1 c.in-Ok.is holds
    (c.state_at.ensures.earlier c.args.place.now s (record { is_side = refl; is_epoch = refl; is_pages = refl; made = few }))
    c.in-Ok-answer_in.ensures.engine c.in-Ok-answer_in.ensures.reply c.in-Ok-answer_in.ensures.refused

pub returns-in-Err-clause-sound : goal.returns-in-Err-clause-sound
returns-in-Err-clause-sound g c s holds few =
    reads_sound c.args.place.now s c.args.n _ c.args.place.now.side c.state_at.result c.in-Err.why c.unread.result c.in-Err.is c.unread.ensures holds
    (c.state_at.ensures.earlier c.args.place.now s (record { is_side = refl; is_epoch = refl; is_pages = refl; made = few }))
