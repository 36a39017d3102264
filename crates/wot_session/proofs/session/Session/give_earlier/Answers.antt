use Rattle.std.proofs.Common.{◌∙◌, rules, sym}
use Rattle.wot_session.specs.Ready.{text_of}
use Rattle.wot_session.specs.declared.stop.Stop.TheVariants.{Memory}
use Rattle.wot_session.proofs.EarlierReplies.{earlier_given, earlier_here, earlier_prefix, earlier_stopped, known_sound, many, open_there}
use Rattle.wot_session.proofs.session.Session.give_earlier.Goals as goal

pub read_earlier-requires : goal.read_earlier-requires
read_earlier-requires g c = (search rules, (search rules, c.requires.3.due.asked.1))

pub returns-in-Err-clause-prefix : goal.returns-in-Err-clause-prefix
returns-in-Err-clause-prefix g c p after text due =
    let store = after.progress.store in
    earlier_stopped c.args.self.now c.in-Some.place c.args.n c.args.query _ p after text (sym c.take.ensures.value ∙ c.in-Some.is) due _ c.in-Err.stop
    (c.in-Err.ensures.sound store (open_there c.args.self.now c.in-Some.place c.args.n c.args.query _ p after text (sym c.take.ensures.value ∙ c.in-Some.is) due) (many c.args.self.now c.in-Some.place c.args.n c.args.query _ p after text (sym c.take.ensures.value ∙ c.in-Some.is) due)) c.read_earlier.ensures.stays

pub returns-in-Err-Memory-clause-prefix : goal.returns-in-Err-Memory-clause-prefix
returns-in-Err-Memory-clause-prefix g c p after text due =
    earlier_stopped c.args.self.now c.in-Some.place c.args.n c.args.query _ p after text (sym c.take.ensures.value ∙ c.in-Some.is) due _ Memory (known_sound Memory tt _) c.read_earlier.ensures.stays

pub returns-in-Ok-tell_ready-clause-here : goal.returns-in-Ok-tell_ready-clause-here
returns-in-Ok-tell_ready-clause-here g c p after text due =
    let store = after.progress.store in
    let replies = c.in-Ok.ensures.reply store (open_there c.args.self.now c.in-Some.place c.args.n c.args.query _ p after text (sym c.take.ensures.value ∙ c.in-Some.is) due) (many c.args.self.now c.in-Some.place c.args.n c.args.query _ p after text (sym c.take.ensures.value ∙ c.in-Some.is) due) in
    earlier_here c.args.self.now c.in-Some.place c.args.n c.args.query _ p after text (sym c.take.ensures.value ∙ c.in-Some.is) due _ _ c.in-Ok.read.0 c.in-Ok.read.1 (text_of c.in-Ok-make_ready.reply) c.read_earlier.ensures.stays replies c.in-Ok-make_ready.ensures
    c.is_refused_after-self.result c.is_refused_after-self.ensures c.in-Ok-tell_ready.ensures.told

pub returns-in-Ok-tell_ready-clause-given : goal.returns-in-Ok-tell_ready-clause-given
returns-in-Ok-tell_ready-clause-given g c p after text due =
    let store = after.progress.store in
    let replies = c.in-Ok.ensures.reply store (open_there c.args.self.now c.in-Some.place c.args.n c.args.query _ p after text (sym c.take.ensures.value ∙ c.in-Some.is) due) (many c.args.self.now c.in-Some.place c.args.n c.args.query _ p after text (sym c.take.ensures.value ∙ c.in-Some.is) due) in
    earlier_given c.args.self.now c.in-Some.place c.args.n c.args.query _ p after text (sym c.take.ensures.value ∙ c.in-Some.is) due _ _ c.in-Ok.read.0 c.in-Ok.read.1 (text_of c.in-Ok-make_ready.reply) c.read_earlier.ensures.stays replies c.in-Ok-make_ready.ensures
    c.in-Ok-tell_ready.ensures.told

pub returns-clause-prefix : goal.returns-clause-prefix
returns-clause-prefix g c p after text due =
    let store = after.progress.store in
    let replies = c.in-Ok.ensures.reply store (open_there c.args.self.now c.in-Some.place c.args.n c.args.query _ p after text (sym c.take.ensures.value ∙ c.in-Some.is) due) (many c.args.self.now c.in-Some.place c.args.n c.args.query _ p after text (sym c.take.ensures.value ∙ c.in-Some.is) due) in
    earlier_prefix c.args.self.now c.in-Some.place c.args.n c.args.query _ p after text (sym c.take.ensures.value ∙ c.in-Some.is) due _ _ c.in-Ok.read.0 c.in-Ok.read.1 (text_of c.in-Ok-make_ready.reply) c.read_earlier.ensures.stays replies c.in-Ok-make_ready.ensures
    c.in-Err-tell_ready.ensures.prefix
