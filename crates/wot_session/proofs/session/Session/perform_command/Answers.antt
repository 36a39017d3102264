use Rattle.std.proofs.Common.{rules}
use Rattle.std.proofs.lemmas.Result.{on_ok_weaker}
use Rattle.wot_site.proofs.Honest.{honest_weaker}
use Rattle.wot_session.proofs.Feeds.{due_here}
use Rattle.wot_session.proofs.Outcomes.{if_err_memory}
use Rattle.wot_session.proofs.Sayings.{given_one, giving_one, no_memory}
use Rattle.wot_session.proofs.session.Session.perform_command.Goals as goal

pub returns-in-Err-Memory-clause-prefix : goal.returns-in-Err-Memory-clause-prefix
returns-in-Err-Memory-clause-prefix g c words of p here = no_memory _ p.progress _ _ here.holds

pub give-requires : goal.give-requires
give-requires g c =
    (search rules, (search rules, (_, _, _, due_here c.args.self.now c.reply_to_command.new.self c.in-Ok.answer _ c.requires.somewhere.0 _ _ c.reply_to_command.ensures.place c.reply_to_command.ensures.refused c.requires.somewhere.1 (c.in-Ok.ensures.due c.requires.somewhere.0 c.requires.known.0 c.requires.somewhere.1.at c.requires.known.1))))

pub returns-clause-at : goal.returns-clause-at
returns-clause-at g c = on_ok_weaker c.give.result (λ all words of p here. all _ _ _ (due_here c.args.self.now c.reply_to_command.new.self c.in-Ok.answer _ p _ _ c.reply_to_command.ensures.place c.reply_to_command.ensures.refused here (c.in-Ok.ensures.due p words here.at of))) c.give.ensures.here

pub returns-clause-told : goal.returns-clause-told
returns-clause-told g c =
    on_ok_weaker c.give.result
    (λ all words of p here. honest_weaker _ _ _ _ (all _ _ _ (due_here c.args.self.now c.reply_to_command.new.self c.in-Ok.answer _ p _ _ c.reply_to_command.ensures.place c.reply_to_command.ensures.refused here (c.in-Ok.ensures.due p words here.at of))) (λ x y. given_one p.progress _ x y))
    c.give.ensures.given

pub returns-clause-prefix : goal.returns-clause-prefix
returns-clause-prefix g c =
    if_err_memory _ _ c.give.result c.give.ensures.prefix c.give.ensures.memory
    (λ stop all memory words of p here. giving_one _ p.progress _ stop _ _ here.holds memory
    (all _ _ _ (due_here c.args.self.now c.reply_to_command.new.self c.in-Ok.answer _ p _ _ c.reply_to_command.ensures.place c.reply_to_command.ensures.refused here (c.in-Ok.ensures.due p words here.at of))))
