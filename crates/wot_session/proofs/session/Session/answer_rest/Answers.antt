use Rattle.std.proofs.Common.{rules}
use Rattle.std.proofs.lemmas.Result.{on_ok_weaker}
use Rattle.wot_types.specs.Commands.{unfinished_commands}
use Rattle.wot_types.specs.LineByLine.{after_lines, commands_in}
use Rattle.wot_session.specs.OpenLine.{last_lines}
use Rattle.wot_site.proofs.Honest.{honest_then, honest_weaker}
use Rattle.wot_session.proofs.Outcomes.{if_err_weaker}
use Rattle.wot_session.proofs.Sayings.{said_prefix_more, said_then, said_then_prefix}
use Rattle.wot_session.proofs.session.Session.answer_rest.Goals as goal

pub returns-in-Err-clause-prefix : goal.returns-in-Err-clause-prefix
returns-in-Err-clause-prefix g c p here =
    let line = c.args.self.now.line in
    honest_weaker _ _ _ _ (c.in-Err.ensures.prefix p here)
    (λ x y. said_prefix_more p.progress (commands_in p (last_lines line)) (unfinished_commands (after_lines p (last_lines line)).division) x y c.in-Err.stop)

pub answer_unfinished-requires : goal.answer_unfinished-requires
answer_unfinished-requires g c = (search rules, (search rules, (_, c.in_default.ensures.at c.requires.0 c.requires.1)))

pub returns-clause-at : goal.returns-clause-at
returns-clause-at g c = on_ok_weaker c.answer_unfinished.result (λ at p here. at _ (c.in_default.ensures.at p here)) c.answer_unfinished.ensures.at

pub returns-clause-told : goal.returns-clause-told
returns-clause-told g c =
    let line = c.args.self.now.line in
    on_ok_weaker c.answer_unfinished.result
    (λ told p here. honest_then _ _ _ _ _ _ (c.in_default.ensures.told p here) (told _ (c.in_default.ensures.at p here))
    (λ x y z. said_then p.progress (commands_in p (last_lines line)) (unfinished_commands (after_lines p (last_lines line)).division) x y z))
    c.answer_unfinished.ensures.told

pub returns-clause-prefix : goal.returns-clause-prefix
returns-clause-prefix g c =
    let line = c.args.self.now.line in
    if_err_weaker _ _ c.answer_unfinished.result c.answer_unfinished.ensures.prefix
    (λ stop prefix p here. honest_then _ _ _ _ _ _ (c.in_default.ensures.told p here) (prefix _ (c.in_default.ensures.at p here))
    (λ x y z. said_then_prefix p.progress (commands_in p (last_lines line)) (unfinished_commands (after_lines p (last_lines line)).division) x y stop z))
