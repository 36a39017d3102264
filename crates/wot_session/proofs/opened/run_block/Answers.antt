use Rattle.std.proofs.lemmas.Result.{IfOk-weaker}
use Rattle.wot_site.proofs.Honest.{honest_weaker}
use Rattle.wot_types.specs.LineByLine.{at_first}
use Rattle.wot_session.proofs.Feeds.{here_at, knows_start}
use Rattle.wot_session.proofs.Outcomes.{if_err_weaker}
use Rattle.wot_session.proofs.Openings.{first_block, input_ended, input_stopped, takes_block}
use Rattle.wot_session.proofs.opened.run_block.Goals as goal

pub run_session-ended-requires-clause-somewhere : goal.run_session-ended-requires-clause-somewhere
run_session-ended-requires-clause-somewhere g c κs within =
    let begun = first_block c.args.block c.requires.block.0 c.requires.block.1 in
    (_, here_at c.new-session.result _ _ c.new-session.ensures.place (c.new-session.ensures.at (at_first c.requires.opened.0 c.requires.block.0) c.requires.opened.1.engine c.requires.opened.1.sound c.requires.opened.1.place begun) c.requires.opened.2 (knows_start c.new-session.result _ c.new-session.ensures.refused))

pub returns-clause-ended : goal.returns-clause-ended
returns-clause-ended g c =
    IfOk-weaker c.run_session-ended.result _ _
    (λ refused all store opened holds words of. honest_weaker _ _ _ _ (all (at_first store words) (here_at c.new-session.result _ _ c.new-session.ensures.place (c.new-session.ensures.at (at_first store words) opened.engine opened.sound opened.place (first_block c.args.block words of)) holds (knows_start c.new-session.result _ c.new-session.ensures.refused)))
    (λ y z ended. input_ended store words (takes_block c.args.block words of) y z c.args.most refused ended))
    c.run_session-ended.ensures.ended

pub returns-clause-stopped : goal.returns-clause-stopped
returns-clause-stopped g c =
    if_err_weaker _ _ c.run_session-ended.result c.run_session-ended.ensures.stopped
    (λ stop all store opened holds words of. honest_weaker _ _ _ _ (all (at_first store words) (here_at c.new-session.result _ _ c.new-session.ensures.place (c.new-session.ensures.at (at_first store words) opened.engine opened.sound opened.place (first_block c.args.block words of)) holds (knows_start c.new-session.result _ c.new-session.ensures.refused)))
    (λ y z stopped. input_stopped store words (takes_block c.args.block words of) y z c.args.most stop stopped))
