use Rattle.std.proofs.Common.{◌∙◌, [], Some, ap, refl, rules, sym, subst}
use Rattle.std.proofs.lemmas.Result.{IfOk-weaker}
use Rattle.wot_site.proofs.Honest.{honest_weaker}
use Rattle.wot_types.specs.LineByLine.{at_first}
use Rattle.wot_session.specs.SessionState.{IsPlace}
use Rattle.wot_session.proofs.Feeds.{here_at, knows_start}
use Rattle.wot_session.proofs.Outcomes.{if_err_weaker}
use Rattle.wot_session.proofs.Openings.{input_ended, input_stopped, words_nothing}
use Rattle.wot_session.proofs.opened.run_lines.Goals as goal

pub run_session-ended-requires : goal.run_session-ended-requires
run_session-ended-requires g c =
    let store = c.requires.opened.0 in
    let there = subst (λ place. IsPlace place store) (sym c.in-Ok.ensures.place) c.requires.opened.1.place in
    let somewhere = here_at c.new-session.result _ _ (c.new-session.ensures.place ∙ ap Some c.in-Ok.ensures.place)
    (c.new-session.ensures.at (at_first store []) (c.in-Ok.ensures.engine ∙ c.requires.opened.1.engine) c.requires.opened.1.sound there tt) c.requires.opened.2 (knows_start c.new-session.result _ c.new-session.ensures.refused) in
    (search rules, (search rules, ((_, somewhere), (search rules, search rules))))

pub returns-clause-ended : goal.returns-clause-ended
returns-clause-ended g c =
    IfOk-weaker c.run_session-ended.result _ _
    (λ refused all store opened holds. honest_weaker _ _ _ _ (all (at_first store [])
    (here_at c.new-session.result _ _ (c.new-session.ensures.place ∙ ap Some c.in-Ok.ensures.place)
    (c.new-session.ensures.at (at_first store []) (c.in-Ok.ensures.engine ∙ opened.engine) opened.sound (subst (λ place. IsPlace place store) (sym c.in-Ok.ensures.place) opened.place) tt) holds (knows_start c.new-session.result _ c.new-session.ensures.refused)))
    (λ y z ended. input_ended store [] refl y z c.args.most refused ended))
    c.run_session-ended.ensures.ended

pub returns-clause-stopped : goal.returns-clause-stopped
returns-clause-stopped g c =
    if_err_weaker _ _ c.run_session-ended.result c.run_session-ended.ensures.stopped
    (λ stop all store opened holds. honest_weaker _ _ _ _ (all (at_first store [])
    (here_at c.new-session.result _ _ (c.new-session.ensures.place ∙ ap Some c.in-Ok.ensures.place)
    (c.new-session.ensures.at (at_first store []) (c.in-Ok.ensures.engine ∙ opened.engine) opened.sound (subst (λ place. IsPlace place store) (sym c.in-Ok.ensures.place) opened.place) tt) holds (knows_start c.new-session.result _ c.new-session.ensures.refused)))
    (λ y z stopped. input_stopped store [] refl y z c.args.most stop stopped))

pub returns-in-Err-Memory-clause-stopped : goal.returns-in-Err-Memory-clause-stopped
returns-in-Err-Memory-clause-stopped g c store opened holds = words_nothing _ store [] c.args.most _ holds
