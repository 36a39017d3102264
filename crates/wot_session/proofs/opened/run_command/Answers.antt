use Rattle.std.proofs.Common.{◌≡◌, ◌∙◌, [], ap, arith, length}
use Rattle.wot_site.proofs.Honest.{honest_weaker}
use Rattle.wot_types.specs.Commands.Division.{between}
use Rattle.wot_types.specs.LineByLine.{Position}
use Rattle.wot_types.specs.Session.{at_start}
use Rattle.wot_session.specs.SessionState.{IsHere}
use Rattle.wot_session.proofs.Feeds.{here_at, known_here, knows_start, said_known}
use Rattle.wot_session.proofs.Openings.{one_ended, one_stopped}
use Rattle.wot_session.proofs.opened.run_command.Goals as goal

pub perform_command-performed-requires-clause-somewhere : goal.perform_command-performed-requires-clause-somewhere
perform_command-performed-requires-clause-somewhere g c κs within =
    let p : Position = record { progress = at_start c.requires.opened.0; division = between } in
    (p, here_at c.new-session.result _ _ c.new-session.ensures.place (c.new-session.ensures.at p c.requires.opened.1.engine c.requires.opened.1.sound c.requires.opened.1.place tt) c.requires.opened.2 (knows_start c.new-session.result _ c.new-session.ensures.refused))

pub returns-in-Ok-clause-ended : goal.returns-in-Ok-clause-ended
returns-in-Ok-clause-ended g c store opened holds words of most =
    let some : words ≡ [] → ⊥ = λ e. omega (arith, of.some, ap length e) in
    let p : Position = record { progress = at_start store; division = between } in
    let here : IsHere c.new-session.result (g.S.Site.seen c.args.site.now) p =
    here_at c.new-session.result _ _ c.new-session.ensures.place (c.new-session.ensures.at p opened.engine opened.sound opened.place tt) holds (knows_start c.new-session.result _ c.new-session.ensures.refused) in
    let after = c.in-Ok.ensures.at words of p here in
    honest_weaker _ _ _ _ (said_known _ _ _ _ (c.in-Ok.ensures.told words of p here) (known_here c.perform_command-performed.new.self _ _ after))
    (λ y z both. one_ended store words some of.blockless y z most c.is_refused-refused.result (c.is_refused-refused.ensures ∙ both.1.1) both.1.0 both.0)

pub returns-in-Err-clause-stopped : goal.returns-in-Err-clause-stopped
returns-in-Err-clause-stopped g c store opened holds words of most =
    let some : words ≡ [] → ⊥ = λ e. omega (arith, of.some, ap length e) in
    let p : Position = record { progress = at_start store; division = between } in
    let here : IsHere c.new-session.result (g.S.Site.seen c.args.site.now) p =
    here_at c.new-session.result _ _ c.new-session.ensures.place (c.new-session.ensures.at p opened.engine opened.sound opened.place tt) holds (knows_start c.new-session.result _ c.new-session.ensures.refused) in
    honest_weaker _ _ _ _ (c.in-Err.ensures.prefix words of p here)
    (λ y z said. one_stopped store words some of.blockless y z most c.in-Err.stop c.in-Err.ensures.cause.kinds said)
