use Rattle.std.proofs.Common.{◌∙◌, ap, refl, arith, rules, take}
use Rattle.std.proofs.lemmas.List.{length-take-le}
use Rattle.wot_session.specs.SessionState.{IsOver}
use Rattle.wot_session.proofs.Looping.{ending_ok, ending_stop, running_end, running_more, running_over, running_start, running_stop}
use Rattle.wot_session.proofs.running.run_session.Goals as goal

pub loop-n-init : goal.loop-n-init
loop-n-init g c = record { running = λ s here. running_start s _ _ _ here c.requires.line c.requires.going; quiet = refl }

pub turn-requires : goal.turn-requires
turn-requires g c = (search rules, (search rules, ((_, (c.loop-n.invariant.running c.requires.somewhere.0 c.requires.somewhere.1).at), search rules)))

pub returns-in-Err-clause-stopped : goal.returns-in-Err-clause-stopped
returns-in-Err-clause-stopped g c s here = running_stop (c.loop-n.invariant.running s here) _ c.in-Err.stop c.in-Err.ensures.stopped

pub returns-then-is_over-clause-ended : goal.returns-then-is_over-clause-ended
returns-then-is_over-clause-ended g c s here =
    let ended : IsOver c.turn.new.self = search rules in
    running_over (c.loop-n.invariant.running s here) _ c.turn.new.self (take c.in-Ok.n c.turn.new.buf) c.in-Ok.ensures.at c.in-Ok.ensures.turned
    c.in-Ok.n c.is_refused.result (length-take-le c.in-Ok.n c.turn.new.buf c.in-Ok.ensures.fits) c.in-Ok.ensures.room ended c.is_refused.ensures

pub loop-n-preserved : goal.loop-n-preserved
loop-n-preserved g c = record {
  running = λ s here.
      let goes : IsOver c.turn.new.self → ⊥ = search rules in
      running_more (c.loop-n.invariant.running s here) _ c.turn.new.self (take c.in-Ok.n c.turn.new.buf) c.in-Ok.ensures.at c.in-Ok.ensures.turned
      goes c.in-Ok.ensures.line c.in-Ok.n (length-take-le c.in-Ok.n c.turn.new.buf c.in-Ok.ensures.fits) c.in-Ok.ensures.room (omega (arith, c.if-n-eq0.false));
  quiet = c.in-Ok.ensures.cause.quiet ∙ c.loop-n.invariant.quiet;
}

pub answer_rest-requires : goal.answer_rest-requires
answer_rest-requires g c = (search rules, (search rules, (_, c.in-Ok.ensures.at _ (c.loop-n.invariant.running c.requires.somewhere.0 c.requires.somewhere.1).at)))

pub returns-in-Ok-answer_rest-clause-ended : goal.returns-in-Ok-answer_rest-clause-ended
returns-in-Ok-answer_rest-clause-ended g c s here =
    let goes : IsOver c.turn.new.self → ⊥ = search rules in
    ending_ok (running_end (c.loop-n.invariant.running s here) _ c.turn.new.self (take c.in-Ok.n c.turn.new.buf) c.in-Ok.ensures.at c.in-Ok.ensures.turned
    goes c.in-Ok.ensures.line (ap (λ n. take n c.turn.new.buf) c.if-n-eq0.true))
    _ c.answer_rest.new.self c.is_refused-in-Ok-answer_rest.result c.in-Ok-answer_rest.ensures.at c.in-Ok-answer_rest.ensures.told c.is_refused-in-Ok-answer_rest.ensures

pub returns-in-Err-answer_rest-clause-stopped : goal.returns-in-Err-answer_rest-clause-stopped
returns-in-Err-answer_rest-clause-stopped g c s here =
    let goes : IsOver c.turn.new.self → ⊥ = search rules in
    ending_stop (running_end (c.loop-n.invariant.running s here) _ c.turn.new.self (take c.in-Ok.n c.turn.new.buf) c.in-Ok.ensures.at c.in-Ok.ensures.turned
    goes c.in-Ok.ensures.line (ap (λ n. take n c.turn.new.buf) c.if-n-eq0.true))
    _ c.in-Err-answer_rest.stop c.in-Err-answer_rest.ensures.cause.kinds c.in-Err-answer_rest.ensures.prefix
