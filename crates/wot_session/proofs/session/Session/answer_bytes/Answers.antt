use Rattle.std.proofs.Common.{◌∙◌, refl, rules}
use Rattle.wot_session.specs.SessionState.{IsOver}
use Rattle.wot_session.proofs.Feeds.{fed_at, feeding_broken, feeding_more, feeding_start, feeding_stop, over_at, over_said}
use Rattle.wot_session.proofs.session.Session.answer_bytes.Goals as goal

pub loop-line-init : goal.loop-line-init
loop-line-init g c = record { feeding = feeding_start _ _ _; quiet = refl }

pub end_line-requires : goal.end_line-requires
end_line-requires g c =
    let here = c.loop-line.invariant.feeding.at c.requires.0 c.requires.1 in
    (search rules, (search rules, (_, here)))

pub returns-in-Err-clause-prefix : goal.returns-in-Err-clause-prefix
returns-in-Err-clause-prefix g c =
    feeding_broken c.loop-line.invariant.feeding c.in-Some.line.now c.in-Some.after.now c.in-Some.ensures.split _ c.in-Err.stop c.in-Err.ensures.prefix

pub returns-then-is_over-clause-at : goal.returns-then-is_over-clause-at
returns-then-is_over-clause-at g c =
    let ended : IsOver c.end_line.new.self = search rules in
    over_at (feeding_more c.loop-line.invariant.feeding c.in-Some.line.now c.in-Some.after.now c.in-Some.ensures.split _ c.end_line.new.self
    c.in_default-end_line.ensures.at c.in_default-end_line.ensures.line c.in_default-end_line.ensures.told) ended

pub returns-then-is_over-clause-told : goal.returns-then-is_over-clause-told
returns-then-is_over-clause-told g c =
    let ended : IsOver c.end_line.new.self = search rules in
    over_said (feeding_more c.loop-line.invariant.feeding c.in-Some.line.now c.in-Some.after.now c.in-Some.ensures.split _ c.end_line.new.self
    c.in_default-end_line.ensures.at c.in_default-end_line.ensures.line c.in_default-end_line.ensures.told) ended

pub returns-in-Ok-clause-at : goal.returns-in-Ok-clause-at
returns-in-Ok-clause-at g c = fed_at c.loop-line.invariant.feeding c.in_default.ensures.unended c.hold.new.self (λ p at. c.hold.ensures.at p at) c.hold.ensures.place c.hold.ensures.refused

pub loop-line-preserved : goal.loop-line-preserved
loop-line-preserved g c = record {
  feeding = feeding_more c.loop-line.invariant.feeding c.in-Some.line.now c.in-Some.after.now c.in-Some.ensures.split _ c.end_line.new.self
      c.in_default-end_line.ensures.at c.in_default-end_line.ensures.line c.in_default-end_line.ensures.told;
  quiet = c.in_default-end_line.ensures.cause.why.quiet ∙ c.loop-line.invariant.quiet;
}

pub returns-in-Err-Memory-clause-prefix : goal.returns-in-Err-Memory-clause-prefix
returns-in-Err-Memory-clause-prefix g c = feeding_stop c.loop-line.invariant.feeding
