use Rattle.std.proofs.Common.{arith}
use Rattle.wot_regex.proofs.Followings.{none_has, put_rest}
use Rattle.wot_regex.proofs.Stepping.{steps_more}
use Rattle.wot_regex.proofs.steps.steps_of.Goals as goal

pub loop-i-init : goal.loop-i-init
loop-i-init c = record { done = λ j e lt on. absurd (omega arith); rest = λ j le. none_has j }

pub loop-i-preserved : goal.loop-i-preserved
loop-i-preserved c = record {
  done =
      steps_more c.args.first.now c.loop-i.steps.words c.put.new.self.words c.args.rows.now c.loop-i.i _ c.is_step.result c.loop-i-test.true c.put.ensures.one c.put.ensures.others c.is_step.ensures c.loop-i.invariant.done
      c.loop-i.invariant.rest;
  rest = put_rest c.loop-i.steps.words c.put.new.self.words c.loop-i.i c.put.ensures.others c.loop-i.invariant.rest;
}

pub returns : goal.returns
returns c = λ i d lt. c.loop-i.invariant.done i d (omega arith)
