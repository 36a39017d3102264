use Rattle.std.proofs.Common.{arith}
use Rattle.wot_regex.proofs.Followings.{none_has, put_done, put_rest}
use Rattle.wot_regex.proofs.followers.set_of.Goals as goal

pub loop-i-init : goal.loop-i-init
loop-i-init c = record { done = λ j lt. absurd (omega arith); rest = λ j le. none_has j }

pub loop-i-preserved : goal.loop-i-preserved
loop-i-preserved c = record {
  done = put_done c.loop-i.set.words c.put.new.self.words c.args.cells.now c.loop-i.i _ c.loop-i-test.true c.put.ensures.one c.put.ensures.others c.loop-i.invariant.done c.loop-i.invariant.rest;
  rest = put_rest c.loop-i.set.words c.put.new.self.words c.loop-i.i c.put.ensures.others c.loop-i.invariant.rest;
}

pub returns : goal.returns
returns c = λ i lt. c.loop-i.invariant.done i (omega arith)
