use Rattle.std.proofs.Common.{◌/◌, arith}
use Rattle.wot_regex.proofs.SetLemmas.{left_has, without, word_done, word_rest}
use Rattle.wot_regex.proofs.set.Set.leave.Goals as goal

pub loop-i-preserved : goal.loop-i-preserved
loop-i-preserved c = record {
  done = word_done without c.args.self.now.words c.loop-i.self.words c.args.other.now.words c.loop-i.i (omega arith) c.loop-i.invariant.rest c.loop-i.invariant.done;
  rest = word_rest without c.args.self.now.words c.loop-i.self.words c.args.other.now.words c.loop-i.i (omega arith) c.loop-i.invariant.rest _;
}

pub returns : goal.returns
returns c = λ i lt. left_has c.args.self.now.words c.loop-i.self.words c.args.other.now.words i (c.loop-i.invariant.done (i / 64) (omega arith))
