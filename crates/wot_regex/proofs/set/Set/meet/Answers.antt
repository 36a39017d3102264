use Rattle.std.proofs.Common.{◌/◌, bit_and, arith}
use Rattle.wot_regex.proofs.SetLemmas.{met_has, word_done, word_rest}
use Rattle.wot_regex.proofs.set.Set.meet.Goals as goal

pub loop-i-preserved : goal.loop-i-preserved
loop-i-preserved c = record {
  done = word_done bit_and c.args.self.now.words c.loop-i.self.words c.args.other.now.words c.loop-i.i (omega arith) c.loop-i.invariant.rest c.loop-i.invariant.done;
  rest = word_rest bit_and c.args.self.now.words c.loop-i.self.words c.args.other.now.words c.loop-i.i (omega arith) c.loop-i.invariant.rest _;
}

pub returns : goal.returns
returns c = λ i lt. met_has c.args.self.now.words c.loop-i.self.words c.args.other.now.words i (c.loop-i.invariant.done (i / 64) (omega arith))
