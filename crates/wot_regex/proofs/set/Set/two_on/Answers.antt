use Rattle.std.proofs.Common.{◌≡◌, ◌<◌, ◌==◌, ◌+◌, ◌*◌, ◌/◌, ℕ, length, ◌∙◌, arith}
use Rattle.std.specs.Int.{bit_at}
use Rattle.std.proofs.lemmas.List.{length-set}
use Rattle.wot_regex.specs.Following.{has, two_on}
use Rattle.wot_regex.proofs.Followings.{set_more}
use Rattle.wot_regex.proofs.SetLemmas.{words_moved}
use Rattle.wot_regex.proofs.set.Set.two_on.Goals as goal

pub loop-i-preserved : goal.loop-i-preserved
loop-i-preserved c =
    let lt : c.loop-i.i < length c.loop-i.set.words = omega (arith, c.loop-i.invariant.same) in record {
      same = length-set c.loop-i.set.words c.loop-i.i c.word_two_on.result ∙ c.loop-i.invariant.same;
      done = set_more (λ k w. (j : ℕ) → j < 64 → (bit_at w j == 1) ≡ two_on (has c.args.self.now.words) (64 * k + j)) c.loop-i.set.words c.loop-i.i c.word_two_on.result lt c.loop-i.invariant.done c.word_two_on.ensures;
    }

pub returns : goal.returns
returns c = λ i lt. words_moved c.args.self.now.words c.loop-i.set.words i (c.loop-i.invariant.done (i / 64) 0 (omega arith))
