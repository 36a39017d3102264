use Rattle.std.proofs.Common.{◌≡◌, map}
use Rattle.wot_answer.proofs.words.read_words.Given as goal

abbrev pub invariant-loop-word : goal.invariant-loop-word
invariant-loop-word l = l.words ≡ map (λ word. word.now) l.yielded
