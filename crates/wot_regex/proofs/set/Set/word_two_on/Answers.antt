use Rattle.std.proofs.Common.{◌≡◌, ◌+◌, ◌*◌, refl, ap, ◌∙◌, arith}
use Rattle.wot_regex.specs.Following.{has, two_on}
use Rattle.wot_regex.proofs.SetLemmas.{first_word_moved, word_moved}
use Rattle.wot_regex.proofs.set.Set.word_two_on.Goals as goal

pub returns-then-i-eq0 : goal.returns-then-i-eq0
returns-then-i-eq0 c = λ j lt.
    let words = c.args.self.now.words in
    let here : j ≡ 64 * c.args.i + j = omega (arith, c.if-i-eq0.true) in
    first_word_moved words _ c.moved_by_two.result refl c.moved_by_two.ensures.first c.moved_by_two.ensures.others j lt ∙ ap (λ k. two_on (has words) k) here

pub returns : goal.returns
returns c =
    word_moved c.args.self.now.words c.args.i _ _ c.moved_by_two-2.result (omega (arith, c.if-i-eq0.false)) refl refl c.moved_by_two-2.ensures.first c.moved_by_two-2.ensures.others
