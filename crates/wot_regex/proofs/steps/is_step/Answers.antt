use Rattle.std.proofs.Common.{◌||◌, ◌==◌, ap, ◌∙◌, arith}
use Rattle.wot_regex.specs.Following.{has}
use Rattle.wot_regex.proofs.Followings.{none_has}
use Rattle.wot_regex.proofs.Stepping.{alone_has, two_like}
use Rattle.wot_regex.proofs.steps.is_step.Goals as goal

pub returns-then-row-step : goal.returns-then-row-step
returns-then-row-step c = λ on.
    let first = c.args.first.now in
    let place = c.args.place in
    let alone = c.add.new.self.words in
    record {
      next = λ i lt.
          ap (λ w. has w i) (c.is.ensures on)
          ∙ c.row_by_steps-step.ensures.next i lt
          ∙ ap (λ b. has first.next.words i || b) (two_like (has alone) (λ j. j == place) (alone_has alone place c.add.ensures.one (λ j apart. c.add.ensures.others j apart ∙ none_has j)) i);
      found = grind (arith, c.if-row-step.true, c.row_by_steps-step.ensures.found);
    }
