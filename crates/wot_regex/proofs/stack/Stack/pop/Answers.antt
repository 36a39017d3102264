use Rattle.std.proofs.Common.{◌≡◌, ◌+◌, ◌-◌, take, false, reverse, sym, ap, ◌∙◌, arith}
use Rattle.wot_regex.specs.Reaching.{below, reaches, top}
use Rattle.wot_regex.proofs.Stacks.{stack_popped}
use Rattle.wot_regex.proofs.stack.Stack.pop.Goals as goal

pub returns-clause-value : goal.returns-clause-value
returns-clause-value c =
    let ps = c.self.inside.passes in
    let es = c.self.inside.ended in
    let n = c.self.inside.len - 1 in
    let up : n + 1 ≡ c.self.inside.len = omega arith in
    sym (ap top (sym c.self.view_is ∙ ap (λ k. reverse (reaches (take k ps) (take k es))) (sym up) ∙ stack_popped ps es n _ _ (omega arith) (omega arith)))

pub returns-clause-others : goal.returns-clause-others
returns-clause-others c =
    let ps = c.self.inside.passes in
    let es = c.self.inside.ended in
    let n = c.self.inside.len - 1 in
    let up : n + 1 ≡ c.self.inside.len = omega arith in
    sym (ap below (sym c.self.view_is ∙ ap (λ k. reverse (reaches (take k ps) (take k es))) (sym up) ∙ stack_popped ps es n false false (omega arith) (omega arith)))
