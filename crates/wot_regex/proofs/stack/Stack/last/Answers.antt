use Rattle.std.proofs.Common.{◌≡◌, ◌+◌, ◌-◌, take, reverse, sym, ap, ◌∙◌, arith}
use Rattle.wot_regex.specs.Reaching.{reaches, top}
use Rattle.wot_regex.proofs.Stacks.{stack_popped}
use Rattle.wot_regex.proofs.stack.Stack.last.Goals as goal

pub returns : goal.returns
returns c =
    let ps = c.self.inside.passes in
    let es = c.self.inside.ended in
    let n = c.self.inside.len - 1 in
    let up : n + 1 ≡ c.self.inside.len = omega arith in
    sym (ap top (sym c.self.view_is ∙ ap (λ k. reverse (reaches (take k ps) (take k es))) (sym up) ∙ stack_popped ps es n _ _ (omega arith) (omega arith)))
