use Rattle.std.proofs.Common.{◌≡◌, ◌+◌, ◌-◌, ◌∷◌, take, set, reverse, sym, ap, ◌∙◌, arith}
use Rattle.wot_regex.specs.Reaching.{below, reaches}
use Rattle.wot_regex.proofs.Stacks.{stack_replaced}
use Rattle.wot_regex.proofs.stack.Stack.replace.Goals as goal

pub returns : goal.returns
returns c =
    let ps = c.self.inside.passes in
    let es = c.self.inside.ended in
    let n = c.self.inside.len - 1 in
    let up : n + 1 ≡ c.self.inside.len = omega arith in
    ap (λ k. reverse (reaches (take k (set ps n c.args.reach.passes)) (take k (set es n c.args.reach.ended)))) (sym up)
    ∙ stack_replaced ps es n c.args.reach.passes c.args.reach.ended (omega arith) (omega arith)
    ∙ ap (λ k. c.args.reach ∷ below (reverse (reaches (take k ps) (take k es)))) up
    ∙ ap (λ rs. c.args.reach ∷ below rs) c.self.view_is
