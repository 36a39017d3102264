use Rattle.std.proofs.Common.{◌<◌, ◌∷◌, ap, ◌∙◌, arith}
use Rattle.wot_regex.proofs.Stacks.{stack_pushed, stack_room}
use Rattle.wot_regex.proofs.stack.Stack.push.Goals as goal

pub bounds-self-inside-self-inside : goal.bounds-self-inside-self-inside
bounds-self-inside-self-inside c = stack_room c.self.inside.passes c.self.inside.ended c.self.inside.len c.args.self.now 771 c.self.view_is c.requires (omega arith) (omega arith)

pub bounds-self-inside-self-inside-2 : goal.bounds-self-inside-self-inside-2
bounds-self-inside-self-inside-2 c = stack_room c.self.inside.passes c.self.inside.ended c.self.inside.len c.args.self.now 771 c.self.view_is c.requires (omega arith) (omega arith)

pub invariant_of-self : goal.invariant_of-self
invariant_of-self c =
    let lt : c.self.inside.len < 771 = stack_room c.self.inside.passes c.self.inside.ended c.self.inside.len c.args.self.now 771 c.self.view_is c.requires (omega arith) (omega arith) in
    omega (arith, lt)

pub returns : goal.returns
returns c =
    let lt : c.self.inside.len < 771 = stack_room c.self.inside.passes c.self.inside.ended c.self.inside.len c.args.self.now 771 c.self.view_is c.requires (omega arith) (omega arith) in
    stack_pushed c.self.inside.passes c.self.inside.ended c.self.inside.len c.args.reach.passes c.args.reach.ended (omega arith) (omega arith)
    ∙ ap (λ rs. c.args.reach ∷ rs) c.self.view_is
