use Rattle.std.proofs.Common.{◌∷◌, sym, ap, subst, ◌∙◌}
use Rattle.wot_live.specs.Ahead.{IsAhead, IsFrom, entries_left}
use Rattle.wot_live.proofs.EntriesAhead.{ahead_behind, lower, taken}
use Rattle.wot_live.proofs.beside.Beside.pass_below.Goals as goal

pub returns-then-le-clause-ahead : goal.returns-then-le-clause-ahead
returns-then-le-clause-ahead g c = λ m ahead. c.loop-self.invariant m (subst (IsAhead m c.args.id) (sym c.self.view_is) ahead)

pub loop-self-preserved : goal.loop-self-preserved
loop-self-preserved g c = λ m ahead.
    let left = c.loop-self.self-inside.left in
    let less = lower c.args.id c.in-Some.key.now (sym c.le.ensures ∙ c.if-le.false) in
    let behind = entries_left c.next-self-inside.result c.next-self-inside.new.self in
    let more = taken c.next-self-inside.result left c.next-self-inside.new.self c.next-self-inside.ensures.steps in
    let taken = ap (λ r. entries_left r left) c.in-Some.is ∙ ap (λ es. (c.in-Some.key.now, c.in-Some.field-0-1.now) ∷ es) more in
    ahead_behind m c.args.id c.in-Some.key.now c.in-Some.field-0-1.now behind less (subst (IsAhead m c.args.id) taken (c.loop-self.invariant m ahead))

pub returns-clause-from : goal.returns-clause-from
returns-clause-from g c = subst (λ r. IsFrom c.args.id (entries_left r c.loop-self.self-inside.left)) (sym c.in_default.is) tt

pub returns-clause-ahead : goal.returns-clause-ahead
returns-clause-ahead g c = λ m ahead. c.loop-self.invariant m (subst (IsAhead m c.args.id) (sym c.self.view_is) ahead)
