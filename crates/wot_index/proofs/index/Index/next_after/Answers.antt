use Rattle.std.proofs.Common.{rules, ◌≡◌, ◌==◌, false, subst}
use Rattle.std.specs.BTreeSet as set
use Rattle.std.specs.declared.ops.Bound.TheVariants.{Excluded, Unbounded}
use Rattle.wot_index.specs.Indexed.{pair_cmp}
use Rattle.wot_index.proofs.Pairs.{next_found, none_found, none_left}
use Rattle.wot_index.proofs.index.Index.next_after.Goals as goal

pub returns-then-pair-number : goal.returns-then-pair-number
returns-then-pair-number c =
    let same : c.in-Some.pair.now.0 ≡ c.args.number = search rules in
    next_found c.args.self.now.pairs c.args.number c.args.id c.in-Some.pair.now.0 c.in-Some.pair.now.1 _
    (subst (set.IsKeyRangeOf pair_cmp (Excluded (c.args.number, c.args.id)) Unbounded c.args.self.now.pairs) c.in-Some.ensures.steps (c.range-pairs.ensures.in_range tt)) same

pub returns-else-pair-number : goal.returns-else-pair-number
returns-else-pair-number c =
    let other : (c.in-Some.pair.now.0 == c.args.number) ≡ false = search rules in
    none_found c.args.self.now.pairs c.args.number c.args.id c.in-Some.pair.now.0 c.in-Some.pair.now.1 _
    (subst (set.IsKeyRangeOf pair_cmp (Excluded (c.args.number, c.args.id)) Unbounded c.args.self.now.pairs) c.in-Some.ensures.steps (c.range-pairs.ensures.in_range tt)) other

pub returns-in-None : goal.returns-in-None
returns-in-None c =
    none_left c.args.self.now.pairs c.args.number c.args.id (subst (set.IsKeyRangeOf pair_cmp (Excluded (c.args.number, c.args.id)) Unbounded c.args.self.now.pairs) c.in-None.ensures.steps.0 (c.range-pairs.ensures.in_range tt))
