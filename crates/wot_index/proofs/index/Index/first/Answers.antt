use Rattle.std.proofs.Common.{rules, ◌≡◌, ◌==◌, false, subst}
use Rattle.std.specs.BTreeSet as set
use Rattle.std.specs.declared.ops.Bound.TheVariants.{Included, Unbounded}
use Rattle.wot_index.specs.Indexed.{pair_cmp}
use Rattle.wot_index.proofs.Pairs.{first_found, first_none, first_empty}
use Rattle.wot_index.proofs.index.Index.first.Goals as goal

pub returns-then-pair-number : goal.returns-then-pair-number
returns-then-pair-number c =
    let same : c.in-Some.pair.now.0 ≡ c.args.number = search rules in
    first_found c.args.self.now.pairs c.args.number c.in-Some.pair.now.0 c.in-Some.pair.now.1 _
    (subst (set.IsKeyRangeOf pair_cmp (Included (c.args.number, 0)) Unbounded c.args.self.now.pairs) c.in-Some.ensures.steps (c.range-pairs.ensures.in_range tt)) same

pub returns-else-pair-number : goal.returns-else-pair-number
returns-else-pair-number c =
    let other : (c.in-Some.pair.now.0 == c.args.number) ≡ false = search rules in
    first_none c.args.self.now.pairs c.args.number c.in-Some.pair.now.0 c.in-Some.pair.now.1 _
    (subst (set.IsKeyRangeOf pair_cmp (Included (c.args.number, 0)) Unbounded c.args.self.now.pairs) c.in-Some.ensures.steps (c.range-pairs.ensures.in_range tt)) other

pub returns-in-None : goal.returns-in-None
returns-in-None c =
    first_empty c.args.self.now.pairs c.args.number (subst (set.IsKeyRangeOf pair_cmp (Included (c.args.number, 0)) Unbounded c.args.self.now.pairs) c.in-None.ensures.steps.0 (c.range-pairs.ensures.in_range tt))
