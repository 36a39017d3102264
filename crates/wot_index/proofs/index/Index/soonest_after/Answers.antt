use Rattle.std.proofs.Common.{◌+◌, subst}
use Rattle.std.specs.BTreeSet as set
use Rattle.std.specs.declared.ops.Bound.TheVariants.{Included, Unbounded}
use Rattle.wot_index.specs.Indexed.{pair_cmp}
use Rattle.wot_index.proofs.Ranges.{no_soonest, soonest_found}
use Rattle.wot_index.proofs.index.Index.soonest_after.Goals as goal

pub returns-in-Some : goal.returns-in-Some
returns-in-Some c =
    let pairs = c.args.self.now.pairs in
    let range = subst (λ a. set.IsKeyRangeOf pair_cmp (Included a) Unbounded pairs c.range-pairs.result) c.from.ensures (c.range-pairs.ensures.in_range tt) in
    soonest_found pairs c.args.number c.in-Some.pair.now.0 c.in-Some.pair.now.1 _
    (subst (set.IsKeyRangeOf pair_cmp (Included (c.args.number + 1, 0)) Unbounded pairs) c.in-Some.ensures.steps range)

pub returns-in-None : goal.returns-in-None
returns-in-None c =
    let pairs = c.args.self.now.pairs in
    let range = subst (λ a. set.IsKeyRangeOf pair_cmp (Included a) Unbounded pairs c.range-pairs.result) c.from.ensures (c.range-pairs.ensures.in_range tt) in
    no_soonest pairs c.args.number
    (subst (set.IsKeyRangeOf pair_cmp (Included (c.args.number + 1, 0)) Unbounded pairs) c.in-None.ensures.steps.0 range)
