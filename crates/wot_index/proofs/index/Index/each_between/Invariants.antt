use Rattle.std.proofs.Common.{◌≡◌, ◌+◌, ◌++◌, map}
use Rattle.std.specs.BTreeSet as set
use Rattle.std.specs.declared.ops.Bound.TheVariants.{Excluded, Included}
use Rattle.wot_index.specs.Indexed.{pair_cmp}
use Rattle.wot_index.proofs.index.Index.each_between.Given as goal

abbrev pub invariant-loop-pair : goal.invariant-loop-pair
invariant-loop-pair l =
    l.ids.items ++ map (λ pair. pair.1) l.pair-iterator ≡ map (λ pair. pair.1) (set.keys_between pair_cmp (Included (l.above + 1, 0)) (Excluded (l.upto + 1, 0)) l.self.pairs)
