use Rattle.std.proofs.Common.{◌≡◌, ◌++◌, nat_cmp}
use Rattle.std.specs.BTreeSet as tree
use Rattle.std.specs.FinMap as map
use Rattle.std.specs.List.{filter_map}
use Rattle.wot_suppose.specs.Introducing.{if_introducing}
use Rattle.wot_suppose.proofs.losses.introducing_fprs.Given as goal

abbrev pub invariant-loop-fpr : goal.invariant-loop-fpr
invariant-loop-fpr l =
    let if_tried = if_introducing l.rows (tree.contains nat_cmp l.near) in
    l.fprs.items ++ filter_map if_tried l.fpr-iterator ≡ filter_map if_tried (map.entries l.trusts)
