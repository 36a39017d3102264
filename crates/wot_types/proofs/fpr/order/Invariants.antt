use Rattle.std.proofs.Common.{◌≡◌, length, nat_cmp}
use Rattle.std.specs.Cmp.Lexicographic.{slice_cmp}
use Rattle.wot_types.proofs.fpr.order.Given as goal

abbrev pub invariant-loop-a : goal.invariant-loop-a
invariant-loop-a l = slice_cmp nat_cmp l.ours l.theirs ≡ slice_cmp nat_cmp l.fn.ours l.fn.theirs

abbrev pub decreases-loop-a : goal.decreases-loop-a
decreases-loop-a l = length l.ours
