use Rattle.std.proofs.Common.{◌≡◌, length}
use Rattle.std.specs.List.{list_all}
use Rattle.wot_spelling.specs.Checks.{is_well_formed}
use Rattle.wot_spelling.proofs.checks.are_well_formed.Given as goal

abbrev pub invariant-loop-left : goal.invariant-loop-left
invariant-loop-left l = list_all is_well_formed l.left ≡ list_all is_well_formed l.keys

abbrev pub decreases-loop-left : goal.decreases-loop-left
decreases-loop-left l = length l.left
