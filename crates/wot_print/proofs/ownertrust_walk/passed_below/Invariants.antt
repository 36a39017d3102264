use Rattle.std.proofs.Common.{◌<◌, ◌-◌, length}
use Rattle.std.specs.List.{AllWithin}
use Rattle.wot_print.specs.declared.ownertrust_walk.EntryById.{EntryById}
use Rattle.wot_print.proofs.ownertrust_walk.passed_below.Given as goal

abbrev pub invariant-loop-passed : goal.invariant-loop-passed
invariant-loop-passed l = AllWithin (λ (entry : EntryById). entry.id < l.id) l.entries 0 l.passed

abbrev pub decreases-loop-passed : goal.decreases-loop-passed
decreases-loop-passed l = length l.entries - l.passed
