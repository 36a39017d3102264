use Rattle.std.proofs.Common.{◌≡◌, ◌++◌, take}
use Rattle.std.specs.List.{flat_map}
use Rattle.wot_types.specs.SupposingText.{change_line}
use Rattle.wot_lines.proofs.supposing.push_changes.Given as goal

abbrev pub invariant-loop-change : goal.invariant-loop-change
invariant-loop-change l = l.text ≡ l.initial.text ++ flat_map change_line (take l.change-index l.changes)
