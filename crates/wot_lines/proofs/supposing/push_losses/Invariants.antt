use Rattle.std.proofs.Common.{◌≡◌, ◌++◌, take}
use Rattle.std.specs.List.{flat_map}
use Rattle.wot_types.specs.SupposingText.{loss_line}
use Rattle.wot_lines.proofs.supposing.push_losses.Given as goal

abbrev pub invariant-loop-loss : goal.invariant-loop-loss
invariant-loop-loss l = l.text ≡ l.initial.text ++ flat_map loss_line (take l.loss-index l.losses)
