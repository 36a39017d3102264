use Rattle.std.proofs.Common.{◌≡◌, ◌++◌, length, reverse}
use Rattle.std.specs.List.{filter_map}
use Rattle.wot_types.specs.Supposing.{critical, loss_by}
use Rattle.wot_live.specs.PlainEdit.{IsAllowed}
use Rattle.wot_suppose.specs.Trials.{state_before}
use Rattle.wot_suppose.proofs.losses.critical.Given as goal

abbrev pub invariant-loop-fpr : goal.invariant-loop-fpr
invariant-loop-fpr g l = record {
  allowed : IsAllowed l.tried.engine l.tried.back;
  before : state_before l.tried ≡ l.fn.engine;
  found : l.losses ++ filter_map (loss_by l.fn.engine l.id l.user) (reverse l.left.items) ≡ critical l.fn.engine l.id l.user;
}

abbrev pub decreases-loop-fpr : goal.decreases-loop-fpr
decreases-loop-fpr g l = length l.left.items
