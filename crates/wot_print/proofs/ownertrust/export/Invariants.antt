use Rattle.std.proofs.Common.{◌≡◌, ◌++◌}
use Rattle.std.specs.List.{flat_map}
use Rattle.wot_types.specs.Ownertrust.{ownertrust_line, ownertrust_text}
use Rattle.wot_print.proofs.ownertrust.export.Given as goal

abbrev pub invariant-loop-fpr : goal.invariant-loop-fpr
invariant-loop-fpr l = l.text ++ flat_map ownertrust_line l.fpr-iterator ≡ ownertrust_text l.engine.trusts
