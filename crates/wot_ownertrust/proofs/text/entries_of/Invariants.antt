use Rattle.std.proofs.Common.{◌≡◌, ◌++◌, map}
use Rattle.std.specs.FinMap as finmap
use Rattle.wot_types.specs.Ownertrust.{entry_of}
use Rattle.wot_ownertrust.proofs.text.entries_of.Given as goal

abbrev pub invariant-loop-fpr : goal.invariant-loop-fpr
invariant-loop-fpr l = l.listed ++ map entry_of l.fpr-iterator ≡ map entry_of (finmap.entries l.entries)
