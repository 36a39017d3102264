use Rattle.std.proofs.Common.{◌≡◌, ◌++◌, map}
use Rattle.std.specs.FinMap as finmap
use Rattle.wot_print.specs.OwnertrustWalk.{by_id, seen}
use Rattle.wot_print.proofs.ownertrust_walk.with_ids.Given as goal

abbrev pub invariant-loop-fpr : goal.invariant-loop-fpr
invariant-loop-fpr l = map seen l.entries.items ++ map by_id l.fpr-iterator ≡ map by_id (finmap.entries l.trusts)
