use Rattle.std.proofs.Common.{take}
use Rattle.wot_live.specs.Recounting.{IsGrownBy, among}
use Rattle.wot_live.proofs.worklist.Worklist.add_all.Given as goal

abbrev pub invariant-loop-id : goal.invariant-loop-id
invariant-loop-id l = IsGrownBy (among (take l.id-index l.ids)) l.fn.self l.list
