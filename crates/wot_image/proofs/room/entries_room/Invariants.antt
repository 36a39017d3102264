use Rattle.std.specs.FinMap as finmap
use Rattle.wot_image.proofs.Rooms.{IsRoomed}
use Rattle.wot_image.proofs.room.entries_room.Given as goal

abbrev pub invariant-loop-fpr : goal.invariant-loop-fpr
invariant-loop-fpr l = IsRoomed (finmap.entries l.trusts) l.fpr-iterator l.room
