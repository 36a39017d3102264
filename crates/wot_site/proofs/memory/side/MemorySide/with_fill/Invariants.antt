use Rattle.std.proofs.Common.{take}
use Rattle.wot_site.proofs.Pending.{Filling}
use Rattle.wot_site.proofs.memory.side.MemorySide.with_fill.Given as goal

abbrev pub invariant-loop-range : goal.invariant-loop-range
invariant-loop-range l = Filling l.byte l.self.reads (take l.range-index l.self.pending) l.image.items
