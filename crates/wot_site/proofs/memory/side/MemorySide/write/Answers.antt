use Rattle.std.proofs.Common.{ap, arith, length}
use Rattle.wot_site.specs.MemorySide.{Bytes}
use Rattle.wot_site.proofs.Pending.{kept_here}
use Rattle.wot_site.proofs.memory.side.MemorySide.write.Goals as goal

pub invariant_of-self-2 : goal.invariant_of-self-2
invariant_of-self-2 c =
    let s = c.self.inside in
    let long = ap (λ (b : Bytes). length b.reads) c.self.view_is in
    kept_here s.reads.items s.synced.items c.in_ok-next.next.items s.pending.items c.push.new.self.items c.args.at c.args.bytes.now
    (rw c.deref.ensures.value at c.in_ok-next.ensures) c.in_ok-push.ensures.items (omega (arith, long, c.requires)) c.self.invariant
