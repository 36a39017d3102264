use Rattle.std.proofs.Common.{◌∙◌, ap, arith, length}
use Rattle.wot_site.specs.MemorySide.{Bytes, disk}
use Rattle.wot_site.proofs.Pending.{filling_next, filling_whole, filling_image, filling_filled}
use Rattle.wot_site.proofs.memory.side.MemorySide.with_fill.Goals as goal

pub loop-range-preserved : goal.loop-range-preserved
loop-range-preserved c = filling_next c.args.byte c.args.self.now.reads c.loop-range.image.items c.fill_range.new.bytes.items c.deref-range-items.result.now c.args.self.now.pending c.loop-range.range-index (record { at = 0; len = 0 })
    (c.deref-range-items.ensures.value ∙ ap (λ (b : Bytes). b.pending) c.self.view_is) c.loop-range-test.true c.loop-range.invariant c.fill_range.ensures.length c.fill_range.ensures.kept c.fill_range.ensures.filled

pub returns-clause-image : goal.returns-clause-image
returns-clause-image c =
    let synced = ap (λ (b : Bytes). length b.synced) c.self.view_is in
    let reads = ap (λ (b : Bytes). length b.reads) c.self.view_is in
    filling_image c.args.byte (disk c.args.self.now) c.loop-range.image.items (omega (arith, synced, reads, c.self.invariant.no_longer))
    (filling_whole c.args.byte c.args.self.now.reads c.loop-range.image.items c.deref-range-items.result.now c.args.self.now.pending c.loop-range.range-index
    (c.deref-range-items.ensures.value ∙ ap (λ (b : Bytes). b.pending) c.self.view_is) c.loop-range-test.false c.loop-range.invariant)

pub returns-clause-which : goal.returns-clause-which
returns-clause-which c =
    filling_filled c.args.byte (disk c.args.self.now) c.loop-range.image.items
    (filling_whole c.args.byte c.args.self.now.reads c.loop-range.image.items c.deref-range-items.result.now c.args.self.now.pending c.loop-range.range-index
    (c.deref-range-items.ensures.value ∙ ap (λ (b : Bytes). b.pending) c.self.view_is) c.loop-range-test.false c.loop-range.invariant)
