use Rattle.std.proofs.Common.{◌+◌, ◌<◌, length, get_or, subst, sym, arith}
use Rattle.std.proofs.lemmas.List.{get_or-set_same}
use Rattle.wot_fields.specs.Colons.{IsAhead}
use Rattle.wot_fields.proofs.FieldStartLemmas.{starts_more, starts_last}
use Rattle.wot_fields.proofs.fields.Fields.new.Goals as goal

pub next-end-requires : goal.next-end-requires
next-end-requires c = c.loop-count.invariant.1

pub overflow_add-starts : goal.overflow_add-starts
overflow_add-starts c =
    let within = c.next-end.ensures.within (get_or c.loop-count.starts c.loop-count.count 0) c.loop-count.invariant.2 in
    omega (arith, within)

pub invariant_of-result : goal.invariant_of-result
invariant_of-result c =
    let start = get_or c.loop-count.starts c.loop-count.count 0 in
    let h = c.loop-count.invariant.0 in
    let first = c.next-end.ensures.first start h.start c.loop-count.invariant.2 in
    starts_last c.args.line.now c.loop-count.starts c.loop-count.count c.next-end.result.0 h (omega arith) first c.if-end-line.true

pub loop-count-preserved : goal.loop-count-preserved
loop-count-preserved c =
    let start = get_or c.loop-count.starts c.loop-count.count 0 in
    let end = c.next-end.result.0 in
    let h = c.loop-count.invariant.0 in
    let ahead = c.loop-count.invariant.2 in
    let first = c.next-end.ensures.first start h.start ahead in
    let less : c.next-end.result.0 < length c.args.line.now = omega (arith, c.next-end.ensures.within start ahead, c.if-end-line.false) in
    let next = get_or-set_same c.loop-count.starts (c.loop-count.count + 1) (end + 1) 0 (omega (arith, h.front.size)) in (
      starts_more c.args.line.now c.loop-count.starts c.loop-count.count end h (omega arith) first c.if-end-line.false,
      c.next-end.ensures.inside,
      subst (λ from. IsAhead c.args.line.now c.next-end.result.1.block c.next-end.result.1.bits from) (sym next) (c.next-end.ensures.ahead start less ahead),
    )
