use Rattle.std.proofs.Common.{arith}
use Rattle.wot_fields.proofs.ColonLemmas.{later, ended, found, cleared_ahead}
use Rattle.wot_fields.proofs.colons.Colons.next.Goals as goal

pub returns-then-line-block-le32-clause-first : goal.returns-then-line-block-le32-clause-first
returns-then-line-block-le32-clause-first c from start h =
    ended c.args.line.now c.loop-bits.block c.loop-bits.bits from (c.loop-bits.invariant.1 from h) c.loop-bits-test.true (omega arith) start

pub loop-bits-preserved : goal.loop-bits-preserved
loop-bits-preserved c = (
  omega arith,
  λ from h. later c.args.line.now c.loop-bits.block c.loop-bits.bits from (c.loop-bits.invariant.1 from h) c.loop-bits-test.true (omega arith) c.marks_from-bits.result c.marks_from-bits.ensures,
)

pub returns-clause-first : goal.returns-clause-first
returns-clause-first c from start h =
    found c.args.line.now c.loop-bits.block c.loop-bits.bits from (c.loop-bits.invariant.1 from h) c.lowest-k.result c.lowest-k.ensures.set c.lowest-k.ensures.below

pub returns-clause-ahead : goal.returns-clause-ahead
returns-clause-ahead c from more h =
    cleared_ahead c.args.line.now c.loop-bits.block c.loop-bits.bits from (c.loop-bits.invariant.1 from h) c.lowest-k.result c.lowest-k.ensures.set c.lowest-k.ensures.below
    c.without.result c.without.ensures.cleared c.without.ensures.kept c.without.ensures.no_more
