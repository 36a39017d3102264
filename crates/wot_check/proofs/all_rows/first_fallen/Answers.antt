use Rattle.std.proofs.Common.{◌∙◌, arith}
use Rattle.wot_check.proofs.Firsts.{fallen_here, stands_here, weight_on}
use Rattle.wot_check.proofs.all_rows.first_fallen.Goals as goal

pub returns-then-not-row_stands-clause-first : goal.returns-then-not-row_stands-clause-first
returns-then-not-row_stands-clause-first g c =
    let s = c.args.state.now in
    fallen_here s c.args.rows.now c.args.ids.now c.loop-id.id-index c.id-item.result c.row_stands.result c.loop-id-test.true c.id-item.is c.row_stands.ensures.stands c.if-not-row_stands.true
    ∙ c.loop-id.invariant.so_far

pub returns-then-not-row_stands-clause-ticks : goal.returns-then-not-row_stands-clause-ticks
returns-then-not-row_stands-clause-ticks g c =
    let one = weight_on c.args.state.now.keys c.args.ids.now c.loop-id.id-index c.id-item.result c.loop-id-test.true c.id-item.is in
    omega (arith, one, c.row_stands.ensures.ticks, c.loop-id.invariant.ticks)

pub loop-id-preserved : goal.loop-id-preserved
loop-id-preserved g c =
    let s = c.args.state.now in
    let one = weight_on s.keys c.args.ids.now c.loop-id.id-index c.id-item.result c.loop-id-test.true c.id-item.is in
    record {
      so_far =
          stands_here s c.args.rows.now c.args.ids.now c.loop-id.id-index c.id-item.result c.row_stands.result c.loop-id-test.true c.id-item.is c.row_stands.ensures.stands c.if-not-row_stands.false
          ∙ c.loop-id.invariant.so_far;
      ticks = omega (arith, one, c.row_stands.ensures.ticks, c.loop-id.invariant.ticks);
    }
