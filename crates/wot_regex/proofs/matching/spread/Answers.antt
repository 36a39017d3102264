use Rattle.std.proofs.Common.{◌≡◌, ◌+◌, ◌-◌, ◌<◌, ◌≤◌, ◌∷◌, drop, length, arith}
use Rattle.wot_regex.specs.Gathering.{back_at}
use Rattle.wot_regex.proofs.Spreads.{spread_few_by, spread_rest, spread_step}
use Rattle.wot_regex.proofs.matching.spread.Goals as goal

pub loop-i-preserved : goal.loop-i-preserved
loop-i-preserved c =
    let n = length c.args.nodes.now in
    let i = c.loop-i.i in
    let invariant = c.loop-i.invariant in
    let some : 0 < i = omega arith in
    let le : i ≤ n = omega arith in
    let same : length c.loop-i.cells ≡ n = omega arith in
    let e = c.spread_one.ensures (drop i c.loop-i.cells) in
    let few : length c.loop-i.entries ≤ (n + 1) - i = omega (arith, invariant.few) in
    let one : 1 ≤ (n + 1) - i = omega arith in
    let more : length c.spread_one.new.entries ≤ ((n + 1) - i) + 1 =
    spread_few_by c.args.b ((n + 1) - i) _ _ (back_at c.loop-i.entries c.loop-i.member (drop i c.loop-i.cells)) c.spread_one.new.entries c.spread_one.new.member (c.spread_one.result ∷ drop i c.loop-i.cells) e few one in
    record {
      few = omega (arith, more);
      behind = spread_step c.args.b c.args.nodes.now c.args.cells.now c.loop-i.cells i some le same c.requires.same invariant.rest c.loop-i.entries c.spread_one.new.entries c.loop-i.member c.spread_one.new.member c.spread_one.result _ _ invariant.behind e;
      rest = spread_rest c.args.b c.args.nodes.now c.args.cells.now c.loop-i.cells i some le same c.requires.same invariant.rest c.spread_one.result;
    }
