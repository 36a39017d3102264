use Rattle.std.proofs.Common.{◌≡◌, ◌+◌, ◌<◌, ◌≤◌, Some, drop, get_or, length, sym, ap, ◌∙◌, arith}
use Rattle.wot_types.specs.ExpressionReading.{after, opening_state}
use Rattle.wot_regex.specs.Taking.{taken, when}
use Rattle.wot_regex.proofs.Takings.{reading_ends, reading_goes_on, reading_next, reading_over}
use Rattle.wot_regex.proofs.expr.read_nodes.Goals as goal

pub loop-b-preserved : goal.loop-b-preserved
loop-b-preserved c =
    let scope = c.args.scope.now in
    let i = c.loop-b.b-index in
    let lt : i < length scope = omega arith in
    let reader = c.loop-b.reader in
    let reader' = c.take-goes_on.new.self in
    let here = reading_next reader scope i (after opening_state scope) lt c.loop-b.invariant.reads in
    let went : Some reader' ≡ taken reader (get_or scope i 0) = ap (λ t. when t reader') (sym c.if-not-goes_on.false) ∙ c.take-goes_on.ensures.value in
    record {
      room = omega (arith, c.loop-b.invariant.room, c.take-goes_on.ensures.grows);
      depth = omega (arith, c.loop-b.invariant.depth, c.take-goes_on.ensures.deeper);
      reads = reading_goes_on reader reader' (get_or scope i 0) (drop (i + 1) scope) (after opening_state scope) here went;
    }

pub returns : goal.returns
returns c =
    let scope = c.args.scope.now in
    let i = c.loop-b.b-index in
    let le : length scope ≤ i = omega arith in
    c.finish.ensures ∙ reading_ends c.loop-b.reader (after opening_state scope) (reading_over c.loop-b.reader scope i (after opening_state scope) le c.loop-b.invariant.reads)
