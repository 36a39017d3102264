use Rattle.std.proofs.Common.{◌≤◌, ◌<◌, ◌+◌, ◌∷◌, [], get_or, length, take, ap, sym, subst, ◌∙◌, arith}
use Rattle.wot_levels.specs.Frontier.{IsLookedAt, weight}
use Rattle.wot_levels.proofs.Among.{Contains_among}
use Rattle.wot_levels.proofs.Frontiers.{both_looks, look_with, no_look}
use Rattle.wot_levels.proofs.Weights.{next_of, take_all, weight_both, weight_one, weight_take}
use Rattle.wot_levels.proofs.by_level.next_level.Goals as goal

pub loop-id-init : goal.loop-id-init
loop-id-init g c =
    let rows = c.args.reached.rows in
    record {
      looked_at = subst (λ next. IsLookedAt c.args.state.now c.args.level [] rows [] rows next) (sym c.new.ensures.items) (no_look c.args.state.now c.args.level rows []);
      ticks = omega arith;
    }

pub returns-in_err-new-clause-ticks : goal.returns-in_err-new-clause-ticks
returns-in_err-new-clause-ticks g c =
    let keys = c.args.state.now.keys in
    let ids = c.args.reached.next.items in
    let i = c.loop-id.id-index in
    let x = c.id-item.result in
    let inside : i < length ids = subst (λ xs. i < length xs) c.as_slice-id-items.ensures.value c.loop-id-test.true in
    let more = ap (weight keys) (next_of ids i x inside (c.id-item.is ∙ ap (λ xs. get_or xs i x) c.as_slice-id-items.ensures.value)) in
    let both = weight_both keys (take i ids) (x ∷ []) in
    let one = weight_one keys x in
    let within = weight_take keys ids (i + 1) in
    let sofar = c.loop-id.invariant.ticks in
    let cost = c.with_key.ensures.ticks in
    omega (arith, more, both, one, within, sofar, cost)

pub loop-id-preserved : goal.loop-id-preserved
loop-id-preserved g c =
    let s = c.args.state.now in
    let ids = c.args.reached.next.items in
    let i = c.loop-id.id-index in
    let x = c.id-item.result in
    let now = c.loop-id.new in
    let new = c.in_ok-new.new in
    let inside : i < length ids = subst (λ xs. i < length xs) c.as_slice-id-items.ensures.value c.loop-id-test.true in
    let next = next_of ids i x inside (c.id-item.is ∙ ap (λ xs. get_or xs i x) c.as_slice-id-items.ensures.value) in
    let look = both_looks s c.args.level (take i ids) (x ∷ []) c.args.reached.rows now.rows new.rows [] now.next.items new.next.items c.loop-id.invariant.looked_at c.in_ok-new.ensures.looked_at in
    let more = ap (weight s.keys) next in
    let both = weight_both s.keys (take i ids) (x ∷ []) in
    let one = weight_one s.keys x in
    let sofar = c.loop-id.invariant.ticks in
    let cost = c.in_ok-new.ensures.ticks in
    record {
      looked_at = subst (λ seen. IsLookedAt s c.args.level seen c.args.reached.rows [] new.rows new.next.items) (sym next) look;
      ticks = omega (arith, more, both, one, sofar, cost);
    }

pub returns-clause-looked_at : goal.returns-clause-looked_at
returns-clause-looked_at g c =
    let s = c.args.state.now in
    let ids = c.args.reached.next.items in
    let rows = c.args.reached.rows in
    let new = c.loop-id.new in
    let seen : length ids ≤ c.loop-id.id-index = subst (λ xs. length xs ≤ c.loop-id.id-index) c.as_slice-id-items.ensures.value (omega (arith, c.loop-id-test.false)) in
    look_with s c.args.level ids rows [] new.rows new.next.items c.each_once.result.items (λ x. Contains_among new.next.items c.each_once.result.items x (c.each_once.ensures.same x))
    (subst (λ xs. IsLookedAt s c.args.level xs rows [] new.rows new.next.items) (take_all ids c.loop-id.id-index seen) c.loop-id.invariant.looked_at)

pub returns-clause-ticks : goal.returns-clause-ticks
returns-clause-ticks g c =
    let within = weight_take c.args.state.now.keys c.args.reached.next.items c.loop-id.id-index in
    let sofar = c.loop-id.invariant.ticks in
    omega (arith, within, sofar)
