use Rattle.std.proofs.Common.{◌≡◌, ◌+◌, ◌≤◌, suc, length, take, refl, sym, ap, subst, ◌∙◌, arith}
use Rattle.wot_levels.specs.Frontier.{weight}
use Rattle.wot_levels.proofs.Weights.{take_all, weight_both, weight_one, weight_take}
use Rattle.wot_live.specs.Recounting.{IsRecounted, ids_at}
use Rattle.wot_live.proofs.Passes.{both_steps, fresh_at, no_step, only_at, take_at}
use Rattle.wot_live.proofs.row_changes.recount_all.Goals as goal

pub loop-id-init : goal.loop-id-init
loop-id-init g c =
    let t = c.args.state.now in
    record {
      pass = no_step t c.args.level c.args.course.moved.before c.args.course.rows c.args.course.todo c.args.course.moved.here;
      before = refl;
      due = λ ids due. due;
      within = λ within. within;
      ticks = omega arith;
      unread = λ _. refl;
    }

pub returns-in_err-course-clause-ticks : goal.returns-in_err-course-clause-ticks
returns-in_err-course-clause-ticks g c =
    let keys = c.args.state.now.keys in
    let ids = c.args.ids.now in
    let i = c.loop-id.id-index in
    let both = weight_both keys (take i ids) (ids_at ids i) in
    let next = ap (weight keys) (take_at ids i) in
    let within = weight_take keys ids (suc i) in
    let here = ap (weight keys) (only_at ids i c.id-item.result c.loop-id-test.true c.id-item.is) in
    let single = weight_one keys c.id-item.result in
    let sofar = c.loop-id.invariant.ticks in
    let cost = c.recount_key.ensures.ticks in
    omega (arith, both, next, within, here, single, sofar, cost)

pub loop-id-preserved : goal.loop-id-preserved
loop-id-preserved g c =
    let t = c.args.state.now in
    let keys = c.args.state.now.keys in
    let n = c.args.level in
    let rows = c.args.course.rows in
    let todo = c.args.course.todo in
    let ids = c.args.ids.now in
    let i = c.loop-id.id-index in
    let now = c.loop-id.course in
    let new = c.in_ok-course.course in
    let inv = c.loop-id.invariant in
    let only = only_at ids i c.id-item.result c.loop-id-test.true c.id-item.is in
    let moved = c.args.course.moved.before in
    let here = c.args.course.moved.here in
    let one_step = subst (λ xs. IsRecounted t n now.moved.before xs now.rows now.todo now.moved.here new.rows new.todo new.moved.here) (sym only) c.in_ok-course.ensures.step in
    let step = subst (λ m. IsRecounted t n m (ids_at ids i) now.rows now.todo now.moved.here new.rows new.todo new.moved.here) inv.before one_step in
    let all = both_steps t n moved (take i ids) (ids_at ids i) rows now.rows new.rows todo now.todo new.todo here now.moved.here new.moved.here inv.pass step (λ x its. fresh_at ids i x c.requires.distinct its) in
    let one : i + 1 ≡ suc i = omega arith in
    let next = ap (λ k. take k ids) one ∙ take_at ids i in
    let both = weight_both keys (take i ids) (ids_at ids i) in
    let there = ap (weight keys) next in
    let at = ap (weight keys) only in
    let single = weight_one keys c.id-item.result in
    let sofar = inv.ticks in
    let cost = c.in_ok-course.ensures.ticks in
    record {
      pass = subst (λ xs. IsRecounted t n moved xs rows todo here new.rows new.todo new.moved.here) (sym next) all;
      before = c.in_ok-course.ensures.before ∙ inv.before;
      due = λ xs due. c.in_ok-course.ensures.due xs (inv.due xs due);
      within = λ within. c.in_ok-course.ensures.within (inv.within within);
      ticks = omega (arith, there, both, at, single, sofar, cost);
      unread = λ zero. c.in_ok-course.ensures.unread zero ∙ inv.unread zero;
    }

pub returns-clause-pass : goal.returns-clause-pass
returns-clause-pass g c =
    let t = c.args.state.now in
    let ids = c.args.ids.now in
    let whole : length ids ≤ c.loop-id.id-index = omega (arith, c.loop-id-test.false) in
    let old = c.args.course in
    let new = c.loop-id.course in
    subst (λ xs. IsRecounted t c.args.level old.moved.before xs old.rows old.todo old.moved.here new.rows new.todo new.moved.here) (take_all ids c.loop-id.id-index whole) c.loop-id.invariant.pass

pub returns-clause-ticks : goal.returns-clause-ticks
returns-clause-ticks g c =
    let within = weight_take c.args.state.now.keys c.args.ids.now c.loop-id.id-index in
    let sofar = c.loop-id.invariant.ticks in
    omega (arith, within, sofar)
