use Rattle.std.proofs.Common.{◌≡◌, ◌+◌, ◌≤◌, suc, length, take, sym, ap, subst, ◌∙◌, arith}
use Rattle.wot_live.specs.Counts.{AreCountedAt}
use Rattle.wot_levels.specs.Frontier.{weight}
use Rattle.wot_levels.proofs.Weights.{take_all, weight_both, weight_one, weight_take}
use Rattle.wot_live.specs.Recounting.{ids_at}
use Rattle.wot_live.proofs.Passes.{take_at}
use Rattle.wot_live.proofs.Recounts.{counted_both}
use Rattle.wot_live.proofs.count_listed.recount.Goals as goal

pub returns-in_err-counts-clause-ticks : goal.returns-in_err-counts-clause-ticks
returns-in_err-counts-clause-ticks g c =
    let keys = c.args.state.now.keys in
    let todo = c.args.todo.now in
    let i = c.loop-i.i in
    let both = weight_both keys (take i todo) (ids_at todo i) in
    let next = ap (weight keys) (take_at todo i) in
    let within = weight_take keys todo (suc i) in
    let sofar = c.loop-i.invariant.ticks in
    let here = ap (weight keys) c.id.ensures in
    let one = weight_one keys c.id.result in
    let cost = c.recount_key.ensures.ticks in
    omega (arith, both, next, within, here, one, sofar, cost)

pub loop-i-preserved : goal.loop-i-preserved
loop-i-preserved g c =
    let keys = c.args.state.now.keys in
    let todo = c.args.todo.now in
    let i = c.loop-i.i in
    let one : i + 1 ≡ suc i = omega arith in
    let next = ap (λ k. take k todo) one ∙ take_at todo i in
    let both = weight_both keys (take i todo) (ids_at todo i) in
    let there = ap (weight keys) next in
    let sofar = c.loop-i.invariant.ticks in
    let here = ap (weight keys) c.id.ensures in
    let single = weight_one keys c.id.result in
    let cost = c.in_ok-counts.ensures.ticks in
    let step = subst (λ ids. AreCountedAt c.args.state.now c.args.rows.now ids c.loop-i.counts c.in_ok-counts.counts) (sym c.id.ensures) c.in_ok-counts.ensures.counts in
    let all = counted_both c.args.state.now c.args.rows.now (take i todo) (ids_at todo i) c.args.counts c.loop-i.counts c.in_ok-counts.counts c.loop-i.invariant.counts step in
    record {
      counts = subst (λ ids. AreCountedAt c.args.state.now c.args.rows.now ids c.args.counts c.in_ok-counts.counts) (sym next) all;
      ticks = omega (arith, both, there, here, single, sofar, cost);
    }

pub returns-clause-counts : goal.returns-clause-counts
returns-clause-counts g c =
    let todo = c.args.todo.now in
    let whole : length todo ≤ c.loop-i.i = let many = c.len-count.ensures.len in let test = c.loop-i-test.false in omega (arith, many, test) in
    subst (λ ids. AreCountedAt c.args.state.now c.args.rows.now ids c.args.counts c.loop-i.counts) (take_all todo c.loop-i.i whole) c.loop-i.invariant.counts

pub returns-clause-ticks : goal.returns-clause-ticks
returns-clause-ticks g c =
    let within = weight_take c.args.state.now.keys c.args.todo.now c.loop-i.i in
    let sofar = c.loop-i.invariant.ticks in
    omega (arith, within, sofar)
