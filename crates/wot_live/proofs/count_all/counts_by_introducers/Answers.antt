use Rattle.std.proofs.Common.{◌≤◌, ◌<◌, ◌+◌, ◌∷◌, [], length, nat_eq, take, ap, sym, subst, arith}
use Rattle.std.specs.FinMap as finmap
use Rattle.std.specs.List.{IsDistinct}
use Rattle.wot_levels.specs.Frontier.{AreCertified, weight}
use Rattle.wot_levels.proofs.Weights.{next_of, take_all, weight_both, weight_one, weight_take, weight_total}
use Rattle.wot_live.specs.Counts.{AreCountedAt}
use Rattle.wot_live.proofs.AllCounts.{counted_certified}
use Rattle.wot_live.proofs.Recounts.{counted_both}
use Rattle.wot_live.proofs.count_all.counts_by_introducers.Goals as goal

pub loop-id-init : goal.loop-id-init
loop-id-init g c = record {
  counts = λ x. ap (λ m. finmap.get m x) c.new-counts.ensures;
  ticks = omega arith;
}

pub returns-in_err-counts-clause-ticks : goal.returns-in_err-counts-clause-ticks
returns-in_err-counts-clause-ticks g c =
    let keys = c.args.state.now.keys in
    let ids = c.as_slice-id-items.result.now in
    let i = c.loop-id.id-index in
    let x = c.id-item.result in
    let inside : i < length ids = c.loop-id-test.true in
    let more = ap (weight keys) (next_of ids i x inside c.id-item.is) in
    let both = weight_both keys (take i ids) (x ∷ []) in
    let one = weight_one keys x in
    let within = weight_take keys ids (i + 1) in
    let all = weight_total keys ids (subst (IsDistinct nat_eq) (sym c.as_slice-id-items.ensures.value) c.in_ok-ids.ensures.distinct) in
    let sofar = c.loop-id.invariant.ticks in
    let cost = c.recount_key.ensures.ticks in
    omega (arith, more, both, one, within, all, sofar, cost)

pub loop-id-preserved : goal.loop-id-preserved
loop-id-preserved g c =
    let s = c.args.state.now in
    let keys = s.keys in
    let rows = c.args.rows.now in
    let ids = c.as_slice-id-items.result.now in
    let i = c.loop-id.id-index in
    let x = c.id-item.result in
    let new = c.in_ok-counts.counts in
    let inside : i < length ids = c.loop-id-test.true in
    let next = next_of ids i x inside c.id-item.is in
    let counted = counted_both s rows (take i ids) (x ∷ []) finmap.empty c.loop-id.counts new c.loop-id.invariant.counts c.in_ok-counts.ensures.counts in
    let more = ap (weight keys) next in
    let both = weight_both keys (take i ids) (x ∷ []) in
    let one = weight_one keys x in
    let sofar = c.loop-id.invariant.ticks in
    let cost = c.in_ok-counts.ensures.ticks in
    record {
      counts = subst (λ seen. AreCountedAt s rows seen finmap.empty new) (sym next) counted;
      ticks = omega (arith, more, both, one, sofar, cost);
    }

pub returns-clause-counts : goal.returns-clause-counts
returns-clause-counts g c =
    let s = c.args.state.now in
    let rows = c.args.rows.now in
    let ids = c.as_slice-id-items.result.now in
    let seen : length ids ≤ c.loop-id.id-index = omega (arith, c.loop-id-test.false) in
    counted_certified s rows ids (subst (λ m. AreCertified m rows ids) c.table-table.ensures (subst (AreCertified c.table-table.result.now rows) (sym c.as_slice-id-items.ensures.value) c.in_ok-ids.ensures.all)) c.loop-id.counts
    (subst (λ xs. AreCountedAt s rows xs finmap.empty c.loop-id.counts) (take_all ids c.loop-id.id-index seen) c.loop-id.invariant.counts)

pub returns-clause-ticks : goal.returns-clause-ticks
returns-clause-ticks g c =
    let keys = c.args.state.now.keys in
    let ids = c.as_slice-id-items.result.now in
    let within = weight_take keys ids c.loop-id.id-index in
    let all = weight_total keys ids (subst (IsDistinct nat_eq) (sym c.as_slice-id-items.ensures.value) c.in_ok-ids.ensures.distinct) in
    let sofar = c.loop-id.invariant.ticks in
    omega (arith, within, all, sofar)
