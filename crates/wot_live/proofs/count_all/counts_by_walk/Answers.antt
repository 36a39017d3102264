use Rattle.std.proofs.Common.{ℕ, sym, ap, subst, ◌∙◌, arith}
use Rattle.std.proofs.lemmas.List.Sums.{sum_by-cons}
use Rattle.wot_types.specs.declared.key.Key.{Key}
use Rattle.wot_types.specs.Keyring.{cert_total, key_certs}
use Rattle.wot_levels.proofs.Halfway.{WalksOn}
use Rattle.wot_levels.proofs.WalksOn.{walk_all, walk_start}
use Rattle.wot_live.proofs.AllCounts.{all_certs_left, counts_by, left_certs, walk_counted}
use Rattle.wot_live.proofs.count_all.counts_by_walk.Goals as goal

pub loop-keyblock-init : goal.loop-keyblock-init
loop-keyblock-init g c =
    let s = c.args.state.now in
    let table = c.table-table.result.now in
    let rule = counts_by s c.args.rows.now in
    let left = c.into_iter-keyblock-iterator.result in
    let all = c.into_iter-keyblock-iterator.ensures.into_iter_gives ∙ c.walk-keyblock-items.ensures.whole in
    let start = subst (λ left. WalksOn rule table left c.new-counts.result) (sym all) (subst (WalksOn rule table _) (sym c.new-counts.ensures) (walk_start rule table c.walk-keyblock-items.ensures.found)) in
    record {
      counts = subst (λ m. WalksOn rule m left c.new-counts.result) c.table-table.ensures start;
      ticks = let certs = ap left_certs all ∙ all_certs_left table ∙ ap cert_total c.table-table.ensures in omega (arith, certs);
    }

pub returns-in_err-count_keyblock-clause-ticks : goal.returns-in_err-count_keyblock-clause-ticks
returns-in_err-count_keyblock-clause-ticks g c =
    let one = ap left_certs c.in-Some.ensures.steps ∙ sum_by-cons (λ (e : ℕ × Key). key_certs e.1) c.in-Some.keyblock c.next.new.self in
    let sofar = c.loop-keyblock.invariant.ticks in
    let cost = c.count_keyblock.ensures.ticks in
    omega (arith, one, sofar, cost)

pub loop-keyblock-preserved : goal.loop-keyblock-preserved
loop-keyblock-preserved g c =
    let s = c.args.state.now in
    let keys = s.keys in
    let rows = c.args.rows.now in
    let rule = counts_by s rows in
    let e = c.in-Some.keyblock in
    let old = c.loop-keyblock.counts in
    let left = subst (λ left. WalksOn rule keys left old) c.in-Some.ensures.steps c.loop-keyblock.invariant.counts in
    let one = ap left_certs c.in-Some.ensures.steps ∙ sum_by-cons (λ (e : ℕ × Key). key_certs e.1) e c.next.new.self in
    let sofar = c.loop-keyblock.invariant.ticks in
    let cost = c.in_ok-count_keyblock.ensures.ticks in
    record {
      counts = subst (WalksOn rule keys c.next.new.self) (sym c.in_ok-count_keyblock.ensures.counts) (walk_counted s rows e c.next.new.self old left);
      ticks = omega (arith, one, sofar, cost);
    }

pub returns-clause-counts : goal.returns-clause-counts
returns-clause-counts g c =
    let keys = c.args.state.now.keys in
    let rule = counts_by c.args.state.now c.args.rows.now in
    walk_all rule keys c.loop-keyblock.counts (subst (λ left. WalksOn rule keys left c.loop-keyblock.counts) c.in-None.ensures.steps.0 c.loop-keyblock.invariant.counts)

pub returns-clause-ticks : goal.returns-clause-ticks
returns-clause-ticks g c = let sofar = c.loop-keyblock.invariant.ticks in omega (arith, sofar)
