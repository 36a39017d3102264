use Rattle.std.proofs.Common.{refl, arith}
use Rattle.wot_types.specs.Touched.{certs_on, is_touched}
use Rattle.wot_live.proofs.EditLemmas.{lent_list, listed_bound}
use Rattle.wot_live.proofs.Rounds.{once_more}
use Rattle.wot_live.proofs.Recounts.{counts_final}
use Rattle.wot_live.proofs.uncounted.recounted.Goals as goal

pub returns-in_err-found-clause-ticks : goal.returns-in_err-found-clause-ticks
returns-in_err-found-clause-ticks g c = λ s names due.
    let t = c.args.state.now in
    let start = lent_list refl due in
    let cost = c.recount_levels.ensures.ticks s names start.0 start.1 in
    let more = once_more t.options.depth (certs_on (is_touched names s t) t.keys) in
    omega (arith, cost, more)

pub returns-in_err-counts-clause-ticks : goal.returns-in_err-counts-clause-ticks
returns-in_err-counts-clause-ticks g c = λ s names due.
    let t = c.args.state.now in
    let found = c.in_ok-found.ensures in
    let start = lent_list refl due in
    listed_bound s t t names c.in_ok-found.found.todo c.args.steps.now c.recount_levels.new.steps c.recount.new.steps refl c.recount.ensures.distinct
    (found.touched s names start.0 start.1) (found.ticks s names start.0 start.1) c.recount.ensures.ticks

pub returns-clause-counted : goal.returns-clause-counted
returns-clause-counted g c = λ s names due.
    let t = c.args.state.now in
    let named = c.args.named in
    let done = c.in_ok-found.ensures.counted s (lent_list {t = t} refl due).0 in
    record {
      ranges = c.requires.ranges;
      rows = done.rows;
      counts = counts_final s t named.list c.in_ok-found.found.todo named.rows c.in_ok-found.found.rows due.begun done named.counts c.in_ok-counts.counts due.counts c.in_ok-counts.ensures.counts;
    }

pub returns-clause-ticks : goal.returns-clause-ticks
returns-clause-ticks g c = λ s names due.
    let t = c.args.state.now in
    let found = c.in_ok-found.ensures in
    let start = lent_list refl due in
    listed_bound s t t names c.in_ok-found.found.todo c.args.steps.now c.recount_levels.new.steps c.recount.new.steps refl c.in_ok-counts.ensures.distinct
    (found.touched s names start.0 start.1) (found.ticks s names start.0 start.1) c.in_ok-counts.ensures.ticks
