use Rattle.std.proofs.Common.{◌≡◌, ap, ◌∙◌}
use Rattle.std.specs.FinMap as finmap
use Rattle.std.proofs.lemmas.Result.{IfOk-weaker}
use Rattle.wot_live.specs.Counts.{counts_over}
use Rattle.wot_live.proofs.Merging.{counts_of_all}
use Rattle.wot_live.proofs.count_by_workers.counts_by.Goals as goal

pub returns : goal.returns
returns g c =
    let s = c.args.state.now in
    let rows = c.args.rows.now in
    let ids = c.deref.result.now in
    let pairs = c.in_ok-pairs_by.field-0.items in
    let all = c.deref.ensures.value ∙ c.in_ok-ids.ensures ∙ ap finmap.keys c.table-table.ensures in
    IfOk-weaker c.of.result
    (λ counts. counts ≡ finmap.from_entries pairs)
    (λ counts. counts ≡ counts_over s rows)
    (λ counts is. counts_of_all s rows ids pairs counts all c.in_ok-pairs_by.ensures is)
    c.of.ensures
