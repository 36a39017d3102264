use Rattle.std.proofs.Common.{◌≡◌, ap, ◌∙◌}
use Rattle.std.proofs.lemmas.Result.{IfOk-weaker}
use Rattle.wot_types.specs.Tally.{tally_line}
use Rattle.wot_print.specs.Counts.{counts_line}
use Rattle.wot_print.proofs.Counting.{line_is}
use Rattle.wot_print.proofs.workers.tally_by.Goals as goal

pub returns : goal.returns
returns g c =
    let s = c.args.state.now in
    let rows = c.args.rows.now in
    IfOk-weaker c.counts_line.result
    (λ text. text.items ≡ counts_line rows c.in_ok-counts.counts)
    (λ text. text.items ≡ tally_line s rows)
    (λ text is. is ∙ ap (counts_line rows) c.in_ok-counts.ensures ∙ line_is s rows)
    c.counts_line.ensures
