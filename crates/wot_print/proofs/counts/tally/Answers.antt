use Rattle.std.proofs.Common.{◌≡◌, ap, ◌∙◌}
use Rattle.std.proofs.lemmas.Result.{IfOk-weaker}
use Rattle.wot_types.specs.Levels.{rows_of}
use Rattle.wot_types.specs.Tally.{tally_line}
use Rattle.wot_print.specs.Counts.{counts_line}
use Rattle.wot_print.proofs.Counting.{line_is}
use Rattle.wot_print.proofs.counts.tally.Goals as goal

pub returns : goal.returns
returns c =
    let s = c.args.engine.now in
    let found = c.count_letters-counts.result in
    IfOk-weaker c.counts_line.result
    (λ text. text.items ≡ counts_line c.rows.result.now found)
    (λ text. text.items ≡ tally_line s (rows_of s))
    (λ text is. is ∙ ap (λ rows. counts_line rows found) c.rows.ensures ∙ ap (counts_line (rows_of s)) c.count_letters-counts.ensures ∙ line_is s (rows_of s))
    c.counts_line.ensures
