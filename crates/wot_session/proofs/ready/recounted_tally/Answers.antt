use Rattle.std.proofs.Common.{◌++◌, ap, ◌∙◌}
use Rattle.wot_types.specs.Levels.{rows_of}
use Rattle.wot_types.specs.Tally.{tally_line}
use Rattle.wot_session.proofs.ready.recounted_tally.Goals as goal

pub returns : goal.returns
returns g c =
    let s = c.args.state.now in
    c.in_ok-extend_from_slice.ensures.items
    ∙ ap (λ front. front ++ c.as_slice.result.now) (c.in_ok-text.ensures ∙ ap (tally_line s) c.in_ok-rows.ensures)
    ∙ ap (λ back. tally_line s (rows_of s) ++ back) (c.as_slice.ensures.value ∙ c.in_ok-last_line.ensures)
