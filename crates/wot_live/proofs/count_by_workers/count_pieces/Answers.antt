use Rattle.std.proofs.Common.{◌≡◌, IfOk, get_or, sym, subst, ◌∙◌}
use Rattle.wot_live.specs.FoundCounts.{kept_pairs}
use Rattle.wot_live.proofs.Results.{both_then}
use Rattle.wot_live.proofs.Merging.{by_piece}
use Rattle.wot_live.proofs.count_by_workers.count_pieces.Goals as goal

pub returns : goal.returns
returns g c =
    let s = c.args.state.now in
    let rows = c.args.rows.now in
    both_then c.map_chunks.result (λ found count each. by_piece s rows c.args.size c.args.ids.now found.items (sym found.ok.0 ∙ count) (λ n d inside.
    let one = (each n d inside).1 in
    subst (λ piece. IfOk (get_or found.items n d) (λ pairs. pairs.items ≡ kept_pairs s rows piece)) one.argument_is.value one.call))
    c.map_chunks.ensures.len c.map_chunks.ensures.each
