use Rattle.std.proofs.Common.{◌<◌, List, subst, sym, ap, ◌∙◌, arith}
use Rattle.std.specs.FinMap as finmap
use Rattle.wot_workers.specs.Pieces.{IsByPiece}
use Rattle.wot_print.specs.declared.counts.LetterCounts.{LetterCounts}
use Rattle.wot_print.specs.Counts.{counts_of}
use Rattle.wot_print.specs.KeyLetters.{letters_among, letters_at}
use Rattle.wot_print.proofs.Counting.{letters_of_all}
use Rattle.wot_print.proofs.workers.count_letters_by.Goals as goal

pub returns : goal.returns
returns g c =
    let s = c.args.state.now in
    let rows = c.args.rows.now in
    let size = c.piece_size-size.result in
    let ids = c.deref.result.now in
    let positive : 0 < size = omega (arith, c.piece_size-size.ensures.positive) in
    let all = c.deref.ensures.value ∙ c.in_ok-ids.ensures ∙ ap finmap.keys c.table.ensures in
    let by = subst (λ (made : List LetterCounts). IsByPiece (λ piece. counts_of (letters_among s rows piece)) size ids made) (sym c.deref-2.ensures.value) c.in_ok-found.ensures in
    c.count_of_pieces.ensures (letters_at s rows) size ids by positive
    ∙ ap (λ xs. counts_of (letters_among s rows xs)) all ∙ ap counts_of (letters_of_all s rows)
