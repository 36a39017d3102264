use Rattle.std.proofs.Common.{◌≡◌, ◌*◌, get_or, take, sym, ap, ◌∙◌, arith}
use Rattle.std.specs.Fork.{slice_chunk}
use Rattle.std.specs.List.{flat_map}
use Rattle.std.proofs.lemmas.Option.{slice_get-get_or}
use Rattle.wot_print.specs.declared.counts.LetterCounts.{LetterCounts}
use Rattle.wot_print.specs.Counts.{counts_of}
use Rattle.wot_print.proofs.Counting.{all_pieces, one_piece_more}
use Rattle.wot_print.proofs.workers.count_of_pieces.Goals as goal

pub loop-counts-init : goal.loop-counts-init
loop-counts-init c = λ letters size ids by some.
    let none : 0 * size ≡ 0 = omega arith in
    c.new-all.ensures ∙ ap (λ k. counts_of (flat_map letters (take k ids))) (sym none)

pub loop-counts-preserved : goal.loop-counts-preserved
loop-counts-preserved c = λ letters size ids by some.
    let i = c.loop-counts.counts-index in
    let found = c.args.found.now in
    let none : LetterCounts = record { ultimate = 0; full = 0; marginal = 0; undefined = 0; unknown = 0; revoked = 0; expired = 0 } in
    c.add_all.ensures (flat_map letters (take (i * size) ids)) (flat_map letters (slice_chunk ids size i)) (c.loop-counts.invariant letters size ids by some)
    (by.each i (get_or found i none) (slice_get-get_or found i none c.loop-counts-test.true))
    ∙ ap counts_of (one_piece_more letters size ids i)

pub returns : goal.returns
returns c = λ letters size ids by some.
    c.loop-counts.invariant letters size ids by some
    ∙ ap counts_of (all_pieces letters size ids c.args.found.now c.loop-counts.counts-index by some (omega (arith, c.loop-counts-test.false)))
