use Rattle.std.proofs.Common.{false, ◌<◌, ◌/◌, ◌%◌, length, sym, ◌∙◌, arith}
use Rattle.std.proofs.lemmas.List.{length-set}
use Rattle.wot_regex.specs.Following.{Holds, IsRow, cells_by, in_eight}
use Rattle.wot_regex.proofs.Eights.{holds_these}
use Rattle.wot_regex.proofs.Followings.{set_more}
use Rattle.wot_regex.proofs.Stepping.{cells_by_length}
use Rattle.wot_regex.proofs.table.fill.Goals as goal

pub loop-k-preserved : goal.loop-k-preserved
loop-k-preserved c =
    let nodes = c.args.nodes.now in
    let k = c.loop-k.k in
    let marks = in_eight (k % 64) (k / 64) in
    let lt : k < length c.loop-k.table = omega (arith, c.loop-k.invariant.same) in
    let holds : Holds c.of_eight.result.words (cells_by marks (length nodes)) = holds_these c.of_eight.result.words marks (length nodes) c.requires.room c.of_eight.ensures in
    let row : IsRow nodes false (cells_by marks (length nodes)) c.row_by_places.result =
    c.row_by_places.ensures nodes (cells_by marks (length nodes)) (sym c.requires.whole) c.requires.rows (cells_by_length marks (length nodes)) holds in
    record {
      same = length-set c.loop-k.table k c.row_by_places.result ∙ c.loop-k.invariant.same;
      noted = set_more (λ j r. IsRow nodes false (cells_by (in_eight (j % 64) (j / 64)) (length nodes)) r) c.loop-k.table k c.row_by_places.result lt c.loop-k.invariant.noted row;
    }

pub returns : goal.returns
returns c = λ k d lt. c.loop-k.invariant.noted k d (omega arith)
