use Rattle.std.proofs.Common.{◌+◌, ◌<◌, ◌≤◌, false, drop, get_or, length, sym, ◌∙◌, arith}
use Rattle.std.proofs.lemmas.List.{length-take-le}
use Rattle.wot_regex.proofs.Followings.{rows_taken, going_byte, going_ends, going_on, going_over}
use Rattle.wot_regex.proofs.followers.search_sets.Goals as goal

pub loop-b-init : goal.loop-b-init
loop-b-init c = λ tree cells found is same holds searching. record { cells = cells; same = same; holds = holds; searching = searching }

pub returns-then-row : goal.returns-then-row
returns-then-row c = λ tree cells found is same holds searching.
    let nodes = c.args.nodes.now in
    let text = c.args.rest.now in
    let i = c.loop-b.b-index in
    let room : length nodes ≤ length c.args.followers.now.rows = omega (arith, c.requires.room) in
    let lt : i < length text = omega arith in
    let g = going_byte tree nodes false c.loop-b.marks.words text i found lt (c.loop-b.invariant tree cells found is same holds searching) in
    going_ends tree nodes false c.loop-b.marks.words (drop (i + 1) text) found (get_or text i 0) c.row_from-row.result is g (c.row_from-row.ensures nodes g.cells (sym (length-take-le (length nodes) c.args.followers.now.rows room)) (rows_taken nodes c.args.followers.now.common c.args.followers.now.rows room c.requires.followers.rows) g.same g.holds) c.if-row.true

pub loop-b-preserved : goal.loop-b-preserved
loop-b-preserved c = λ tree cells found is same holds searching.
    let nodes = c.args.nodes.now in
    let text = c.args.rest.now in
    let i = c.loop-b.b-index in
    let room : length nodes ≤ length c.args.followers.now.rows = omega (arith, c.requires.room) in
    let lt : i < length text = omega arith in
    let b = get_or text i 0 in
    let g = going_byte tree nodes false c.loop-b.marks.words text i found lt (c.loop-b.invariant tree cells found is same holds searching) in
    going_on tree nodes false c.loop-b.marks.words c.meet.new.self.words _ (drop (i + 1) text) found b c.row_from-row.result c.requires.room is g (c.row_from-row.ensures nodes g.cells (sym (length-take-le (length nodes) c.args.followers.now.rows room)) (rows_taken nodes c.args.followers.now.common c.args.followers.now.rows room c.requires.followers.rows) g.same g.holds)
    c.if-row.false (c.requires.followers.each_mask b _ (omega arith)) c.meet.ensures

pub returns : goal.returns
returns c = λ tree cells found is same holds searching.
    let nodes = c.args.nodes.now in
    let text = c.args.rest.now in
    let i = c.loop-b.b-index in
    let le : length text ≤ i = omega arith in
    let g = c.loop-b.invariant tree cells found is same holds searching in
    c.ends.ensures g.cells g.same g.holds ∙ going_over tree nodes false c.loop-b.marks.words text i found is le g
