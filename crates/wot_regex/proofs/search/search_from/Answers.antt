use Rattle.std.proofs.Common.{◌+◌, ◌<◌, ◌≤◌, false, drop, get_or, length, ◌∙◌, arith}
use Rattle.wot_regex.proofs.Followings.{going_byte, going_ends, going_on, going_over}
use Rattle.wot_regex.proofs.Knowns.{keeps_all, keeps_on}
use Rattle.wot_regex.proofs.search.search_from.Goals as goal

pub loop-b-init : goal.loop-b-init
loop-b-init c = record {
  masks = c.requires.masks;
  kept = keeps_all c.args.masks.now.sets.items;
  rest = λ tree cells found is same holds searching. record { cells = cells; same = same; holds = holds; searching = searching };
}

pub returns-then-row-clause-found : goal.returns-then-row-clause-found
returns-then-row-clause-found c = λ tree cells found is same holds searching.
    let nodes = c.args.nodes.now in
    let text = c.args.rest.now in
    let i = c.loop-b.b-index in
    let lt : i < length text = omega arith in
    let g = going_byte tree nodes false c.loop-b.marks.words text i found lt (c.loop-b.invariant.rest tree cells found is same holds searching) in
    going_ends tree nodes false c.loop-b.marks.words (drop (i + 1) text) found (get_or text i 0) c.row_by-row.result is g (c.row_by-row.ensures g.cells g.same g.holds) c.if-row.true

pub loop-b-preserved : goal.loop-b-preserved
loop-b-preserved c = record {
  masks = c.mask.ensures.masks;
  kept = keeps_on c.loop-b.invariant.kept c.mask.ensures.kept;
  rest = λ tree cells found is same holds searching.
      let nodes = c.args.nodes.now in
      let text = c.args.rest.now in
      let i = c.loop-b.b-index in
      let lt : i < length text = omega arith in
      let b = get_or text i 0 in
      let g = going_byte tree nodes false c.loop-b.marks.words text i found lt (c.loop-b.invariant.rest tree cells found is same holds searching) in
      going_on tree nodes false c.loop-b.marks.words c.meet.new.self.words _ (drop (i + 1) text) found b c.row_by-row.result c.requires.room is g (c.row_by-row.ensures g.cells g.same g.holds)
      c.if-row.false c.mask.ensures.takes c.meet.ensures;
}

pub returns-clause-found : goal.returns-clause-found
returns-clause-found c = λ tree cells found is same holds searching.
    let nodes = c.args.nodes.now in
    let text = c.args.rest.now in
    let i = c.loop-b.b-index in
    let le : length text ≤ i = omega arith in
    let g = c.loop-b.invariant.rest tree cells found is same holds searching in
    c.ends.ensures g.cells g.same g.holds ∙ going_over tree nodes false c.loop-b.marks.words text i found is le g
