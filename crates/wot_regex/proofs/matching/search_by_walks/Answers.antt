use Rattle.std.proofs.Common.{◌+◌, ◌<◌, ◌≤◌, drop, get_or, length, sym, ◌∙◌, arith}
use Rattle.wot_regex.proofs.Searches.{at_byte, at_text_end, found_at_end, found_here, search_on}
use Rattle.wot_regex.proofs.matching.search_by_walks.Goals as goal

pub loop-b-init : goal.loop-b-init
loop-b-init c = λ tree found nodes searching. searching

pub returns-then-exits : goal.returns-then-exits
returns-then-exits c = λ tree found nodes searching.
    let text = c.args.rest.now in
    let i = c.loop-b.b-index in
    let lt : i < length text = omega arith in
    let here = at_byte tree c.args.nodes.now c.loop-b.cells c.loop-b.start text i found lt (c.loop-b.invariant tree found nodes searching) in
    found_here tree c.args.nodes.now c.loop-b.cells c.loop-b.start (get_or text i 0) (drop (i + 1) text) found c.gather-reach.result nodes here c.gather-reach.ensures.reached (sym c.exits.ensures ∙ c.if-exits.true)

pub loop-b-preserved : goal.loop-b-preserved
loop-b-preserved c = λ tree found nodes searching.
    let text = c.args.rest.now in
    let i = c.loop-b.b-index in
    let lt : i < length text = omega arith in
    let here = at_byte tree c.args.nodes.now c.loop-b.cells c.loop-b.start text i found lt (c.loop-b.invariant tree found nodes searching) in
    search_on tree c.args.nodes.now c.loop-b.cells c.gather-reach.new.cells c.spread.new.cells c.loop-b.start (get_or text i 0) (drop (i + 1) text) found c.gather-reach.result nodes here
    c.gather-reach.ensures.reached (sym c.exits.ensures ∙ c.if-exits.false) c.gather-reach.ensures.cells c.spread.ensures

pub returns : goal.returns
returns c = λ tree found nodes searching.
    let text = c.args.rest.now in
    let i = c.loop-b.b-index in
    let le : length text ≤ i = omega arith in
    let here = at_text_end tree c.args.nodes.now c.loop-b.cells c.loop-b.start text i found le (c.loop-b.invariant tree found nodes searching) in
    c.exits-2.ensures ∙ found_at_end tree c.args.nodes.now c.loop-b.cells c.loop-b.start found c.gather.result nodes here c.gather.ensures.reached
