use Rattle.std.proofs.Common.{◌-◌, ◌≤◌, false, List, ℕ, drop, get_or, length, refl, sym, ◌∙◌, subst, arith}
use Rattle.std.proofs.lemmas.List.{length-drop, take_all}
use Rattle.wot_regex.specs.Gathering.{all_spread, back_start}
use Rattle.wot_regex.specs.Searching.{Searching}
use Rattle.wot_regex.proofs.Followings.{holds_spread, spread_length}
use Rattle.wot_regex.proofs.Searches.{at_byte, found_here, search_on}
use Rattle.wot_regex.proofs.followers.search_long.Goals as goal

pub returns-then-exits : goal.returns-then-exits
returns-then-exits c = λ tree found is searching.
    let text = c.args.rest.now in
    found_here tree c.args.nodes.now c.args.cells.now c.args.start (get_or text 0 0) (drop 1 text) found c.gather.result is (at_byte tree c.args.nodes.now c.args.cells.now c.args.start text 0 found c.requires.some searching)
    c.gather.ensures.reached (sym c.exits.ensures ∙ c.if-exits.true)

pub returns : goal.returns
returns c = λ tree found is searching.
    let nodes = c.args.nodes.now in
    let text = c.args.rest.now in
    let b = get_or text 0 0 in
    let noted = c.gather.new.cells in
    let moved = (all_spread b nodes noted back_start).cells in
    let here = at_byte tree nodes c.args.cells.now c.args.start text 0 found c.requires.some searching in
    let later : Searching tree moved false (drop 1 text) found =
    search_on tree nodes c.args.cells.now noted moved c.args.start b (drop 1 text) found c.gather.result is here c.gather.ensures.reached (sym c.exits.ensures ∙ c.if-exits.false) c.gather.ensures.cells refl in
    let P : List ℕ → Type 0 = λ x. Searching tree moved false x found in
    let few : length (drop 1 text) ≤ length text - 1 = omega (arith, length-drop 1 text) in
    c.search_sets.ensures tree moved found is (spread_length b nodes noted) (holds_spread c.set_of-marks.result.words b nodes noted c.spread.new.cells c.spread.ensures c.set_of-marks.ensures)
    (subst P (sym (take_all (length text - 1) (drop 1 text) few)) later)
