use Rattle.std.proofs.Common.{◌≡◌, ◌+◌, ◌-◌, ◌<◌, ◌≤◌, ◌==◌, ◌&&◌, Bool, drop, false, List, ◌∷◌, ℕ, length, get_or, ap, ◌∙◌, sym, subst, arith}
use Rattle.std.proofs.lemmas.List.{length-drop, take_all}
use Rattle.wot_types.specs.Scope.{matches_in}
use Rattle.wot_regex.specs.Following.{Holds, IsMeet, has}
use Rattle.wot_regex.specs.Searching.{Searching}
use Rattle.wot_regex.specs.declared.known.State.{State}
use Rattle.wot_regex.proofs.Followings.{Going, going_byte, going_ends, going_on, going_over}
use Rattle.wot_regex.proofs.Knowns.{begun, one_of}
use Rattle.wot_regex.proofs.known.Known.matches.Goals as goal

pub loop-i-init : goal.loop-i-init
loop-i-init c = record {
  known = c.requires.known;
  there = c.requires.known.states.some;
  rest = λ tree d is. begun tree c.args.text.now c.args.nodes.now _ is (c.requires.known.states.blank d);
}

pub returns-then-self-at-clause-found : goal.returns-then-self-at-clause-found
returns-then-self-at-clause-found c = λ tree is.
    let nodes = c.args.nodes.now in
    let text = c.args.text.now in
    let i = c.loop-i.i in
    let at = c.loop-i.at in
    let invariant = c.loop-i.invariant in
    let d = one_of c.loop-i.self.states.items at invariant.there in
    let state = get_or c.loop-i.self.states.items at d in
    let g = going_byte tree nodes (at == 0) state.marks.words text i (matches_in tree text) c.loop-i-test.true (invariant.rest tree d is) in
    going_ends tree nodes (at == 0) state.marks.words (drop (i + 1) text) (matches_in tree text) (get_or text i 0) state.row is g ((invariant.known.states.each at d invariant.there).row g.cells g.same g.holds)
    (sym (invariant.known.found.each at d invariant.there) ∙ c.if-self-at.true)

pub returns-then-next-eq0-clause-found : goal.returns-then-next-eq0-clause-found
returns-then-next-eq0-clause-found c = λ tree is.
    let nodes = c.args.nodes.now in
    let text = c.args.text.now in
    let i = c.loop-i.i in
    let at = c.loop-i.at in
    let found = matches_in tree text in
    let invariant = c.loop-i.invariant in
    let d = one_of c.loop-i.self.states.items at invariant.there in
    let state = get_or c.loop-i.self.states.items at d in
    let kept = c.next-next.ensures.kept.same at d invariant.there in
    let g = going_byte tree nodes (at == 0) state.marks.words text i found c.loop-i-test.true (invariant.rest tree d is) in
    let P : State → Type 0 = λ s. Holds s.marks.words g.cells in
    let Q : List ℕ → Type 0 = λ x. Searching tree g.cells (at == 0) (get_or text i 0 ∷ x) found in
    let few : length (drop (i + 1) text) ≤ length text - (i + 1) = omega (arith, length-drop (i + 1) text) in
    c.search_rest.ensures.found tree d g.cells found is g.same (subst P (sym kept) g.holds) (ap (λ (s : State). s.row.found) kept ∙ sym (invariant.known.found.each at d invariant.there) ∙ c.if-self-at.false)
    (subst Q (sym (take_all (length text - (i + 1)) (drop (i + 1) text) few)) g.searching)

pub loop-i-preserved : goal.loop-i-preserved
loop-i-preserved c =
    let some : 0 < c.next-next.result = omega (arith, c.if-next-eq0.false) in
    let led = c.next-next.ensures.moves some in
    let invariant = c.loop-i.invariant in
    let later : (c.next-next.result == 0) ≡ false = grind (arith, some) in
    record {
      known = c.next-next.ensures.known;
      there = led.move.to_one;
      rest = λ tree d is.
          let nodes = c.args.nodes.now in
          let text = c.args.text.now in
          let i = c.loop-i.i in
          let at = c.loop-i.at in
          let e = one_of c.loop-i.self.states.items at invariant.there in
          let found = matches_in tree text in
          let state = get_or c.loop-i.self.states.items at e in
          let new = get_or c.next-next.new.self.states.items c.next-next.result d in
          let kept = c.next-next.ensures.kept.same at e invariant.there in
          let g = going_byte tree nodes (at == 0) state.marks.words text i found c.loop-i-test.true (invariant.rest tree e is) in
          let met : IsMeet new.marks.words state.row.next.words led.mask.words = λ j less. led.move.met e d j less ∙ ap (λ (s : State). has s.row.next.words j && has led.mask.words j) kept in
          let P : Bool → Type 0 = λ b. Going tree nodes b new.marks.words (drop (i + 1) text) found in
          subst P (sym later)
          (going_on tree nodes (at == 0) state.marks.words new.marks.words led.mask.words (drop (i + 1) text) found (get_or text i 0) state.row c.requires.room is g ((invariant.known.states.each at e invariant.there).row g.cells g.same g.holds)
          (sym (invariant.known.found.each at e invariant.there) ∙ c.if-self-at.false) led.takes met);
    }

pub returns-clause-found : goal.returns-clause-found
returns-clause-found c = λ tree is.
    let invariant = c.loop-i.invariant in
    let at = c.loop-i.at in
    let text = c.args.text.now in
    let d = one_of c.loop-i.self.states.items at invariant.there in
    let g = invariant.rest tree d is in
    let le : length text ≤ c.loop-i.i = omega (arith, c.loop-i-test.false) in
    c.ends.ensures.found d g.cells g.same g.holds ∙ going_over tree c.args.nodes.now (at == 0) (get_or c.loop-i.self.states.items at d).marks.words text c.loop-i.i (matches_in tree text) is le g
