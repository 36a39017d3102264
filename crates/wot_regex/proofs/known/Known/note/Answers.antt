use Rattle.std.proofs.Common.{◌≡◌, ◌+◌, ◌-◌, ◌<◌, ℕ, length, get_or, sym, subst, arith}
use Rattle.wot_regex.specs.States.{IsMove}
use Rattle.wot_regex.specs.declared.set.Set.{Set}
use Rattle.wot_regex.proofs.Knowns.{move_noted}
use Rattle.wot_regex.proofs.known.Known.note.Goals as goal

pub returns-then-class-lt-FEW-clause-known : goal.returns-then-class-lt-FEW-clause-known
returns-then-class-lt-FEW-clause-known c =
    let known = c.requires.known in
    let at = c.args.at in
    let class = c.args.class in
    let to = c.args.to in
    let sets = c.args.self.now.masks.sets.items in
    let states = c.args.self.now.states.items in
    let whole : 0 + class ≡ class = omega arith in
    let P : ℕ → Type 0 = λ k. 0 < to → (d : Set) → IsMove states at (get_or sets k d) to in
    let Q : ℕ → Type 0 = λ k. k < length sets in
    record {
      room = known.room;
      rows = known.rows;
      whole = known.whole;
      masks = known.masks;
      states = known.states;
      found = known.found;
      moves =
          move_noted sets states 0 c.args.self.now.moves.items at c.index_mut.result.now class to known.moves c.requires.there (omega arith) (subst Q (sym whole) c.requires.class)
          c.index_mut.ensures.value (subst P (sym whole) c.requires.moves);
      further = known.further;
      table = known.table;
    }

pub returns-else-class-lt-FEW-clause-known : goal.returns-else-class-lt-FEW-clause-known
returns-else-class-lt-FEW-clause-known c =
    let known = c.requires.known in
    let at = c.args.at in
    let class = c.args.class in
    let to = c.args.to in
    let sets = c.args.self.now.masks.sets.items in
    let states = c.args.self.now.states.items in
    let whole : 32 + (class - 32) ≡ class = omega (arith, c.if-class-lt-FEW.false) in
    let P : ℕ → Type 0 = λ k. 0 < to → (d : Set) → IsMove states at (get_or sets k d) to in
    let Q : ℕ → Type 0 = λ k. k < length sets in
    record {
      room = known.room;
      rows = known.rows;
      whole = known.whole;
      masks = known.masks;
      states = known.states;
      found = known.found;
      moves = known.moves;
      further =
          move_noted sets states 32 c.args.self.now.further.items at c.index_mut-else-class-lt-FEW.result.now (class - 32) to known.further c.requires.there (omega (arith, c.requires.few)) (subst Q (sym whole) c.requires.class)
          c.index_mut-else-class-lt-FEW.ensures.value (subst P (sym whole) c.requires.moves);
      table = known.table;
    }
