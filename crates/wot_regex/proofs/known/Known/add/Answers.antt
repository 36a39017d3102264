use Rattle.std.proofs.Common.{rules, ◌≡◌, ap, ◌++◌, ◌∷◌, [], None, List, ℕ, length, set, refl, ◌∙◌, sym, subst}
use Rattle.wot_regex.specs.Following.{IsRows}
use Rattle.wot_regex.specs.States.{AreFound, IsMoves, IsStates}
use Rattle.wot_regex.specs.declared.followers.Row.{Row}
use Rattle.wot_regex.specs.declared.known.State.{State}
use Rattle.wot_regex.proofs.Knowns.{found_behind, found_more, moves_more, moves_of_more, new_state, states_more}
use Rattle.wot_regex.proofs.known.Known.add.Goals as goal

pub returns-in_err-push-2-clause-known : goal.returns-in_err-push-2-clause-known
returns-in_err-push-2-clause-known c =
    let known = c.requires.known in
    let sets = c.args.self.now.masks.sets.items in
    let states = c.args.self.now.states.items in
    let M : List (List ℕ) → Type 0 = λ m. IsMoves sets states 0 m in
    let N : List (List ℕ) → Type 0 = λ m. IsMoves sets states 32 m in
    record {
      room = known.room;
      rows = known.rows;
      whole = known.whole;
      masks = known.masks;
      states = known.states;
      found = known.found;
      moves = subst M (sym c.in_ok-push.ensures.items) (moves_more _ _ _ _ known.moves);
      further = subst N (sym c.in_err-push-2.ensures.items) known.further;
      table = known.table;
    }

pub returns-in_err-push-3-clause-known : goal.returns-in_err-push-3-clause-known
returns-in_err-push-3-clause-known c =
    let known = c.requires.known in
    let sets = c.args.self.now.masks.sets.items in
    let states = c.args.self.now.states.items in
    let P : List State → Type 0 = λ s. IsStates c.args.nodes.now s in
    let Q : List State → Type 0 = λ s. IsMoves sets s 0 c.push.new.self.items in
    let T : List State → Type 0 = λ s. IsMoves sets s 32 c.push-2.new.self.items in
    let M : List (List ℕ) → Type 0 = λ m. IsMoves sets states 0 m in
    let N : List (List ℕ) → Type 0 = λ m. IsMoves sets states 32 m in
    let F : List State → Type 0 = λ s. AreFound s (set c.args.self.now.found c.len-to.result c.row_from-row.result.found) in
    let G : ℕ → Type 0 = λ to. AreFound states (set c.args.self.now.found to c.row_from-row.result.found) in
    let last : c.len-to.result ≡ length states = search rules in
    record {
      room = known.room;
      rows = known.rows;
      whole = known.whole;
      masks = known.masks;
      states = subst P (sym c.in_err-push-3.ensures.items) known.states;
      found = subst F (sym c.in_err-push-3.ensures.items) (subst G (sym last) (found_behind states c.args.self.now.found c.row_from-row.result.found known.found));
      moves = subst Q (sym c.in_err-push-3.ensures.items) (subst M (sym c.in_ok-push.ensures.items) (moves_more _ _ _ _ known.moves));
      further = subst T (sym c.in_err-push-3.ensures.items) (subst N (sym c.in_ok-push-2.ensures.items) (moves_more _ _ _ _ known.further));
      table = known.table;
    }

pub returns-clause-known : goal.returns-clause-known
returns-clause-known c =
    let known = c.requires.known in
    let nodes = c.args.nodes.now in
    let sets = c.args.self.now.masks.sets.items in
    let states = c.args.self.now.states.items in
    let moves = c.args.self.now.moves.items in
    let further = c.args.self.now.further.items in
    let state : State = record { marks = c.args.marks; row = c.row_from-row.result; found_at_end = None } in
    let P : List State → Type 0 = λ s. IsStates nodes s in
    let Q : List State → Type 0 = λ s. IsMoves sets s 0 c.push.new.self.items in
    let T : List State → Type 0 = λ s. IsMoves sets s 32 c.push-2.new.self.items in
    let M : List (List ℕ) → Type 0 = λ m. IsMoves sets (states ++ state ∷ []) 0 m in
    let N : List (List ℕ) → Type 0 = λ m. IsMoves sets (states ++ state ∷ []) 32 m in
    let S : List Row → Type 0 = λ r. IsRows nodes c.args.self.now.common r in
    let F : List State → Type 0 = λ s. AreFound s (set c.args.self.now.found c.len-to.result state.row.found) in
    let G : ℕ → Type 0 = λ to. AreFound (states ++ state ∷ []) (set c.args.self.now.found to state.row.found) in
    let last : c.len-to.result ≡ length states = search rules in
    record {
      room = known.room;
      rows = known.rows;
      whole = known.whole;
      masks = known.masks;
      states =
          subst P (sym c.in_ok-push-3.ensures.items)
          (states_more nodes states state known.states c.requires.few (new_state nodes state refl (λ cells same holds. c.row_from-row.ensures nodes cells (sym (ap length c.deref.ensures.value ∙ known.whole)) (subst S (sym c.deref.ensures.value) known.rows) same holds)));
      found = subst F (sym c.in_ok-push-3.ensures.items) (subst G (sym last) (found_more states state c.args.self.now.found known.found c.requires.few));
      moves = subst Q (sym c.in_ok-push-3.ensures.items) (subst M (sym c.in_ok-push.ensures.items) (moves_of_more sets states state 0 moves known.moves));
      further = subst T (sym c.in_ok-push-3.ensures.items) (subst N (sym c.in_ok-push-2.ensures.items) (moves_of_more sets states state 32 further known.further));
      table = known.table;
    }
