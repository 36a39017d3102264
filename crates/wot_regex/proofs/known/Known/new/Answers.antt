use Rattle.std.proofs.Common.{rules, ◌≡◌, ◌<◌, false, get_or, ◌++◌, ◌∷◌, [], None, List, ℕ, length, replicate, set, refl, ap, ◌∙◌, sym, subst}
use Rattle.std.proofs.lemmas.List.{take_at}
use Rattle.wot_regex.specs.Following.{AreSteps, IsRow, only}
use Rattle.wot_regex.specs.States.{AreFound, IsMoves, IsStates}
use Rattle.wot_regex.specs.declared.followers.Row.{Row}
use Rattle.wot_regex.specs.declared.known.State.{State}
use Rattle.wot_regex.proofs.Knowns.{first_found, first_state, length_blank, no_moves, one_state}
use Rattle.wot_regex.proofs.known.Known.new.Goals as goal

pub returns : goal.returns
returns c =
    let nodes = c.args.nodes.now in
    let start : State = record { marks = record { words = replicate 8 0 }; row = c.blank_row.result; found_at_end = None } in
    let P : List State → Type 0 = λ s. IsStates nodes s in
    let Q : List State → Type 0 = λ s. IsMoves c.new.result.sets.items s 0 c.push-2.new.self.items in
    let U : List State → Type 0 = λ s. IsMoves c.new.result.sets.items s 32 c.push-3.new.self.items in
    let R : List (List ℕ) → Type 0 = λ m. IsMoves c.new.result.sets.items (start ∷ []) 0 m in
    let V : List (List ℕ) → Type 0 = λ m. IsMoves c.new.result.sets.items (start ∷ []) 32 m in
    let F : List State → Type 0 = λ s. AreFound s (set (replicate 256 false) 0 start.row.found) in
    let states = c.in_ok-push.ensures.items ∙ ap (λ x. x ++ start ∷ []) c.new-states.ensures.items in
    let moves = c.in_ok-push-2.ensures.items ∙ ap (λ x. x ++ replicate 32 0 ∷ []) c.new-moves.ensures.items in
    let further = c.in_ok-push-3.ensures.items ∙ ap (λ x. x ++ replicate 32 0 ∷ []) c.new-further.ensures.items in
    let noted : length c.note_rows.new.rows ≡ length c.deref_mut.result.now = search rules in
    let made : c.in_ok-rows.rows.items ≡ replicate (length nodes) c.blank_row-first.result = c.in_ok-rows.ensures.items_if_clones_equal (λ y e. e) in
    let len : length c.note_rows.new.rows ≡ c.in_ok-rows.rows.len = search rules in
    let items = take_at c.note_rows.new.rows _ c.in_ok-rows.rows.len len in
    let T : List Row → Type 0 = λ r. (i : ℕ) (d : Row) → i < length nodes → IsRow nodes false (only (length nodes) i) (get_or r i d) in
    let S : List Row → Type 0 = λ r. AreSteps c.blank_row-first.result c.steps_of-steps.result r in
    record {
      room = c.requires.room;
      rows = record { none = c.blank_row-first.ensures; each = subst T (sym items) c.note_rows.ensures; steps = subst S c.deref.ensures.value c.steps_of-steps.ensures };
      whole = ap length items ∙ noted ∙ ap length (c.deref_mut.ensures.value ∙ made) ∙ length_blank (length nodes) c.blank_row-first.result;
      masks = c.new.ensures nodes;
      states = subst P (sym states) (one_state nodes start (first_state nodes start refl refl c.blank_row.ensures) refl);
      found = subst F (sym states) (first_found start);
      moves = subst Q (sym states) (subst R (sym moves) (no_moves c.new.result.sets.items start 0));
      further = subst U (sym states) (subst V (sym further) (no_moves c.new.result.sets.items start 32));
      table = tt;
    }
