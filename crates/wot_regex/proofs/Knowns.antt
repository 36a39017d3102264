-- What is known, with a class, a state or a move more.
use Rattle.std.proofs.Common.{◌≡◌, ◌+◌, ℕ, zero, suc, ◌<◌, ◌≤◌, ◌==◌, ◌⊎◌, inl, inr, Bool, true, false, ◌&&◌, List, [], ◌∷◌, ◌++◌, length, get_or, replicate, set, ◌≢◌, Option, None, Some, refl, sym, ap, ◌∙◌, subst, arith}
use Rattle.std.proofs.lemmas.Bool.{cases_eq, cases_lt}
use Rattle.std.proofs.lemmas.List.{get_or-set_other, get_or_append_left, get_or_at, get_or_default, length-append, length-set}
use Rattle.std.proofs.lemmas.Grind.{get_or-set_at}
use Rattle.wot_types.specs.Scope.{matches_in}
use Rattle.wot_types.specs.Expression.{Tree}
use Rattle.wot_types.specs.ExpressionMarks.{unmarked}
use Rattle.wot_regex.specs.Following.{Holds, IsMasks, IsRow, Keeps, has, taking}
use Rattle.wot_regex.specs.Knowing.{found_at}
use Rattle.wot_regex.specs.Reaching.{marked, nowhere}
use Rattle.wot_regex.specs.States.{AreFound, IsKnown, IsMove, IsMoves, IsState, IsStates}
use Rattle.wot_regex.specs.Table.{nodes_of}
use Rattle.wot_regex.specs.declared.followers.Row.{Row}
use Rattle.wot_regex.specs.declared.known.Known.{Known}
use Rattle.wot_regex.specs.declared.known.State.{State}
use Rattle.wot_regex.specs.declared.masks.Masks.{Masks}
use Rattle.wot_regex.specs.declared.node.Node.{Node}
use Rattle.wot_regex.specs.declared.reach.Reach.{Reach}
use Rattle.wot_regex.specs.declared.set.Set.{Set}
use Rattle.wot_regex.proofs.Followings.{Going, none_has, same_marks}
use Rattle.wot_regex.proofs.Tables.{blank_tree}

-- lists that keep what they had

pub keeps_all : {X : Type 0} (xs : List X) → Keeps xs xs
keeps_all xs = record { grown = omega arith; same = λ i d lt. refl }

pub keeps_more : {X : Type 0} (xs : List X) (x : X) → Keeps xs (xs ++ x ∷ [])
keeps_more xs x = record { grown = omega (arith, length-append xs (x ∷ [])); same = λ i d lt. get_or_append_left xs (x ∷ []) d i lt }

pub keeps_on : {X : Type 0} {xs ys zs : List X} → Keeps xs ys → Keeps ys zs → Keeps xs zs
keeps_on a b = record {
  grown = omega (arith, a.grown, b.grown);
  same = λ i d lt. b.same i d (omega (arith, lt, a.grown)) ∙ a.same i d lt;
}

-- the cells of a text's start

same_all : {X : Type 0} (x : X) (n i : ℕ) → get_or (replicate n x) i x ≡ x
same_all x zero i = refl
same_all x (suc n) zero = refl
same_all x (suc n) (suc i) = same_all x n i

pub length_blank : {X : Type 0} (n : ℕ) (x : X) → length (replicate n x) ≡ n
length_blank zero x = refl
length_blank (suc n) x = ap (λ k. suc k) (length_blank n x)

pub holds_blank : (words : List ℕ) (n : ℕ) → words ≡ replicate 8 0 → Holds words (replicate n nowhere)
holds_blank words n e i lt = same_all nowhere n i ∙ ap marked (sym (ap (λ w. has w i) e ∙ none_has i))

-- masks

-- no class is noted
pub no_masks : (nodes : List Node) (masks : Masks) → masks.classes ≡ replicate 256 None → IsMasks nodes masks
no_masks nodes masks e = record {
  within = λ b k h. absurd (no_class b k h);
  takes = λ b k d h. absurd (no_class b k h);
}
  where
    no_class : (b k : ℕ) → get_or masks.classes b None ≡ Some k → ⊥
    no_class b k h =
        let none : get_or masks.classes b None ≡ None = ap (λ (xs : List (Option ℕ)). get_or xs b None) e ∙ same_all None 256 b in
        let no : Some k ≡ None = sym h ∙ none in cc

-- of more sets
pub masks_kept : (nodes : List Node) (old new : Masks) → new.classes ≡ old.classes → Keeps old.sets.items new.sets.items → IsMasks nodes old → IsMasks nodes new
masks_kept nodes old new e keeps is = record {
  within = λ b k h. omega (arith, is.within b k (before b k h), keeps.grown);
  takes = λ b k d h.
      let P : Set → Type 0 = λ s. Holds s.words (taking nodes b) in
      subst P (sym (keeps.same k d (is.within b k (before b k h)))) (is.takes b k d (before b k h));
}
  where
    before : (b k : ℕ) → get_or new.classes b None ≡ Some k → get_or old.classes b None ≡ Some k
    before b k h = ap (λ (xs : List (Option ℕ)). get_or xs b None) (sym e) ∙ h

-- with the class of a byte more
module _ (nodes : List Node) (old new : Masks) (a class : ℕ) (e : new.classes ≡ set old.classes a (Some class)) (lt : a < length old.classes) (is : IsMasks nodes old) (keeps : Keeps old.sets.items new.sets.items) (there : class < length new.sets.items)
    (takes : (d : Set) → Holds (get_or new.sets.items class d).words (taking nodes a)) where
  abbrev IsClass : ℕ → Option ℕ → Type 0
  IsClass b noted = (k : ℕ) → noted ≡ Some k → (k < length new.sets.items) × ((d : Set) → Holds (get_or new.sets.items k d).words (taking nodes b))

  abbrev number_of : Option ℕ → ℕ
  number_of None = 0
  number_of (Some k) = k

  this_class : IsClass a (Some class)
  this_class k h =
      let P : ℕ → Type 0 = λ c. (c < length new.sets.items) × ((d : Set) → Holds (get_or new.sets.items c d).words (taking nodes a)) in
      subst P (ap number_of h) (there, takes)

  old_class : (b : ℕ) → IsClass b (get_or old.classes b None)
  old_class b k h = (
    omega (arith, is.within b k h, keeps.grown),
    λ d.
        let P : Set → Type 0 = λ s. Holds s.words (taking nodes b) in
        subst P (sym (keeps.same k d (is.within b k h))) (is.takes b k d h),
  )

  each_class : (b : ℕ) → (b ≡ a) ⊎ (b ≢ a) → IsClass b (get_or (set old.classes a (Some class)) b None)
  each_class b (inl same) =
      let P : Option ℕ → Type 0 = λ o. IsClass b o in
      let Q : ℕ → Type 0 = λ c. IsClass c (Some class) in
      subst P (sym (get_or-set_at old.classes a b (Some class) None same lt)) (subst Q (sym same) this_class)
  each_class b (inr other) =
      let P : Option ℕ → Type 0 = λ o. IsClass b o in
      subst P (sym (get_or-set_other old.classes a b (Some class) None other)) (old_class b)

  new_class : (b : ℕ) → IsClass b (get_or new.classes b None)
  new_class b =
      let P : List (Option ℕ) → Type 0 = λ xs. IsClass b (get_or xs b None) in
      subst P (sym e) (each_class b (cases_eq b a))

  pub class_more : IsMasks nodes new
  class_more = record {
    within = λ b k h. (new_class b k h).0;
    takes = λ b k d h. (new_class b k h).1 d;
  }

-- the first state

pub first_state : (nodes : List Node) (state : State) → state.marks.words ≡ replicate 8 0 → state.found_at_end ≡ None → IsRow nodes true (replicate (length nodes) nowhere) state.row → IsState nodes true state
first_state nodes state blank none row = record {
  row = λ cells same holds.
      let P : List Reach → Type 0 = λ x. IsRow nodes true x state.row in
      subst P (same_marks state.marks.words (replicate (length nodes) nowhere) cells (length_blank (length nodes) nowhere ∙ sym same) (holds_blank state.marks.words (length nodes) blank) holds) row;
  at_end = λ cells found same holds e. let no : Some found ≡ None = sym e ∙ none in cc;
}

pub one_state : (nodes : List Node) (state : State) → IsState nodes true state → state.marks.words ≡ replicate 8 0 → IsStates nodes (state ∷ [])
one_state nodes state is blank = record {
  some = omega arith;
  few = omega arith;
  blank = λ d. blank;
  each = each;
}
  where
    each : (i : ℕ) (d : State) → i < 1 → IsState nodes (i == 0) (get_or (state ∷ []) i d)
    each zero d h = is
    each (suc i) d h = let no : ⊥ = omega arith in absurd no

-- a state more

state_kept : (nodes : List Node) (states : List State) (state : State) → 0 < length states → ((i : ℕ) (d : State) → i < length states → IsState nodes (i == 0) (get_or states i d)) → IsState nodes false state
    → (i : ℕ) (d : State) → i < length (states ++ state ∷ []) → (i < length states) ⊎ (length states ≤ i) → IsState nodes (i == 0) (get_or (states ++ state ∷ []) i d)
state_kept nodes states state some each new i d lt (inl before) =
    let P : State → Type 0 = λ s. IsState nodes (i == 0) s in
    subst P (sym (get_or_append_left states (state ∷ []) d i before)) (each i d before)
state_kept nodes states state some each new i d lt (inr behind) =
    let last : length states ≡ i = omega (arith, length-append states (state ∷ [])) in
    let later : (i == 0) ≡ false = grind arith in
    let P : State → Type 0 = λ s. IsState nodes (i == 0) s in
    let Q : Bool → Type 0 = λ b. IsState nodes b state in
    subst P (sym (get_or_at states state [] d i last)) (subst Q (sym later) new)

pub states_more : (nodes : List Node) (states : List State) (state : State) → IsStates nodes states → length states < 256 → IsState nodes false state → IsStates nodes (states ++ state ∷ [])
states_more nodes states state known few new = record {
  some = omega (arith, length-append states (state ∷ []));
  few = omega (arith, length-append states (state ∷ []));
  blank = λ d. ap (λ (s : State). s.marks.words) (get_or_append_left states (state ∷ []) d 0 known.some) ∙ known.blank d;
  each = λ i d lt. state_kept nodes states state known.some known.each new i d lt (cases_lt i (length states));
}

pub new_state : (nodes : List Node) (state : State) → state.found_at_end ≡ None
    → ((cells : List Reach) → length cells ≡ length nodes → Holds state.marks.words cells → IsRow nodes false cells state.row) → IsState nodes false state
new_state nodes state none row = record {
  row = row;
  at_end = λ cells found same holds e. let no : Some found ≡ None = sym e ∙ none in cc;
}

-- whether a match ends at each state

-- noted behind them
pub found_behind : (states : List State) (found : List Bool) (ends : Bool) → AreFound states found → AreFound states (set found (length states) ends)
found_behind states found ends is = record {
  room = length-set found (length states) ends ∙ is.room;
  each = λ i d lt. get_or-set_other found (length states) i ends false (λ e. absurd (omega (arith, lt, e))) ∙ is.each i d lt;
}

found_at_last : (states : List State) (state : State) (found : List Bool) → AreFound states found → length states < 256 → (i : ℕ) (d : State) → i < length (states ++ state ∷ []) → (i < length states) ⊎ (length states ≤ i)
    → get_or (set found (length states) state.row.found) i false ≡ (get_or (states ++ state ∷ []) i d).row.found
found_at_last states state found is few i d lt (inl before) =
    (found_behind states found state.row.found is).each i d before ∙ ap (λ (s : State). s.row.found) (sym (get_or_append_left states (state ∷ []) d i before))
found_at_last states state found is few i d lt (inr behind) =
    let last : length states ≡ i = omega (arith, length-append states (state ∷ [])) in
    let there : length states < length found = omega (arith, is.room, few) in
    get_or-set_at found (length states) i state.row.found false (sym last) there ∙ ap (λ (s : State). s.row.found) (sym (get_or_at states state [] d i last))

pub found_more : (states : List State) (state : State) (found : List Bool) → AreFound states found → length states < 256 → AreFound (states ++ state ∷ []) (set found (length states) state.row.found)
found_more states state found is few = record {
  room = length-set found (length states) state.row.found ∙ is.room;
  each = λ i d lt. found_at_last states state found is few i d lt (cases_lt i (length states));
}

pub first_found : (state : State) → AreFound (state ∷ []) (set (replicate 256 false) 0 state.row.found)
first_found state =
    let none : AreFound [] (replicate 256 false) = record { room = refl; each = λ i d lt. let no : ⊥ = omega arith in absurd no } in
    found_more [] state (replicate 256 false) none (omega arith)

abbrev value_of : Option Bool → Bool
value_of None = false
value_of (Some b) = b

-- a state of which it becomes known whether a match ends there at the end of the text

module _ (nodes : List Node) (states : List State) (at : ℕ) (here : State) (found : Bool) (known : IsStates nodes states) (lt : at < length states) (is : here ≡ get_or states at here)
    (ends : (cells : List Reach) → length cells ≡ length nodes → Holds here.marks.words cells → found ≡ found_at nodes (at == 0) true cells) where
  abbrev pub told : State
  told = record here { found_at_end = Some found }

  abbrev pub told_states : List State
  told_states = set states at told

  pub told_length : length told_states ≡ length states
  told_length = length-set states at told

  pub told_marks : (i : ℕ) (d : State) → (i ≡ at) ⊎ (i ≢ at) → (get_or told_states i d).marks ≡ (get_or states i d).marks
  told_marks i d (inl e) =
      ap (λ (s : State). s.marks) (get_or-set_at states at i told d e lt)
      ∙ ap (λ (s : State). s.marks) (is ∙ get_or_default states at here d lt)
      ∙ ap (λ k. (get_or states k d).marks) (sym e)
  told_marks i d (inr other) = ap (λ (s : State). s.marks) (get_or-set_other states at i told d other)

  pub told_row : (i : ℕ) (d : State) → (i ≡ at) ⊎ (i ≢ at) → (get_or told_states i d).row ≡ (get_or states i d).row
  told_row i d (inl e) =
      ap (λ (s : State). s.row) (get_or-set_at states at i told d e lt)
      ∙ ap (λ (s : State). s.row) (is ∙ get_or_default states at here d lt)
      ∙ ap (λ k. (get_or states k d).row) (sym e)
  told_row i d (inr other) = ap (λ (s : State). s.row) (get_or-set_other states at i told d other)

  told_state : IsState nodes (at == 0) told
  told_state =
      let P : State → Type 0 = λ s. IsState nodes (at == 0) s in
      let old = subst P (sym is) (known.each at here lt) in record {
        row = old.row;
        at_end = λ cells f same holds e. sym (ap value_of e) ∙ ends cells same holds;
      }

  told_each : (i : ℕ) (d : State) → i < length states → (i ≡ at) ⊎ (i ≢ at) → IsState nodes (i == 0) (get_or told_states i d)
  told_each i d less (inl e) =
      let P : State → Type 0 = λ s. IsState nodes (i == 0) s in
      let Q : ℕ → Type 0 = λ k. IsState nodes (k == 0) told in
      subst P (sym (get_or-set_at states at i told d e lt)) (subst Q (sym e) told_state)
  told_each i d less (inr other) =
      let P : State → Type 0 = λ s. IsState nodes (i == 0) s in
      subst P (sym (get_or-set_other states at i told d other)) (known.each i d less)

  pub states_told : IsStates nodes told_states
  states_told = record {
    some = omega (arith, known.some, told_length);
    few = omega (arith, known.few, told_length);
    blank = λ d. ap (λ (s : Set). s.words) (told_marks 0 d (cases_eq 0 at)) ∙ known.blank d;
    each = λ i d less. told_each i d (omega (arith, less, told_length)) (cases_eq i at);
  }

  pub found_told : (ended : List Bool) → AreFound states ended → AreFound told_states ended
  found_told ended is_found = record {
    room = is_found.room;
    each = λ i d less. is_found.each i d (omega (arith, less, told_length)) ∙ ap (λ (r : Row). r.found) (sym (told_row i d (cases_eq i at)));
  }

  pub moves_told : (sets : List Set) (first : ℕ) (moves : List (List ℕ)) → IsMoves sets states first moves → IsMoves sets told_states first moves
  moves_told sets first moves is_moves = record {
    rows = omega (arith, is_moves.rows, told_length);
    class = is_moves.class;
    each = λ i k d h.
        let m = is_moves.each i k d h in
        let to = get_or (get_or moves i []) k 0 in record {
          from_one = omega (arith, m.from_one, told_length);
          to_one = omega (arith, m.to_one, told_length);
          met = λ a e j less.
              ap (λ (s : Set). has s.words j) (told_marks to e (cases_eq to at))
              ∙ m.met a e j less
              ∙ ap (λ (r : Row). has r.next.words j && has (get_or sets (first + k) d).words j) (sym (told_row i a (cases_eq i at)));
        };
  }

-- moves

move_kept : (states states' : List State) (from : ℕ) (mask : Set) (to : ℕ) → Keeps states states' → IsMove states from mask to → IsMove states' from mask to
move_kept states states' from mask to keeps m = record {
  from_one = omega (arith, m.from_one, keeps.grown);
  to_one = omega (arith, m.to_one, keeps.grown);
  met = λ d e j less.
      ap (λ (s : State). has s.marks.words j) (keeps.same to e m.to_one)
      ∙ m.met d e j less
      ∙ ap (λ (s : State). has s.row.next.words j && has mask.words j) (sym (keeps.same from d m.from_one));
}

-- of more sets and states
pub moves_kept : (sets sets' : List Set) (states states' : List State) (first : ℕ) (moves : List (List ℕ)) → Keeps sets sets' → Keeps states states' → length states' ≤ length moves → IsMoves sets states first moves → IsMoves sets' states' first moves
moves_kept sets sets' states states' first moves of_sets of_states rows is = record {
  rows = rows;
  class = λ i k h. omega (arith, is.class i k h, of_sets.grown);
  each = λ i k d h.
      let P : Set → Type 0 = λ s. IsMove states' i s (get_or (get_or moves i []) k 0) in
      subst P (sym (of_sets.same (first + k) d (is.class i k h))) (move_kept states states' i (get_or sets (first + k) d) (get_or (get_or moves i []) k 0) of_states (is.each i k d h));
}

same_moves : (moves : List (List ℕ)) (i k : ℕ) → get_or (get_or (moves ++ replicate 32 0 ∷ []) i []) k 0 ≡ get_or (get_or moves i []) k 0
same_moves [] zero k = same_all {X = ℕ} 0 32 k
same_moves [] (suc i) k = refl
same_moves (m ∷ ms) zero k = refl
same_moves (m ∷ ms) (suc i) k = same_moves ms i k

-- a row of which none is known
pub moves_more : (sets : List Set) (states : List State) (first : ℕ) (moves : List (List ℕ)) → IsMoves sets states first moves → IsMoves sets states first (moves ++ replicate 32 0 ∷ [])
moves_more sets states first moves is = record {
  rows = omega (arith, is.rows, length-append moves (replicate 32 0 ∷ []));
  class = λ i k h. is.class i k (let Q : ℕ → Type 0 = λ n. 0 < n in subst Q (same_moves moves i k) h);
  each = λ i k d h.
      let same = same_moves moves i k in
      let P : ℕ → Type 0 = λ n. IsMove states i (get_or sets (first + k) d) n in
      let Q : ℕ → Type 0 = λ n. 0 < n in
      subst P (sym same) (is.each i k d (subst Q same h));
}

-- a state more, and with it a row of which none is known
pub moves_of_more : (sets : List Set) (states : List State) (state : State) (first : ℕ) (moves : List (List ℕ)) → IsMoves sets states first moves → IsMoves sets (states ++ state ∷ []) first (moves ++ replicate 32 0 ∷ [])
moves_of_more sets states state first moves is =
    let room : length (states ++ state ∷ []) ≤ length (moves ++ replicate 32 0 ∷ []) = omega (arith, is.rows, length-append states (state ∷ []), length-append moves (replicate 32 0 ∷ [])) in
    moves_kept sets sets states (states ++ state ∷ []) first (moves ++ replicate 32 0 ∷ []) (keeps_all sets) (keeps_more states state) room (moves_more sets states first moves is)

-- what is known with more classes
pub classes_known : (nodes : List Node) (known : Known) (masks : Masks) → IsKnown nodes known → IsMasks nodes masks → Keeps known.masks.sets.items masks.sets.items → IsKnown nodes (record known { masks = masks })
classes_known nodes known masks is new keeps = record {
  room = is.room;
  rows = is.rows;
  whole = is.whole;
  masks = new;
  states = is.states;
  found = is.found;
  moves = moves_kept known.masks.sets.items masks.sets.items known.states.items known.states.items 0 known.moves.items keeps (keeps_all known.states.items) is.moves.rows is.moves;
  further = moves_kept known.masks.sets.items masks.sets.items known.states.items known.states.items 32 known.further.items keeps (keeps_all known.states.items) is.further.rows is.further;
  table = is.table;
}

-- the first row
pub no_moves : (sets : List Set) (state : State) (first : ℕ) → IsMoves sets (state ∷ []) first (replicate 32 0 ∷ [])
no_moves sets state first = record {
  rows = omega arith;
  class = λ i k h. let no : ⊥ = omega (arith, h, same_moves [] i k) in absurd no;
  each = λ i k d h. let no : ⊥ = omega (arith, h, same_moves [] i k) in absurd no;
}

-- a move more
module _ (sets : List Set) (states : List State) (first : ℕ) (moves : List (List ℕ)) (at : ℕ) (row : List ℕ) (class to : ℕ) (is : IsMoves sets states first moves) (lt : at < length states) (within : class < length row) (there : first + class < length sets)
    (here : row ≡ get_or moves at row) (move : 0 < to → (d : Set) → IsMove states at (get_or sets (first + class) d) to) where
  abbrev IsNoted : ℕ → ℕ → ℕ → Type 0
  IsNoted i k n = 0 < n → (first + k < length sets) × ((d : Set) → IsMove states i (get_or sets (first + k) d) n)

  at_row : at < length moves
  at_row = omega (arith, is.rows, lt)

  noted_here : (k : ℕ) → (k ≡ class) ⊎ (k ≢ class) → IsNoted at k (get_or (set row class to) k 0)
  noted_here k (inl e) =
      let P : ℕ → Type 0 = λ n. IsNoted at k n in
      let Q : ℕ → Type 0 = λ c. IsNoted at c to in
      subst P (sym (get_or-set_at row class k to 0 e within)) (subst Q (sym e) (λ h. (there, move h)))
  noted_here k (inr other) =
      let P : List ℕ → Type 0 = λ r. IsNoted at k (get_or r k 0) in
      let Q : ℕ → Type 0 = λ n. IsNoted at k n in
      subst Q (sym (get_or-set_other row class k to 0 other)) (subst P (sym (here ∙ get_or_default moves at row [] at_row)) (λ h. (is.class at k h, λ d. is.each at k d h)))

  noted_each : (i k : ℕ) → (i ≡ at) ⊎ (i ≢ at) → IsNoted i k (get_or (get_or (set moves at (set row class to)) i []) k 0)
  noted_each i k (inl e) =
      let P : List ℕ → Type 0 = λ r. IsNoted i k (get_or r k 0) in
      let Q : ℕ → Type 0 = λ j. IsNoted j k (get_or (set row class to) k 0) in
      subst P (sym (get_or-set_at moves at i (set row class to) [] e at_row)) (subst Q (sym e) (noted_here k (cases_eq k class)))
  noted_each i k (inr other) =
      let P : List ℕ → Type 0 = λ r. IsNoted i k (get_or r k 0) in
      subst P (sym (get_or-set_other moves at i (set row class to) [] other)) (λ h. (is.class i k h, λ d. is.each i k d h))

  pub move_noted : IsMoves sets states first (set moves at (set row class to))
  move_noted = record {
    rows = omega (arith, is.rows, length-set moves at (set row class to));
    class = λ i k h. (noted_each i k (cases_eq i at) h).0;
    each = λ i k d h. (noted_each i k (cases_eq i at) h).1 d;
  }

-- a text that comes to a state

pub one_of : (states : List State) (i : ℕ) → i < length states → State
one_of [] i lt = let no : ⊥ = omega arith in absurd no
one_of (s ∷ states) i lt = s

pub begun : (tree : Tree) (text : List ℕ) (nodes : List Node) (words : List ℕ) → nodes ≡ nodes_of tree → words ≡ replicate 8 0 → Going tree nodes true words text (matches_in tree text)
begun tree text nodes words is blank = record {
  cells = replicate (length nodes) nowhere;
  same = length_blank (length nodes) nowhere;
  holds = holds_blank words (length nodes) blank;
  searching = record {
    marks = unmarked tree;
    is = ap (λ ns. replicate (length ns) nowhere) is ∙ blank_tree tree;
    finds = refl;
  };
}
