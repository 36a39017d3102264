-- What is read as a tree is an expression of that tree.
use Rattle.std.proofs.Common.{◌≡◌, ℕ, ◌==◌, Bool, true, false, not, nat_le, cond, List, [], ◌∷◌, ◌++◌, length, Option, Some, None, option_and_then, inl, inr, ◌⊎◌, refl, sym, ap, ◌∙◌, subst, append_assoc, append-nil, eqb-true, le-leb, leb-true, le_refl}
use Rattle.std.proofs.lemmas.Bool.{and_from, cases_Bool, not_from_false, or_from, not-true}
use Rattle.std.proofs.lemmas.List.Folds.{list_all-append, list_any-append}
use Rattle.std.specs.List.{list_all}
use Rattle.wot_types.specs.Bytes.{backslash, dot, hyphen}
use Rattle.wot_types.specs.Bytes.{asterisk, bar, caret, closing_parenthesis, closing_bracket, dollar, opening_parenthesis, opening_bracket, plus_sign, question_mark}
use Rattle.wot_types.specs.ExpressionGrammar.{is_special}
use Rattle.wot_types.specs.Expression.{Tree, any, any_number, at_least_one, at_most_one, byte, either, followed, nothing, range, symbol, text_end, text_start}
use Rattle.wot_types.specs.ExpressionGrammar.{IsExpression, Reads, alone, any_byte, are_members, at_end, at_start, atom, bracketed, branch, escaped, expression, group, itself, members, more_branches, more_pieces, negated, no_piece, one_branch, optional, piece, repeated, starred}
use Rattle.wot_types.specs.ExpressionReading.{Level, Mode, State, after, behind, between, closed, closed_range, dashed, escape, finished, finished_in, fresh, group_closed, next, next_plain, opened, opened_negated, opening_state, plain, repeated_by, settled, tree_of, whole, with_atom, with_branch, with_mode, with_piece}
use Rattle.wot_regex.proofs.Completes.{barred, has_closing, rises}

-- which way a test went
chosen : {A : Type 0} (t : Bool) (x y z : A) → cond t x y ≡ z → ((t ≡ true) × (x ≡ z)) ⊎ ((t ≡ false) × (y ≡ z))
chosen true x y z h = inl (refl, h)
chosen false x y z h = inr (refl, h)

abbrev ReadsBefore : Option Tree → List ℕ → Type 0
ReadsBefore None s = s ≡ []
ReadsBefore (Some e) s = (q : List ℕ) × Reads expression e q × (s ≡ q ++ bar ∷ [])

abbrev ReadsAtom : Option Tree → List ℕ → Type 0
ReadsAtom None s = s ≡ []
ReadsAtom (Some a) s = Reads atom a s

-- the expressions around this one, each up to its `(`
abbrev ReadsOuter : List Level → List ℕ → Type 0
ReadsOuter [] s = s ≡ []
ReadsOuter (level ∷ outer) s =
    (u : List ℕ) × (p : List ℕ) × (q : List ℕ) × (s ≡ u ++ (p ++ (q ++ opening_parenthesis ∷ []))) × ReadsOuter outer u × ReadsBefore level.before p × Reads branch level.branch q

-- the bytes before the members of a range
abbrev range_start : Bool → List ℕ
range_start true = opening_bracket ∷ caret ∷ []
range_start false = opening_bracket ∷ []

abbrev begins_range : Bool → ℕ → Bool
begins_range true first = true
begins_range false first = not (first == caret)

-- bytes that may stand in a range
record IsInside (n : Bool) (v : List ℕ) : Type 0 where
  first : ℕ
  rest : List ℕ
  is : v ≡ first ∷ rest
  begins : begins_range n first ≡ true
  goes_on : has_closing rest ≡ false

-- a range so far: these bytes are these members, and then those that the last bytes begin
record IsRange (n : Bool) (ms : List (ℕ × ℕ)) (last s : List ℕ) : Type 0 where
  front : List ℕ
  is : s ≡ range_start n ++ (front ++ last)
  inside : IsInside n (front ++ last)
  rising : list_all rises ms ≡ true

abbrev ReadsMode : Mode → List ℕ → Type 0
ReadsMode plain s = s ≡ []
ReadsMode escape s = s ≡ backslash ∷ []
ReadsMode opened s = s ≡ opening_bracket ∷ []
ReadsMode opened_negated s = s ≡ opening_bracket ∷ caret ∷ []
ReadsMode (between n ms) s = (r : IsRange n ms [] s) × ((t : List ℕ) → members (r.front ++ t) ≡ ms ++ members t)
ReadsMode (behind n ms a) s = (r : IsRange n ms (a ∷ []) s) × ((t : List ℕ) → members (r.front ++ a ∷ t) ≡ ms ++ members (a ∷ t))
ReadsMode (dashed n ms a) s = (r : IsRange n ms (a ∷ hyphen ∷ []) s) × ((t : List ℕ) → members (r.front ++ a ∷ t) ≡ ms ++ members (a ∷ t))

-- a state stands for these bytes
record Spells (outer : List Level) (level : Level) (mode : Mode) (s : List ℕ) : Type 0 where
  u : List ℕ
  p : List ℕ
  q : List ℕ
  w : List ℕ
  z : List ℕ
  parts : s ≡ u ++ (p ++ (q ++ (w ++ z)))
  outers : ReadsOuter outer u
  before : ReadsBefore level.before p
  pieces : Reads branch level.branch q
  last : ReadsAtom level.atom w
  ends : ReadsMode mode z

abbrev SpellsState : State → List ℕ → Type 0
SpellsState st s = Spells st.outer st.level st.mode s

reads_settled : (b : Tree) (a : Option Tree) (q w : List ℕ) → Reads branch b q → ReadsAtom a w → Reads branch (with_piece b a) (q ++ w)
reads_settled b None q w r e = let P : List ℕ → Type 0 = λ x. Reads branch b x in subst P (sym (ap (λ x. q ++ x) e ∙ append-nil q)) r
reads_settled b (Some a) q w r e = more_pieces r (alone e)

reads_whole : (o : Option Tree) (b : Tree) (p v : List ℕ) → ReadsBefore o p → Reads branch b v → Reads expression (with_branch o b) (p ++ v)
reads_whole None b p v e r = let P : List ℕ → Type 0 = λ x. Reads expression b x in subst P (sym (ap (λ x. x ++ v) e)) (one_branch r)
reads_whole (Some e) b p v h r =
    let P : List ℕ → Type 0 = λ x. Reads expression (either e b) x in
    subst P (sym (ap (λ x. x ++ v) h.2 ∙ append_assoc h.0 (bar ∷ []) v)) (more_branches h.1 r)

-- the bytes of the level alone
reads_level : (outer : List Level) (level : Level) (mode : Mode) (s : List ℕ) (h : Spells outer level mode s) → Reads expression (whole level) (h.p ++ (h.q ++ h.w))
reads_level outer level mode s h = reads_whole level.before (settled level) h.p (h.q ++ h.w) h.before (reads_settled level.branch level.atom h.q h.w h.pieces h.last)

regroup_mode : (u p q w z b : List ℕ) → (u ++ (p ++ (q ++ (w ++ z)))) ++ b ≡ u ++ (p ++ (q ++ (w ++ (z ++ b))))
regroup_mode u p q w z b = simp append_assoc

regroup_atom : (u p q w z b : List ℕ) → (u ++ (p ++ (q ++ (w ++ z)))) ++ b ≡ u ++ (p ++ ((q ++ w) ++ ((z ++ b) ++ [])))
regroup_atom u p q w z b = simp (append_assoc, append-nil)

regroup_bar : (u p q w b : List ℕ) → (u ++ (p ++ (q ++ (w ++ [])))) ++ b ≡ u ++ (((p ++ (q ++ w)) ++ b) ++ ([] ++ ([] ++ [])))
regroup_bar u p q w b = simp (append_assoc, append-nil)

regroup_open : (u p q w b : List ℕ) → (u ++ (p ++ (q ++ (w ++ [])))) ++ b ≡ (u ++ (p ++ ((q ++ w) ++ b))) ++ ([] ++ ([] ++ ([] ++ [])))
regroup_open u p q w b = simp (append_assoc, append-nil)

regroup_close : (u p q a x y w b : List ℕ) → ((u ++ (p ++ (q ++ a))) ++ (x ++ (y ++ (w ++ [])))) ++ b ≡ u ++ (p ++ (q ++ ((a ++ ((x ++ (y ++ w)) ++ b)) ++ [])))
regroup_close u p q a x y w b = simp (append_assoc, append-nil)

regroup_repeat : (u p q w b : List ℕ) → (u ++ (p ++ (q ++ (w ++ [])))) ++ b ≡ u ++ (p ++ ((q ++ (w ++ b)) ++ ([] ++ [])))
regroup_repeat u p q w b = simp (append_assoc, append-nil)

-- in plain mode nothing stands behind the last atom
plain_parts : (outer : List Level) (level : Level) (s : List ℕ) (h : Spells outer level plain s) → s ≡ h.u ++ (h.p ++ (h.q ++ (h.w ++ [])))
plain_parts outer level s h = h.parts ∙ ap (λ z. h.u ++ (h.p ++ (h.q ++ (h.w ++ z)))) h.ends

spells_mode : (outer : List Level) (level : Level) (mode mode' : Mode) (s : List ℕ) (b : ℕ) (h : Spells outer level mode s) → ReadsMode mode' (h.z ++ b ∷ []) → Spells outer level mode' (s ++ b ∷ [])
spells_mode outer level mode mode' s b h m = record {
  u = h.u;
  p = h.p;
  q = h.q;
  w = h.w;
  z = h.z ++ b ∷ [];
  parts = ap (λ x. x ++ b ∷ []) h.parts ∙ regroup_mode h.u h.p h.q h.w h.z (b ∷ []);
  outers = h.outers;
  before = h.before;
  pieces = h.pieces;
  last = h.last;
  ends = m;
}

spells_atom : (outer : List Level) (level : Level) (mode : Mode) (s : List ℕ) (b : ℕ) (a : Tree) (h : Spells outer level mode s) → Reads atom a (h.z ++ b ∷ [])
    → Spells outer (record { before = level.before; branch = settled level; atom = Some a }) plain (s ++ b ∷ [])
spells_atom outer level mode s b a h r = record {
  u = h.u;
  p = h.p;
  q = h.q ++ h.w;
  w = h.z ++ b ∷ [];
  z = [];
  parts = ap (λ x. x ++ b ∷ []) h.parts ∙ regroup_atom h.u h.p h.q h.w h.z (b ∷ []);
  outers = h.outers;
  before = h.before;
  pieces = reads_settled level.branch level.atom h.q h.w h.pieces h.last;
  last = r;
  ends = refl;
}

spells_bar : (outer : List Level) (level : Level) (s : List ℕ) → Spells outer level plain s → Spells outer (record { before = Some (whole level); branch = nothing; atom = None }) plain (s ++ bar ∷ [])
spells_bar outer level s h = record {
  u = h.u;
  p = (h.p ++ (h.q ++ h.w)) ++ bar ∷ [];
  q = [];
  w = [];
  z = [];
  parts = ap (λ x. x ++ bar ∷ []) (plain_parts outer level s h) ∙ regroup_bar h.u h.p h.q h.w (bar ∷ []);
  outers = h.outers;
  before = (h.p ++ (h.q ++ h.w), reads_level outer level plain s h, refl);
  pieces = no_piece;
  last = refl;
  ends = refl;
}

spells_open : (outer : List Level) (level : Level) (s : List ℕ) → Spells outer level plain s → Spells (closed level ∷ outer) fresh plain (s ++ opening_parenthesis ∷ [])
spells_open outer level s h = record {
  u = h.u ++ (h.p ++ ((h.q ++ h.w) ++ opening_parenthesis ∷ []));
  p = [];
  q = [];
  w = [];
  z = [];
  parts = ap (λ x. x ++ opening_parenthesis ∷ []) (plain_parts outer level s h) ∙ regroup_open h.u h.p h.q h.w (opening_parenthesis ∷ []);
  outers = (h.u, h.p, h.q ++ h.w, refl, h.outers, h.before, reads_settled level.branch level.atom h.q h.w h.pieces h.last);
  before = refl;
  pieces = no_piece;
  last = refl;
  ends = refl;
}

spells_close : (outer : List Level) (level : Level) (s : List ℕ) (st' : State) (mode : Mode) → Spells outer level plain s → group_closed (record { outer = outer; level = level; mode = mode }) outer ≡ Some st' → SpellsState st' (s ++ closing_parenthesis ∷ [])
spells_close [] level s st' mode h e = cc
spells_close (around ∷ outer) level s st' mode h e =
    let to : State = record { outer = outer; level = record around { atom = Some (whole level) }; mode = plain } in
    let same : to ≡ st' = cc in
    let o = h.outers in
    let P : State → Type 0 = λ x. SpellsState x (s ++ closing_parenthesis ∷ []) in
    let here : SpellsState to (s ++ closing_parenthesis ∷ []) = record {
      u = o.0;
      p = o.1;
      q = o.2;
      w = opening_parenthesis ∷ ((h.p ++ (h.q ++ h.w)) ++ closing_parenthesis ∷ []);
      z = [];
      parts =
          ap (λ x. x ++ closing_parenthesis ∷ []) (plain_parts (around ∷ outer) level s h ∙ ap (λ x. x ++ (h.p ++ (h.q ++ (h.w ++ [])))) o.3)
          ∙ regroup_close o.0 o.1 o.2 (opening_parenthesis ∷ []) h.p h.q h.w (closing_parenthesis ∷ []);
      outers = o.4;
      before = o.5;
      pieces = o.6;
      last = group (reads_level (around ∷ outer) level plain s h);
      ends = refl;
    } in
    subst P same here

-- a sign that repeats an atom
spells_repeat : (repeat : Tree → Tree) (sign : ℕ) (outer : List Level) (before : Option Tree) (b : Tree) (a : Option Tree) (s : List ℕ) (st' : State)
    → ((a : Tree) (s : List ℕ) → Reads atom a s → Reads piece (repeat a) (s ++ sign ∷ []))
    → Spells outer (record { before = before; branch = b; atom = a }) plain s
    → repeated_by repeat (record { outer = outer; level = record { before = before; branch = b; atom = a }; mode = plain }) a ≡ Some st' → SpellsState st' (s ++ sign ∷ [])
spells_repeat repeat sign outer before b None s st' rule h e = cc
spells_repeat repeat sign outer before b (Some a) s st' rule h e =
    let to : State = record { outer = outer; level = record { before = before; branch = followed b (repeat a); atom = None }; mode = plain } in
    let same : to ≡ st' = cc in
    let P : State → Type 0 = λ x. SpellsState x (s ++ sign ∷ []) in
    let here : SpellsState to (s ++ sign ∷ []) = record {
      u = h.u;
      p = h.p;
      q = h.q ++ (h.w ++ sign ∷ []);
      w = [];
      z = [];
      parts = ap (λ x. x ++ sign ∷ []) (plain_parts outer (record { before = before; branch = b; atom = Some a }) s h) ∙ regroup_repeat h.u h.p h.q h.w (sign ∷ []);
      outers = h.outers;
      before = h.before;
      pieces = more_pieces h.pieces (rule a h.w h.last);
      last = refl;
      ends = refl;
    } in
    subst P same here

-- a sign that is an atom
spells_sign : (outer : List Level) (level : Level) (s : List ℕ) (b : ℕ) (a : Tree) (h : Spells outer level plain s) → Reads atom a (b ∷ [])
    → Spells outer (record { before = level.before; branch = settled level; atom = Some a }) plain (s ++ b ∷ [])
spells_sign outer level s b a h r =
    let P : List ℕ → Type 0 = λ z. Reads atom a (z ++ b ∷ []) in
    spells_atom outer level plain s b a h (subst P (sym h.ends) r)

spells_turn : (outer : List Level) (level : Level) (mode : Mode) (s : List ℕ) (b : ℕ) (h : Spells outer level plain s) → ReadsMode mode (b ∷ []) → Spells outer level mode (s ++ b ∷ [])
spells_turn outer level mode s b h m =
    let P : List ℕ → Type 0 = λ z. ReadsMode mode (z ++ b ∷ []) in
    spells_mode outer level plain mode s b h (subst P (sym h.ends) m)

-- the same state, told by an equation
told : (st st' : State) (s : List ℕ) (b c : ℕ) → Some st ≡ Some st' → b ≡ c → SpellsState st (s ++ c ∷ []) → SpellsState st' (s ++ b ∷ [])
told st st' s b c e f h =
    let same : st ≡ st' = cc in
    let P : State → Type 0 = λ x. SpellsState x (s ++ b ∷ []) in
    let Q : ℕ → Type 0 = λ x. SpellsState st (s ++ x ∷ []) in
    subst P same (subst Q (sym f) h)

again : (st' : State) (s : List ℕ) (b c : ℕ) → b ≡ c → SpellsState st' (s ++ c ∷ []) → SpellsState st' (s ++ b ∷ [])
again st' s b c f h = let Q : ℕ → Type 0 = λ x. SpellsState st' (s ++ x ∷ []) in subst Q (sym f) h

-- a byte outside ranges

not_special : (b : ℕ) → (b == bar) ≡ false → (b == opening_parenthesis) ≡ false → (b == closing_parenthesis) ≡ false → (b == opening_bracket) ≡ false → (b == dot) ≡ false → (b == caret) ≡ false → (b == dollar) ≡ false
    → (b == backslash) ≡ false → (b == asterisk) ≡ false → (b == plus_sign) ≡ false → (b == question_mark) ≡ false → is_special b ≡ false
not_special b h1 h2 h3 h4 h5 h6 h7 h8 h9 h10 h11 = rw (h1, h2, h3, h4, h5, h6, h7, h8, h9, h10, h11) refl

abbrev plain_state : List Level → Level → State
plain_state outer level = record { outer = outer; level = level; mode = plain }

spells_plain : (outer : List Level) (level : Level) (s : List ℕ) (b : ℕ) (st' : State) → Spells outer level plain s → next_plain (plain_state outer level) b ≡ Some st' → SpellsState st' (s ++ b ∷ [])
spells_plain outer level s b st' h e =
    let st = plain_state outer level in
    elim (chosen (b == bar) (Some (barred st)) _ (Some st') e) [
      | inl c1 ↦ told (barred st) st' s b bar c1.1 (eqb-true b bar c1.0) (spells_bar outer level s h)
      | inr n1 ↦ elim (chosen (b == opening_parenthesis) (Some (record st { outer = closed level ∷ outer; level = fresh })) _ (Some st') n1.1) [
        | inl c2 ↦ told (record st { outer = closed level ∷ outer; level = fresh }) st' s b opening_parenthesis c2.1 (eqb-true b opening_parenthesis c2.0) (spells_open outer level s h)
        | inr n2 ↦ elim (chosen (b == closing_parenthesis) (group_closed st outer) _ (Some st') n2.1) [
          | inl c3 ↦ again st' s b closing_parenthesis (eqb-true b closing_parenthesis c3.0) (spells_close outer level s st' plain h c3.1)
          | inr n3 ↦ elim (chosen (b == opening_bracket) (Some (with_mode opened st)) _ (Some st') n3.1) [
            | inl c4 ↦ told (with_mode opened st) st' s b opening_bracket c4.1 (eqb-true b opening_bracket c4.0) (spells_turn outer level opened s opening_bracket h refl)
            | inr n4 ↦ elim (chosen (b == dot) (Some (with_atom (symbol any) st)) _ (Some st') n4.1) [
              | inl c5 ↦ told (with_atom (symbol any) st) st' s b dot c5.1 (eqb-true b dot c5.0) (spells_sign outer level s dot (symbol any) h any_byte)
              | inr n5 ↦ elim (chosen (b == caret) (Some (with_atom text_start st)) _ (Some st') n5.1) [
                | inl c6 ↦ told (with_atom text_start st) st' s b caret c6.1 (eqb-true b caret c6.0) (spells_sign outer level s caret text_start h at_start)
                | inr n6 ↦ elim (chosen (b == dollar) (Some (with_atom text_end st)) _ (Some st') n6.1) [
                  | inl c7 ↦ told (with_atom text_end st) st' s b dollar c7.1 (eqb-true b dollar c7.0) (spells_sign outer level s dollar text_end h at_end)
                  | inr n7 ↦ elim (chosen (b == backslash) (Some (with_mode escape st)) _ (Some st') n7.1) [
                    | inl c8 ↦ told (with_mode escape st) st' s b backslash c8.1 (eqb-true b backslash c8.0) (spells_turn outer level escape s backslash h refl)
                    | inr n8 ↦ elim (chosen (b == asterisk) (repeated_by any_number st level.atom) _ (Some st') n8.1) [
                      | inl c9 ↦ again st' s b asterisk (eqb-true b asterisk c9.0)
                          (spells_repeat any_number asterisk outer level.before level.branch level.atom s st' (λ a w r. starred r) h c9.1)
                      | inr n9 ↦ elim (chosen (b == plus_sign) (repeated_by at_least_one st level.atom) _ (Some st') n9.1) [
                        | inl c10 ↦ again st' s b plus_sign (eqb-true b plus_sign c10.0)
                            (spells_repeat at_least_one plus_sign outer level.before level.branch level.atom s st' (λ a w r. repeated r) h c10.1)
                        | inr n10 ↦ elim (chosen (b == question_mark) (repeated_by at_most_one st level.atom) (Some (with_atom (symbol (byte b)) st)) (Some st') n10.1) [
                          | inl c11 ↦ again st' s b question_mark (eqb-true b question_mark c11.0)
                              (spells_repeat at_most_one question_mark outer level.before level.branch level.atom s st' (λ a w r. optional r) h c11.1)
                          | inr n11 ↦ told (with_atom (symbol (byte b)) st) st' s b b n11.1 refl
                              (spells_sign outer level s b (symbol (byte b)) h (itself b (not_special b n1.0 n2.0 n3.0 n4.0 n5.0 n6.0 n7.0 n8.0 n9.0 n10.0 n11.0)))
                        ]
                      ]
                    ]
                  ]
                ]
              ]
            ]
          ]
        ]
      ]
    ]

-- ranges

inside_push : (n : Bool) (v : List ℕ) (b : ℕ) → IsInside n v → (b == closing_bracket) ≡ false → IsInside n (v ++ b ∷ [])
inside_push n v b i h = record {
  first = i.first;
  rest = i.rest ++ b ∷ [];
  is = ap (λ x. x ++ b ∷ []) i.is;
  begins = i.begins;
  goes_on = list_any-append (λ c. c == closing_bracket) i.rest (b ∷ []) ∙ or_from (has_closing i.rest) (has_closing (b ∷ [])) i.goes_on (or_from (b == closing_bracket) false h refl);
}

rising_push : (ms : List (ℕ × ℕ)) (m : ℕ × ℕ) → list_all rises ms ≡ true → rises m ≡ true → list_all rises (ms ++ m ∷ []) ≡ true
rising_push ms m h k = list_all-append rises ms (m ∷ []) ∙ and_from (list_all rises ms) (list_all rises (m ∷ [])) h (and_from (rises m) true k refl)

itself_rises : (a : ℕ) → nat_le a a ≡ true
itself_rises a = le-leb a a (le_refl a)

range_reads_at : (n : Bool) (first : ℕ) (rest : List ℕ) → begins_range n first ≡ true → are_members first rest ≡ true
    → Reads atom (symbol (range n (members (first ∷ rest)))) (range_start n ++ (first ∷ rest) ++ closing_bracket ∷ [])
range_reads_at true first rest h k = negated first rest k
range_reads_at false first rest h k = bracketed first rest (not-true (first == caret) h) k

-- a range that is closed
range_reads : (n : Bool) (ms : List (ℕ × ℕ)) (v s : List ℕ) → s ≡ range_start n ++ v → IsInside n v → members v ≡ ms → list_all rises ms ≡ true → Reads atom (symbol (range n ms)) (s ++ closing_bracket ∷ [])
range_reads n ms v s is i same rising =
    let these : members (i.first ∷ i.rest) ≡ ms = ap members (sym i.is) ∙ same in
    let all : list_all rises (members (i.first ∷ i.rest)) ≡ true = ap (list_all rises) these ∙ rising in
    let good : are_members i.first i.rest ≡ true = and_from (not (has_closing i.rest)) (list_all rises (members (i.first ∷ i.rest))) (not_from_false (has_closing i.rest) i.goes_on) all in
    let P : List (ℕ × ℕ) → Type 0 = λ x. Reads atom (symbol (range n x)) (s ++ closing_bracket ∷ []) in
    let Q : List ℕ → Type 0 = λ x. Reads atom (symbol (range n (members (i.first ∷ i.rest)))) (x ++ closing_bracket ∷ []) in
    subst P these (subst Q (sym (is ∙ ap (λ x. range_start n ++ x) i.is)) (range_reads_at n i.first i.rest i.begins good))

-- the state behind a range
spells_range : (outer : List Level) (level : Level) (mode : Mode) (s : List ℕ) (n : Bool) (ms : List (ℕ × ℕ)) (v : List ℕ) (h : Spells outer level mode s) → h.z ≡ range_start n ++ v → IsInside n v → members v ≡ ms → list_all rises ms ≡ true
    → SpellsState (closed_range n ms (record { outer = outer; level = level; mode = mode })) (s ++ closing_bracket ∷ [])
spells_range outer level mode s n ms v h is i same rising = spells_atom outer level mode s closing_bracket (symbol (range n ms)) h (range_reads n ms v h.z is i same rising)

-- a byte that begins the next member
first_byte : (n : Bool) (ms : List (ℕ × ℕ)) (z : List ℕ) (b : ℕ) → ReadsMode (between n ms) z → (b == closing_bracket) ≡ false → ReadsMode (behind n ms b) (z ++ b ∷ [])
first_byte n ms z b m h =
    let r = m.0 in
    let V : List ℕ → Type 0 = λ x. IsInside n x in (
      record {
        front = r.front;
        is = ap (λ x. x ++ b ∷ []) r.is ∙ append_assoc (range_start n) (r.front ++ []) (b ∷ []) ∙ ap (λ x. range_start n ++ (x ++ b ∷ [])) (append-nil r.front);
        inside = inside_push n r.front b (subst V (append-nil r.front) r.inside) h;
        rising = r.rising;
      },
      λ t. m.1 (b ∷ t),
    )

-- a `-` behind a byte of a member
hyphen_byte : (n : Bool) (ms : List (ℕ × ℕ)) (a : ℕ) (z : List ℕ) → ReadsMode (behind n ms a) z → ReadsMode (dashed n ms a) (z ++ hyphen ∷ [])
hyphen_byte n ms a z m =
    let r = m.0 in
    let V : List ℕ → Type 0 = λ x. IsInside n x in (
      record {
        front = r.front;
        is = ap (λ x. x ++ hyphen ∷ []) r.is ∙ append_assoc (range_start n) (r.front ++ a ∷ []) (hyphen ∷ []) ∙ ap (λ x. range_start n ++ x) (append_assoc r.front (a ∷ []) (hyphen ∷ []));
        inside = subst V (append_assoc r.front (a ∷ []) (hyphen ∷ [])) (inside_push n (r.front ++ a ∷ []) hyphen r.inside refl);
        rising = r.rising;
      },
      m.1,
    )

single_member : (a b : ℕ) (t : List ℕ) → (b == hyphen) ≡ false → members (a ∷ b ∷ t) ≡ (a, a) ∷ members (b ∷ t)
single_member a b [] h = refl
single_member a b (c ∷ t) h = rw h refl

-- a byte behind a member of one
next_byte : (n : Bool) (ms : List (ℕ × ℕ)) (a b : ℕ) (z : List ℕ) → ReadsMode (behind n ms a) z → (b == hyphen) ≡ false → (b == closing_bracket) ≡ false → ReadsMode (behind n (ms ++ (a, a) ∷ []) b) (z ++ b ∷ [])
next_byte n ms a b z m h k =
    let r = m.0 in (
      record {
        front = r.front ++ a ∷ [];
        is = ap (λ x. x ++ b ∷ []) r.is ∙ append_assoc (range_start n) (r.front ++ a ∷ []) (b ∷ []);
        inside = inside_push n (r.front ++ a ∷ []) b r.inside k;
        rising = rising_push ms (a, a) r.rising (itself_rises a);
      },
      λ t.
          ap members (append_assoc r.front (a ∷ []) (b ∷ t))
          ∙ m.1 (b ∷ t)
          ∙ ap (λ x. ms ++ x) (single_member a b t h)
          ∙ sym (append_assoc ms ((a, a) ∷ []) (members (b ∷ t))),
    )

-- the last byte of a member of two
last_byte : (n : Bool) (ms : List (ℕ × ℕ)) (a b : ℕ) (z : List ℕ) → ReadsMode (dashed n ms a) z → (b == closing_bracket) ≡ false → nat_le a b ≡ true → ReadsMode (between n (ms ++ (a, b) ∷ [])) (z ++ b ∷ [])
last_byte n ms a b z m h k =
    let r = m.0 in
    let V : List ℕ → Type 0 = λ x. IsInside n x in
    let whole : (r.front ++ a ∷ hyphen ∷ []) ++ b ∷ [] ≡ r.front ++ a ∷ hyphen ∷ b ∷ [] = append_assoc r.front (a ∷ hyphen ∷ []) (b ∷ []) in (
      record {
        front = r.front ++ a ∷ hyphen ∷ b ∷ [];
        is =
            ap (λ x. x ++ b ∷ []) r.is
            ∙ append_assoc (range_start n) (r.front ++ a ∷ hyphen ∷ []) (b ∷ [])
            ∙ ap (λ x. range_start n ++ x) (whole ∙ sym (append-nil (r.front ++ a ∷ hyphen ∷ b ∷ [])));
        inside = subst V (whole ∙ sym (append-nil (r.front ++ a ∷ hyphen ∷ b ∷ []))) (inside_push n (r.front ++ a ∷ hyphen ∷ []) b r.inside h);
        rising = rising_push ms (a, b) r.rising k;
      },
      λ t.
          ap members (append_assoc r.front (a ∷ hyphen ∷ b ∷ []) t)
          ∙ m.1 (hyphen ∷ b ∷ t)
          ∙ sym (append_assoc ms ((a, b) ∷ []) (members t)),
    )

abbrev state_in : List Level → Level → Mode → State
state_in outer level mode = record { outer = outer; level = level; mode = mode }

spells_behind : (outer : List Level) (level : Level) (n : Bool) (ms : List (ℕ × ℕ)) (a : ℕ) (s : List ℕ) (b : ℕ) (st' : State) → Spells outer level (behind n ms a) s
    → next (state_in outer level (behind n ms a)) b ≡ Some st' → SpellsState st' (s ++ b ∷ [])
spells_behind outer level n ms a s b st' h e =
    let st = state_in outer level (behind n ms a) in
    let m = h.ends in
    elim (cases_Bool (b == hyphen)) [
      | inl y ↦ told (with_mode (dashed n ms a) st) st' s b hyphen (sym (rw y refl) ∙ e) (eqb-true b hyphen y)
          (spells_mode outer level (behind n ms a) (dashed n ms a) s hyphen h (hyphen_byte n ms a h.z m))
      | inr x ↦ elim (cases_Bool (b == closing_bracket)) [
        | inl y ↦ told (closed_range n (ms ++ (a, a) ∷ []) st) st' s b closing_bracket (sym (rw (x, y) refl) ∙ e) (eqb-true b closing_bracket y)
            (spells_range outer level (behind n ms a) s n (ms ++ (a, a) ∷ []) (m.0.front ++ a ∷ []) h m.0.is m.0.inside (m.1 []) (rising_push ms (a, a) m.0.rising (itself_rises a)))
        | inr y ↦ told (with_mode (behind n (ms ++ (a, a) ∷ []) b) st) st' s b b (sym (rw (x, y) refl) ∙ e) refl
            (spells_mode outer level (behind n ms a) (behind n (ms ++ (a, a) ∷ []) b) s b h (next_byte n ms a b h.z m x y))
      ]
    ]

spells_dashed : (outer : List Level) (level : Level) (n : Bool) (ms : List (ℕ × ℕ)) (a : ℕ) (s : List ℕ) (b : ℕ) (st' : State) → Spells outer level (dashed n ms a) s
    → next (state_in outer level (dashed n ms a)) b ≡ Some st' → SpellsState st' (s ++ b ∷ [])
spells_dashed outer level n ms a s b st' h e =
    let st = state_in outer level (dashed n ms a) in
    let m = h.ends in
    let two = ms ++ (a, a) ∷ (hyphen, hyphen) ∷ [] in
    elim (chosen (b == closing_bracket) (Some (closed_range n two st)) _ (Some st') e) [
      | inl c ↦ told (closed_range n two st) st' s b closing_bracket c.1 (eqb-true b closing_bracket c.0)
          (spells_range outer level (dashed n ms a) s n two (m.0.front ++ a ∷ hyphen ∷ []) h m.0.is m.0.inside (m.1 (hyphen ∷ []))
          (list_all-append rises ms ((a, a) ∷ (hyphen, hyphen) ∷ []) ∙ and_from (list_all rises ms) (list_all rises ((a, a) ∷ (hyphen, hyphen) ∷ [])) m.0.rising (and_from (nat_le a a) true (itself_rises a) refl)))
      | inr c ↦ elim (chosen (nat_le a b) (Some (with_mode (between n (ms ++ (a, b) ∷ [])) st)) None (Some st') c.1) [
        | inl d ↦ told (with_mode (between n (ms ++ (a, b) ∷ [])) st) st' s b b d.1 refl
            (spells_mode outer level (dashed n ms a) (between n (ms ++ (a, b) ∷ [])) s b h (last_byte n ms a b h.z m c.0 d.0))
        | inr d ↦ cc (d.1)
      ]
    ]

spells_between : (outer : List Level) (level : Level) (n : Bool) (ms : List (ℕ × ℕ)) (s : List ℕ) (b : ℕ) (st' : State) → Spells outer level (between n ms) s
    → next (state_in outer level (between n ms)) b ≡ Some st' → SpellsState st' (s ++ b ∷ [])
spells_between outer level n ms s b st' h e =
    let st = state_in outer level (between n ms) in
    let m = h.ends in
    elim (cases_Bool (b == closing_bracket)) [
      | inl y ↦ told (closed_range n ms st) st' s b closing_bracket (sym (rw y refl) ∙ e) (eqb-true b closing_bracket y)
          (spells_range outer level (between n ms) s n ms (m.0.front ++ []) h m.0.is m.0.inside (m.1 [] ∙ append-nil ms) m.0.rising)
      | inr y ↦ told (with_mode (behind n ms b) st) st' s b b (sym (rw y refl) ∙ e) refl
          (spells_mode outer level (between n ms) (behind n ms b) s b h (first_byte n ms h.z b m y))
    ]

-- the first byte of a range
opened_byte : (n : Bool) (b : ℕ) (z : List ℕ) → z ≡ range_start n → begins_range n b ≡ true → ReadsMode (behind n [] b) (z ++ b ∷ [])
opened_byte n b z is h = (record { front = []; is = ap (λ x. x ++ b ∷ []) is; inside = record { first = b; rest = []; is = refl; begins = h; goes_on = refl }; rising = refl }, λ t. refl)

spells_opened : (outer : List Level) (level : Level) (s : List ℕ) (b : ℕ) (st' : State) → Spells outer level opened s → next (state_in outer level opened) b ≡ Some st' → SpellsState st' (s ++ b ∷ [])
spells_opened outer level s b st' h e =
    let st = state_in outer level opened in
    elim (cases_Bool (b == caret)) [
      | inl y ↦ told (with_mode opened_negated st) st' s b caret (sym (rw y refl) ∙ e) (eqb-true b caret y)
          (spells_mode outer level opened opened_negated s caret h (ap (λ x. x ++ caret ∷ []) h.ends))
      | inr y ↦ told (with_mode (behind false [] b) st) st' s b b (sym (rw y refl) ∙ e) refl
          (spells_mode outer level opened (behind false [] b) s b h (opened_byte false b h.z h.ends (not_from_false (b == caret) y)))
    ]

spells_escape : (outer : List Level) (level : Level) (s : List ℕ) (b : ℕ) → Spells outer level escape s → SpellsState (with_atom (symbol (byte b)) (state_in outer level escape)) (s ++ b ∷ [])
spells_escape outer level s b h =
    let P : List ℕ → Type 0 = λ z. Reads atom (symbol (byte b)) (z ++ b ∷ []) in
    spells_atom outer level escape s b (symbol (byte b)) h (subst P (sym h.ends) (escaped b))

spells_next : (outer : List Level) (level : Level) (mode : Mode) (s : List ℕ) (b : ℕ) (st' : State) → Spells outer level mode s → next (state_in outer level mode) b ≡ Some st' → SpellsState st' (s ++ b ∷ [])
spells_next outer level plain s b st' h e = spells_plain outer level s b st' h e
spells_next outer level escape s b st' h e = told (with_atom (symbol (byte b)) (state_in outer level escape)) st' s b b e refl (spells_escape outer level s b h)
spells_next outer level opened s b st' h e = spells_opened outer level s b st' h e
spells_next outer level opened_negated s b st' h e =
    told (with_mode (behind true [] b) (state_in outer level opened_negated)) st' s b b e refl
    (spells_mode outer level opened_negated (behind true [] b) s b h (opened_byte true b h.z h.ends refl))
spells_next outer level (between n ms) s b st' h e = spells_between outer level n ms s b st' h e
spells_next outer level (behind n ms a) s b st' h e = spells_behind outer level n ms a s b st' h e
spells_next outer level (dashed n ms a) s b st' h e = spells_dashed outer level n ms a s b st' h e

then_some : {A B : Type 0} (f : A → Option B) (o : Option A) (y : B) → option_and_then f o ≡ Some y → (x : A) × (o ≡ Some x) × (f x ≡ Some y)
then_some f None y h = cc
then_some f (Some x) y h = (x, refl, h)

spells_after : (st : State) (front s : List ℕ) (st' : State) → SpellsState st front → after st s ≡ Some st' → SpellsState st' (front ++ s)
spells_after st front [] st' h e =
    let same : st ≡ st' = cc in
    let P : State → Type 0 = λ x. SpellsState x (front ++ []) in
    let Q : List ℕ → Type 0 = λ x. SpellsState st x in
    subst P same (subst Q (sym (append-nil front)) h)
spells_after st front (b ∷ s) st' h e =
    let step = then_some (λ q. after q s) (next st b) st' e in
    let Q : List ℕ → Type 0 = λ x. SpellsState st' x in
    subst Q (append_assoc front (b ∷ []) s) (spells_after step.0 (front ++ b ∷ []) s st' (spells_next st.outer st.level st.mode front b step.0 h step.1) step.2)

spells_opening : SpellsState opening_state []
spells_opening = record { u = []; p = []; q = []; w = []; z = []; parts = refl; outers = refl; before = refl; pieces = no_piece; last = refl; ends = refl }

reads_finished : (outer : List Level) (level : Level) (mode : Mode) (s : List ℕ) (e : Tree) → Spells outer level mode s → finished_in level mode outer ≡ Some e → Reads expression e s
reads_finished [] level plain s e h f =
    let same : whole level ≡ e = cc in
    let P : Tree → Type 0 = λ x. Reads expression x s in
    let Q : List ℕ → Type 0 = λ x. Reads expression (whole level) x in
    let all : s ≡ h.p ++ (h.q ++ h.w) = plain_parts [] level s h ∙ ap (λ u. u ++ (h.p ++ (h.q ++ (h.w ++ [])))) h.outers ∙ ap (λ w. h.p ++ (h.q ++ w)) (append-nil h.w) in
    subst P same (subst Q (sym all) (reads_level [] level plain s h))
reads_finished (o ∷ outer) level plain s e h f = cc
reads_finished outer level escape s e h f = cc
reads_finished outer level opened s e h f = cc
reads_finished outer level opened_negated s e h f = cc
reads_finished outer level (between n ms) s e h f = cc
reads_finished outer level (behind n ms a) s e h f = cc
reads_finished outer level (dashed n ms a) s e h f = cc

-- what is read as a tree is an expression of it
pub tree_of-reads : (e : Tree) (scope : List ℕ) → tree_of scope ≡ Some e → IsExpression e scope
tree_of-reads e scope h =
    elim (chosen (nat_le (length scope) 255) (option_and_then finished (after opening_state scope)) None (Some e) h) [
      | inl c ↦
          let end = then_some finished (after opening_state scope) e c.1 in
          (reads_finished end.0.outer end.0.level end.0.mode scope e (spells_after opening_state [] scope end.0 spells_opening end.1) end.2, leb-true (length scope) 255 c.0)
      | inr c ↦ cc (c.1)
    ]
