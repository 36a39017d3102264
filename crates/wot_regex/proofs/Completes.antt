-- What is an expression is read, as its tree.
use Rattle.std.proofs.Common.{◌≡◌, ℕ, ◌==◌, Bool, true, false, ◌||◌, not, nat_le, List, [], ◌∷◌, ◌++◌, length, Option, Some, None, option_and_then, inl, inr, refl, sym, ap, ap₂, ◌∙◌, append_assoc, eqb-true, le-leb}
use Rattle.std.proofs.lemmas.Bool.{and_parts, cases_Bool, cond-false, cond-true, not-true, or_parts}
use Rattle.std.specs.List.{list_all, list_any}
use Rattle.wot_types.specs.Bytes.{backslash, dot, hyphen}
use Rattle.wot_types.specs.Bytes.{asterisk, bar, caret, closing_parenthesis, closing_bracket, dollar, opening_parenthesis, opening_bracket, plus_sign, question_mark}
use Rattle.wot_types.specs.ExpressionGrammar.{is_special}
use Rattle.wot_types.specs.Expression.{Tree, any, any_number, at_least_one, at_most_one, byte, either, followed, nothing, range, symbol, text_end, text_start}
use Rattle.wot_types.specs.ExpressionGrammar.{IsExpression, Part, Reads, alone, any_byte, are_members, at_end, at_start, atom, bracketed, branch, escaped, expression, group, itself, members, more_branches, more_pieces, negated, no_piece, one_branch, optional, piece, repeated, starred}
use Rattle.wot_types.specs.ExpressionReading.{Level, State, after, behind, between, closed, dashed, escape, finished, finished_in, fresh, group_closed, next, next_in, next_plain, opened, opened_negated, opening_state, plain, settled, tree_of, whole, with_atom, with_branch, with_mode, with_piece}

pub after-append : (st : State) (s t : List ℕ) → after st (s ++ t) ≡ option_and_then (λ q. after q t) (after st s)
after-append st [] t = refl
after-append st (b ∷ s) t = on (next st b) (λ q. after-append q s t)
  where
    on : (o : Option State) → ((q : State) → after q (s ++ t) ≡ option_and_then (λ r. after r t) (after q s))
        → option_and_then (λ q. after q (s ++ t)) o ≡ option_and_then (λ r. after r t) (option_and_then (λ q. after q s) o)
    on None h = refl
    on (Some q) h = h q

-- how a part begins
abbrev Begins : Part → State → Type 0
Begins expression st = (st.mode ≡ plain) × (st.level ≡ fresh)
Begins branch st = (st.mode ≡ plain) × (st.level.branch ≡ nothing) × (st.level.atom ≡ None)
Begins piece st = st.mode ≡ plain
Begins atom st = st.mode ≡ plain

-- the state behind a piece or a branch, whose pieces are then these
pub record Settles (st st' : State) (tree : Tree) : Type 0 where
  pub outer : st'.outer ≡ st.outer
  pub before : st'.level.before ≡ st.level.before
  pub mode : st'.mode ≡ plain
  pub settles : settled st'.level ≡ tree

-- the state behind an expression
record Makes (st st' : State) (tree : Tree) : Type 0 where
  pub outer : st'.outer ≡ st.outer
  pub mode : st'.mode ≡ plain
  pub makes : whole st'.level ≡ tree

abbrev Ends : Part → Tree → State → State → Type 0
Ends expression a st st' = Makes st st' a
Ends branch a st st' = Settles st st' a
Ends piece a st st' = Settles st st' (followed (settled st.level) a)
Ends atom a st st' = st' ≡ with_atom a st

record Leads (p : Part) (a : Tree) (s : List ℕ) (st : State) : Type 0 where
  behind : State
  reads : after st s ≡ Some behind
  ends : Ends p a st behind

-- one list of bytes after another
pub joined : (st mid : State) (s t : List ℕ) (o : Option State) → after st s ≡ Some mid → after mid t ≡ o → after st (s ++ t) ≡ o
joined st mid s t o e f = after-append st s t ∙ ap (option_and_then (λ q. after q t)) e ∙ f

pub one_step : (st mid : State) (b : ℕ) (t : List ℕ) (o : Option State) → next st b ≡ Some mid → after mid t ≡ o → after st (b ∷ t) ≡ o
one_step st mid b t o e f = ap (option_and_then (λ q. after q t)) e ∙ f

-- a state in plain mode goes on as outside ranges
pub plain_step : (st : State) (b : ℕ) → st.mode ≡ plain → next st b ≡ next_plain st b
plain_step st b h = ap (λ m. next_in st m b) h

-- behind a `|`; behind the `)` of a group of this tree
abbrev pub barred : State → State
barred st = record st { level = record { before = Some (whole st.level); branch = nothing; atom = None } }

abbrev grouped : State → Tree → State
grouped st a = record { outer = st.outer; level = record { before = st.level.before; branch = settled st.level; atom = Some a }; mode = plain }

-- a byte that stands for itself
pub plain_byte : (st : State) (b : ℕ) → is_special b ≡ false → next_plain st b ≡ Some (with_atom (symbol (byte b)) st)
plain_byte st b h =
    let o2 : Bool = (b == bar) || (b == opening_parenthesis) in
    let o3 : Bool = o2 || (b == closing_parenthesis) in
    let o4 : Bool = o3 || (b == opening_bracket) in
    let o5 : Bool = o4 || (b == dot) in
    let o6 : Bool = o5 || (b == caret) in
    let o7 : Bool = o6 || (b == dollar) in
    let o8 : Bool = o7 || (b == backslash) in
    let o9 : Bool = o8 || (b == asterisk) in
    let o10 : Bool = o9 || (b == plus_sign) in
    let d11 = or_parts o10 (b == question_mark) h in
    let d10 = or_parts o9 (b == plus_sign) d11.0 in
    let d9 = or_parts o8 (b == asterisk) d10.0 in
    let d8 = or_parts o7 (b == backslash) d9.0 in
    let d7 = or_parts o6 (b == dollar) d8.0 in
    let d6 = or_parts o5 (b == caret) d7.0 in
    let d5 = or_parts o4 (b == dot) d6.0 in
    let d4 = or_parts o3 (b == opening_bracket) d5.0 in
    let d3 = or_parts o2 (b == closing_parenthesis) d4.0 in
    let d2 = or_parts (b == bar) (b == opening_parenthesis) d3.0 in
    rw (d2.0, d2.1, d3.1, d4.1, d5.1, d6.1, d7.1, d8.1, d9.1, d10.1, d11.1) refl

-- ranges

step_hyphen : (n : Bool) (st : State) (ms : List (ℕ × ℕ)) (x b : ℕ) → (b == hyphen) ≡ true → next (with_mode (behind n ms x) st) b ≡ Some (with_mode (dashed n ms x) st)
step_hyphen n st ms x b h = rw h refl

step_byte : (n : Bool) (st : State) (ms : List (ℕ × ℕ)) (x b : ℕ) → (b == hyphen) ≡ false → (b == closing_bracket) ≡ false
    → next (with_mode (behind n ms x) st) b ≡ Some (with_mode (behind n (ms ++ (x, x) ∷ []) b) st)
step_byte n st ms x b h k = rw (h, k) refl

step_pair : (n : Bool) (st : State) (ms : List (ℕ × ℕ)) (x c : ℕ) → (c == closing_bracket) ≡ false → nat_le x c ≡ true
    → next (with_mode (dashed n ms x) st) c ≡ Some (with_mode (between n (ms ++ (x, c) ∷ [])) st)
step_pair n st ms x c h k = rw (h, k) refl

step_between : (n : Bool) (st : State) (ms : List (ℕ × ℕ)) (d : ℕ) → (d == closing_bracket) ≡ false → next (with_mode (between n ms) st) d ≡ Some (with_mode (behind n ms d) st)
step_between n st ms d h = rw h refl

abbrev pub rises : ℕ × ℕ → Bool
rises m = nat_le m.0 m.1

abbrev pub has_closing : List ℕ → Bool
has_closing rest = list_any (λ b. b == closing_bracket) rest

-- the range whose members begin with these
abbrev ranged : Bool → State → List (ℕ × ℕ) → Option State
ranged n st ms = Some (with_atom (symbol (range n ms)) st)

after_pair : (n : Bool) (st : State) (ms : List (ℕ × ℕ)) (x b c : ℕ) (rest : List ℕ) (o : Option State) → (b == hyphen) ≡ true → (c == closing_bracket) ≡ false → nat_le x c ≡ true
    → after (with_mode (between n (ms ++ (x, c) ∷ [])) st) rest ≡ o → after (with_mode (behind n ms x) st) (b ∷ c ∷ rest) ≡ o
after_pair n st ms x b c rest o h k le e =
    one_step (with_mode (behind n ms x) st) (with_mode (dashed n ms x) st) b (c ∷ rest) o (step_hyphen n st ms x b h)
    (one_step (with_mode (dashed n ms x) st) (with_mode (between n (ms ++ (x, c) ∷ [])) st) c rest o (step_pair n st ms x c k le) e)

after_byte : (n : Bool) (st : State) (ms : List (ℕ × ℕ)) (x b : ℕ) (rest : List ℕ) (o : Option State) → (b == hyphen) ≡ false → (b == closing_bracket) ≡ false
    → after (with_mode (behind n (ms ++ (x, x) ∷ []) b) st) rest ≡ o → after (with_mode (behind n ms x) st) (b ∷ rest) ≡ o
after_byte n st ms x b rest o h k e = one_step (with_mode (behind n ms x) st) (with_mode (behind n (ms ++ (x, x) ∷ []) b) st) b rest o (step_byte n st ms x b h k) e

more_members : (n : Bool) (st : State) (ms rest : List (ℕ × ℕ)) (m : ℕ × ℕ) (all : List (ℕ × ℕ)) → all ≡ m ∷ rest → ranged n st ((ms ++ m ∷ []) ++ rest) ≡ ranged n st (ms ++ all)
more_members n st ms rest m all e = ap (ranged n st) (append_assoc ms (m ∷ []) rest ∙ ap (λ r. ms ++ r) (sym e))

behind_run : (n : Bool) (st : State) (ms : List (ℕ × ℕ)) (x : ℕ) (rest : List ℕ) → has_closing rest ≡ false → list_all rises (members (x ∷ rest)) ≡ true
    → after (with_mode (behind n ms x) st) (rest ++ closing_bracket ∷ []) ≡ ranged n st (ms ++ members (x ∷ rest))
behind_run n st ms x [] h k = refl
behind_run n st ms x (b ∷ []) h k =
    elim (cases_Bool (b == hyphen)) [
      | inl e ↦
          one_step (with_mode (behind n ms x) st) (with_mode (dashed n ms x) st) b (closing_bracket ∷ []) _ (step_hyphen n st ms x b e)
          (ap (λ c. ranged n st (ms ++ (x, x) ∷ (c, c) ∷ [])) (sym (eqb-true b hyphen e)))
      | inr e ↦
          after_byte n st ms x b (closing_bracket ∷ []) _ e (or_parts (b == closing_bracket) false h).0
          (more_members n st ms ((b, b) ∷ []) (x, x) (members (x ∷ b ∷ [])) refl)
    ]
behind_run n st ms x (b ∷ c ∷ []) h k =
    let none = or_parts (b == closing_bracket) (has_closing (c ∷ [])) h in
    elim (cases_Bool (b == hyphen)) [
      | inl e ↦
          let is : members (x ∷ b ∷ c ∷ []) ≡ (x, c) ∷ [] = cond-true (b == hyphen) _ _ e in
          let le = and_parts (nat_le x c) true (rw is at k) in
          after_pair n st ms x b c (closing_bracket ∷ []) _ e (or_parts (c == closing_bracket) false none.1).0 le.0
          (ap (λ all. ranged n st (ms ++ all)) (sym is))
      | inr e ↦
          let is : members (x ∷ b ∷ c ∷ []) ≡ (x, x) ∷ members (b ∷ c ∷ []) = cond-false (b == hyphen) _ _ e in
          let le = and_parts (nat_le x x) (list_all rises (members (b ∷ c ∷ []))) (rw is at k) in
          after_byte n st ms x b (c ∷ closing_bracket ∷ []) _ e none.0
          (behind_run n st (ms ++ (x, x) ∷ []) b (c ∷ []) none.1 le.1 ∙ more_members n st ms (members (b ∷ c ∷ [])) (x, x) (members (x ∷ b ∷ c ∷ [])) is)
    ]
behind_run n st ms x (b ∷ c ∷ d ∷ rest) h k =
    let none = or_parts (b == closing_bracket) (has_closing (c ∷ d ∷ rest)) h in
    let none2 = or_parts (c == closing_bracket) (has_closing (d ∷ rest)) none.1 in
    let none3 = or_parts (d == closing_bracket) (has_closing rest) none2.1 in
    elim (cases_Bool (b == hyphen)) [
      | inl e ↦
          let is : members (x ∷ b ∷ c ∷ d ∷ rest) ≡ (x, c) ∷ members (d ∷ rest) = cond-true (b == hyphen) _ _ e in
          let le = and_parts (nat_le x c) (list_all rises (members (d ∷ rest))) (rw is at k) in
          after_pair n st ms x b c (d ∷ (rest ++ closing_bracket ∷ [])) _ e none2.0 le.0
          (one_step (with_mode (between n (ms ++ (x, c) ∷ [])) st) (with_mode (behind n (ms ++ (x, c) ∷ []) d) st) d (rest ++ closing_bracket ∷ []) _ (step_between n st (ms ++ (x, c) ∷ []) d none3.0)
          (behind_run n st (ms ++ (x, c) ∷ []) d rest none3.1 le.1 ∙ more_members n st ms (members (d ∷ rest)) (x, c) (members (x ∷ b ∷ c ∷ d ∷ rest)) is))
      | inr e ↦
          let is : members (x ∷ b ∷ c ∷ d ∷ rest) ≡ (x, x) ∷ members (b ∷ c ∷ d ∷ rest) = cond-false (b == hyphen) _ _ e in
          let le = and_parts (nat_le x x) (list_all rises (members (b ∷ c ∷ d ∷ rest))) (rw is at k) in
          after_byte n st ms x b (c ∷ d ∷ (rest ++ closing_bracket ∷ [])) _ e none.0
          (behind_run n st (ms ++ (x, x) ∷ []) b (c ∷ d ∷ rest) none.1 le.1 ∙ more_members n st ms (members (b ∷ c ∷ d ∷ rest)) (x, x) (members (x ∷ b ∷ c ∷ d ∷ rest)) is)
    ]

open_range : (st : State) (first : ℕ) → (first == caret) ≡ false → next (with_mode opened st) first ≡ Some (with_mode (behind false [] first) st)
open_range st first h = rw h refl

inside : (n : Bool) (st : State) (first : ℕ) (rest : List ℕ) → are_members first rest ≡ true
    → after (with_mode (behind n [] first) st) (rest ++ closing_bracket ∷ []) ≡ ranged n st (members (first ∷ rest))
inside n st first rest h =
    let parts = and_parts (not (has_closing rest)) (list_all rises (members (first ∷ rest))) h in
    behind_run n st [] first rest (not-true (has_closing rest) parts.0) parts.1

reads-after : {p : Part} {a : Tree} {s : List ℕ} → Reads p a s → (st : State) → Begins p st → Leads p a s st
reads-after (one_branch r) st b =
    let d = reads-after r st (b.0, ap (λ (l : Level). l.branch) b.1, ap (λ (l : Level). l.atom) b.1) in record {
      behind = d.behind;
      reads = d.reads;
      ends = record { outer = d.ends.outer; mode = d.ends.mode; makes = ap₂ with_branch (d.ends.before ∙ ap (λ (l : Level). l.before) b.1) d.ends.settles };
    }
reads-after (more_branches {a = x} {b = y} {s = s} {t = t} r q) st b =
    let d = reads-after r st b in
    let mid = barred d.behind in
    let f = reads-after q mid (d.ends.mode, refl, refl) in record {
      behind = f.behind;
      reads = joined st d.behind s (bar ∷ t) _ d.reads (one_step d.behind mid bar t _ (plain_step d.behind bar d.ends.mode) f.reads);
      ends = record { outer = f.ends.outer ∙ d.ends.outer; mode = f.ends.mode; makes = ap₂ with_branch f.ends.before f.ends.settles ∙ ap (λ z. either z y) d.ends.makes };
    }
reads-after no_piece st b = record { behind = st; reads = refl; ends = record { outer = refl; before = refl; mode = b.0; settles = ap₂ with_piece b.1 b.2 } }
reads-after (more_pieces {a = x} {b = y} {s = s} {t = t} r q) st b =
    let d = reads-after r st b in
    let f = reads-after q d.behind d.ends.mode in record {
      behind = f.behind;
      reads = joined st d.behind s t _ d.reads f.reads;
      ends = record { outer = f.ends.outer ∙ d.ends.outer; before = f.ends.before ∙ d.ends.before; mode = f.ends.mode; settles = f.ends.settles ∙ ap (λ z. followed z y) d.ends.settles };
    }
reads-after (alone {a = x} r) st b =
    let d = reads-after r st b in
    record { behind = with_atom x st; reads = d.reads ∙ ap Some d.ends; ends = record { outer = refl; before = refl; mode = refl; settles = refl } }
reads-after (starred {a = x} {s = s} r) st b =
    let d = reads-after r st b in record {
      behind = record (with_atom x st) { level = record { before = st.level.before; branch = followed (settled st.level) (any_number x); atom = None } };
      reads = joined st (with_atom x st) s (asterisk ∷ []) _ (d.reads ∙ ap Some d.ends) refl;
      ends = record { outer = refl; before = refl; mode = refl; settles = refl };
    }
reads-after (repeated {a = x} {s = s} r) st b =
    let d = reads-after r st b in record {
      behind = record (with_atom x st) { level = record { before = st.level.before; branch = followed (settled st.level) (at_least_one x); atom = None } };
      reads = joined st (with_atom x st) s (plus_sign ∷ []) _ (d.reads ∙ ap Some d.ends) refl;
      ends = record { outer = refl; before = refl; mode = refl; settles = refl };
    }
reads-after (optional {a = x} {s = s} r) st b =
    let d = reads-after r st b in record {
      behind = record (with_atom x st) { level = record { before = st.level.before; branch = followed (settled st.level) (at_most_one x); atom = None } };
      reads = joined st (with_atom x st) s (question_mark ∷ []) _ (d.reads ∙ ap Some d.ends) refl;
      ends = record { outer = refl; before = refl; mode = refl; settles = refl };
    }
reads-after (group {a = x} {s = s} r) st b =
    let st1 : State = record st { outer = closed st.level ∷ st.outer; level = fresh } in
    let d = reads-after r st1 (b, refl) in
    record {
      behind = grouped st (whole d.behind.level);
      reads =
          one_step st st1 opening_parenthesis (s ++ closing_parenthesis ∷ []) _ (plain_step st opening_parenthesis b)
          (joined st1 d.behind s (closing_parenthesis ∷ []) _ d.reads
          (one_step d.behind (grouped st (whole d.behind.level)) closing_parenthesis [] _ (plain_step d.behind closing_parenthesis d.ends.mode ∙ ap (group_closed d.behind) d.ends.outer) refl));
      ends = ap (grouped st) d.ends.makes;
    }
reads-after any_byte st b = record { behind = with_atom (symbol any) st; reads = one_step st (with_atom (symbol any) st) dot [] _ (plain_step st dot b) refl; ends = refl }
reads-after at_start st b = record { behind = with_atom text_start st; reads = one_step st (with_atom text_start st) caret [] _ (plain_step st caret b) refl; ends = refl }
reads-after at_end st b = record { behind = with_atom text_end st; reads = one_step st (with_atom text_end st) dollar [] _ (plain_step st dollar b) refl; ends = refl }
reads-after (escaped c) st b =
    record { behind = with_atom (symbol (byte c)) st; reads = one_step st (with_mode escape st) backslash (c ∷ []) _ (plain_step st backslash b) refl; ends = refl }
reads-after (itself c h) st b =
    record { behind = with_atom (symbol (byte c)) st; reads = one_step st (with_atom (symbol (byte c)) st) c [] _ (plain_step st c b ∙ plain_byte st c h) refl; ends = refl }
reads-after (bracketed first rest h k) st b = record {
  behind = with_atom (symbol (range false (members (first ∷ rest)))) st;
  reads =
      one_step st (with_mode opened st) opening_bracket (first ∷ (rest ++ closing_bracket ∷ [])) _ (plain_step st opening_bracket b)
      (one_step (with_mode opened st) (with_mode (behind false [] first) st) first (rest ++ closing_bracket ∷ []) _ (open_range st first h) (inside false st first rest k));
  ends = refl;
}
reads-after (negated first rest k) st b = record {
  behind = with_atom (symbol (range true (members (first ∷ rest)))) st;
  reads =
      one_step st (with_mode opened st) opening_bracket (caret ∷ first ∷ (rest ++ closing_bracket ∷ [])) _ (plain_step st opening_bracket b)
      (one_step (with_mode opened st) (with_mode opened_negated st) caret (first ∷ (rest ++ closing_bracket ∷ [])) _ refl
      (one_step (with_mode opened_negated st) (with_mode (behind true [] first) st) first (rest ++ closing_bracket ∷ []) _ refl (inside true st first rest k)));
  ends = refl;
}

-- an expression is read as its tree
pub reads-tree_of : (e : Tree) (scope : List ℕ) → IsExpression e scope → tree_of scope ≡ Some e
reads-tree_of e scope h =
    let d = reads-after h.0 opening_state (refl, refl) in
    cond-true (nat_le (length scope) 255) (option_and_then finished (after opening_state scope)) None (le-leb (length scope) 255 h.1)
    ∙ ap (option_and_then finished) d.reads
    ∙ ap₂ (finished_in d.behind.level) d.ends.mode d.ends.outer
    ∙ ap Some d.ends.makes
