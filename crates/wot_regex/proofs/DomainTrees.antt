-- The tree of a scope of the domain form.
use Rattle.std.proofs.Common.{◌≡◌, ◌≤◌, ◌+◌, ◌-◌, ℕ, ◌==◌, Bool, true, false, ◌&&◌, not, cond, List, [], ◌∷◌, ◌++◌, length, take, drop, nat_eq, nat_le, Option, Some, None, option_and_then, inl, inr, ◌⊎◌, refl, sym, ap, ap₂, ◌∙◌, subst, eqb-true, le-leb, leb-true, arith}
use Rattle.std.proofs.lemmas.Bool.{and_parts, cond-true, false_from_ne_true, false≢true}
use Rattle.std.proofs.lemmas.List.{drop-drop, take-append-drop}
use Rattle.std.specs.Cmp.Lexicographic.{pointwise}
use Rattle.wot_types.specs.Bytes.{backslash, dot}
use Rattle.wot_types.specs.Records.{is_alphanumeric}
use Rattle.wot_types.specs.DomainForm.{closing as form_closing, domain_of, domain_part, has_domain_form, is_plain, opening as form_opening, pieces, with_byte}
use Rattle.wot_types.specs.Bytes.{asterisk, bar, caret, closing_parenthesis, dollar, opening_parenthesis, opening_bracket, plus_sign, question_mark}
use Rattle.wot_types.specs.ExpressionGrammar.{is_special}
use Rattle.wot_types.specs.Expression.{Tree, at_least_one, byte, followed, nothing, range, symbol, text_end}
use Rattle.wot_types.specs.ExpressionReading.{Level, State, after, escape, finished, finished_in, next, opening_state, plain, settled, tree_of, with_atom, with_branch, with_mode}
use Rattle.wot_regex.proofs.Completes.{Settles, joined, one_step, plain_byte, plain_step}
use Rattle.wot_regex.proofs.Suffixes.{bytes_tree}

-- a byte that stands for itself in a domain does so in an expression

unlike : (c s : ℕ) → is_plain c ≡ true → is_plain s ≡ false → (c == s) ≡ false
unlike c s h k = false_from_ne_true (c == s) (λ e. false≢true (sym k ∙ ap is_plain (sym (eqb-true c s e)) ∙ h))

plain_not_special : (c : ℕ) → is_plain c ≡ true → is_special c ≡ false
plain_not_special c h =
    rw (unlike c bar h refl, unlike c opening_parenthesis h refl, unlike c closing_parenthesis h refl, unlike c opening_bracket h refl, unlike c dot h refl, unlike c caret h refl, unlike c dollar h refl, unlike c backslash h refl, unlike c asterisk h refl, unlike c plus_sign h refl, unlike c question_mark h refl) refl

plain_piece : (st : State) (c : ℕ) → st.mode ≡ plain → is_plain c ≡ true → next st c ≡ Some (with_atom (symbol (byte c)) st)
plain_piece st c m h = plain_step st c m ∙ plain_byte st c (plain_not_special c h)

chosen : {A : Type 0} (t : Bool) (x y z : A) → cond t x y ≡ z → ((t ≡ true) × (x ≡ z)) ⊎ ((t ≡ false) × (y ≡ z))
chosen true x y z h = inl (refl, h)
chosen false x y z h = inr (refl, h)

with_byte_some : (c : ℕ) (o : Option (List ℕ)) (d : List ℕ) → with_byte c o ≡ Some d → (rest : List ℕ) × (o ≡ Some rest) × (d ≡ c ∷ rest)
with_byte_some c None d h = cc
with_byte_some c (Some rest) d h = let e : d ≡ c ∷ rest = cc in (rest, refl, e)

record Pieces (st : State) (ps d : List ℕ) : Type 0 where
  behind : State
  reads : after st ps ≡ Some behind
  ends : Settles st behind (bytes_tree (settled st.level) d)

-- one piece more
more_pieces : (st : State) (c : ℕ) (d ps : List ℕ) → Pieces (with_atom (symbol (byte c)) st) ps d → (b : State) × (after (with_atom (symbol (byte c)) st) ps ≡ Some b) × Settles st b (bytes_tree (settled st.level) (c ∷ d))
more_pieces st c d ps p = (p.behind, p.reads, record { outer = p.ends.outer; before = p.ends.before; mode = p.ends.mode; settles = p.ends.settles })

piece_at : (st : State) (c : ℕ) (rest d d' : List ℕ) → st.mode ≡ plain → is_plain c ≡ true → d ≡ c ∷ d' → Pieces (with_atom (symbol (byte c)) st) rest d' → Pieces st (c ∷ rest) d
piece_at st c rest d d' m h e p =
    let q = more_pieces st c d' rest p in
    let P : List ℕ → Type 0 = λ x. Settles st q.0 (bytes_tree (settled st.level) x) in
    record { behind = q.0; reads = one_step st (with_atom (symbol (byte c)) st) c rest (Some q.0) (plain_piece st c m h) q.1; ends = subst P (sym e) q.2 }

escaped_at : (st : State) (c b : ℕ) (rest d d' : List ℕ) → st.mode ≡ plain → c ≡ backslash → d ≡ b ∷ d' → Pieces (with_atom (symbol (byte b)) st) rest d' → Pieces st (c ∷ b ∷ rest) d
escaped_at st c b rest d d' m h e p =
    let q = more_pieces st b d' rest p in
    let P : List ℕ → Type 0 = λ x. Settles st q.0 (bytes_tree (settled st.level) x) in
    let there : after st (backslash ∷ b ∷ rest) ≡ Some q.0 =
    one_step st (with_mode escape st) backslash (b ∷ rest) (Some q.0) (plain_step st backslash m)
    (one_step (with_mode escape st) (with_atom (symbol (byte b)) st) b rest (Some q.0) refl q.1) in
    record { behind = q.0; reads = ap (λ x. after st (x ∷ b ∷ rest)) h ∙ there; ends = subst P (sym e) q.2 }

read_pieces : (ps d : List ℕ) (st : State) → st.mode ≡ plain → pieces ps ≡ Some d → Pieces st ps d
read_pieces [] d st m h =
    let e : d ≡ [] = cc in
    let P : List ℕ → Type 0 = λ x. Settles st st (bytes_tree (settled st.level) x) in
    record { behind = st; reads = refl; ends = subst P (sym e) (record { outer = refl; before = refl; mode = m; settles = refl }) }
read_pieces (c ∷ []) d st m h =
    elim (chosen (is_plain c) (Some (c ∷ [])) None (Some d) h) [
      | inl t ↦
          let e : d ≡ c ∷ [] = cc (t.1) in
          piece_at st c [] d [] m t.0 e (record { behind = with_atom (symbol (byte c)) st; reads = refl; ends = record { outer = refl; before = refl; mode = refl; settles = refl } })
      | inr t ↦ cc (t.1)
    ]
read_pieces (c ∷ b ∷ rest) d st m h =
    elim (chosen (is_plain c) (with_byte c (pieces (b ∷ rest))) _ (Some d) h) [
      | inl t ↦
          let w = with_byte_some c (pieces (b ∷ rest)) d t.1 in
          piece_at st c (b ∷ rest) d w.0 m t.0 w.2 (read_pieces (b ∷ rest) w.0 (with_atom (symbol (byte c)) st) refl w.1)
      | inr t ↦ elim (chosen ((c == backslash) && not (is_alphanumeric b)) (with_byte b (pieces rest)) None (Some d) t.1) [
        | inl s ↦
            let w = with_byte_some b (pieces rest) d s.1 in
            let parts = and_parts (c == backslash) (not (is_alphanumeric b)) s.0 in
            escaped_at st c b rest d w.0 m (eqb-true c backslash parts.0) w.2 (read_pieces rest w.0 (with_atom (symbol (byte b)) st) refl w.1)
        | inr s ↦ cc (s.1)
      ]
    ]

-- the parts around the domain

same_bytes : (xs ys : List ℕ) → pointwise nat_eq xs ys ≡ true → xs ≡ ys
same_bytes [] [] h = refl
same_bytes [] (y ∷ ys) h = cc (h)
same_bytes (x ∷ xs) [] h = cc (h)
same_bytes (x ∷ xs) (y ∷ ys) h =
    let parts = and_parts (x == y) (pointwise nat_eq xs ys) h in ap₂ (λ a bs. a ∷ bs) (eqb-true x y parts.0) (same_bytes xs ys parts.1)

abbrev pub local_part : Tree
local_part = symbol (range true ((62, 62) ∷ []))

abbrev pub separator_part : Tree
separator_part = symbol (range false ((64, 64) ∷ (46, 46) ∷ []))

-- `<[^>]+[@.]`
abbrev pub address_tree : Tree
address_tree = followed (followed (followed nothing (symbol (byte 60))) (at_least_one local_part)) separator_part

abbrev pub domain_tree : List ℕ → Tree
domain_tree d = followed (followed (bytes_tree address_tree d) (symbol (byte 62))) text_end

abbrev begun_level : Level
begun_level = record { before = None; branch = followed (followed nothing (symbol (byte 60))) (at_least_one local_part); atom = Some separator_part }

begun_state : State
begun_state = record { outer = []; level = begun_level; mode = plain }

reads_opening : after opening_state form_opening ≡ Some begun_state
unfolding begun_state
reads_opening = refl

-- the parts of a scope of the domain form
form_parts : (scope : List ℕ) → has_domain_form scope ≡ true → scope ≡ form_opening ++ (domain_part scope ++ form_closing)
form_parts scope h =
    let n = length scope in
    let two = and_parts (nat_le 13 n && pointwise nat_eq (take 10 scope) form_opening) (pointwise nat_eq (drop (n - 2) scope) form_closing) h in
    let one = and_parts (nat_le 13 n) (pointwise nat_eq (take 10 scope) form_opening) two.0 in
    let long : 13 ≤ n = leb-true 13 n one.0 in
    let at : 10 + (n - 12) ≡ n - 2 = omega arith in
    let end : drop (n - 12) (drop 10 scope) ≡ form_closing = drop-drop (n - 12) 10 scope ∙ ap (λ k. drop k scope) at ∙ same_bytes (drop (n - 2) scope) form_closing two.1 in
    sym (take-append-drop 10 scope)
    ∙ ap₂ (λ x y. x ++ y) (same_bytes (take 10 scope) form_opening one.1) (sym (take-append-drop (n - 12) (drop 10 scope)) ∙ ap (λ x. domain_part scope ++ x) end)

sign_at : (st : State) (c : ℕ) (rest : List ℕ) (o : Option State) → st.mode ≡ plain → is_special c ≡ false → after (with_atom (symbol (byte c)) st) rest ≡ o → after st (c ∷ rest) ≡ o
sign_at st c rest o m h e = one_step st (with_atom (symbol (byte c)) st) c rest o (plain_step st c m ∙ plain_byte st c h) e

reads_closing : (st : State) → st.mode ≡ plain → after st form_closing ≡ Some (with_atom text_end (with_atom (symbol (byte 62)) st))
reads_closing st m =
    sign_at st 62 (36 ∷ []) (Some (with_atom text_end (with_atom (symbol (byte 62)) st))) m refl refl

-- a scope of the domain form is read as the tree of its domain
pub reads_domain : (scope d : List ℕ) → domain_of scope ≡ Some d → length scope ≤ 255 → tree_of scope ≡ Some (domain_tree d)
unfolding begun_state
reads_domain scope d h le =
    elim (chosen (has_domain_form scope) (pieces (domain_part scope)) None (Some d) h) [
      | inl t ↦
          let p = read_pieces (domain_part scope) d begun_state refl t.1 in
          let last : State = with_atom text_end (with_atom (symbol (byte 62)) p.behind) in
          let read : after opening_state scope ≡ Some last =
          ap (after opening_state) (form_parts scope t.0)
          ∙ joined opening_state begun_state form_opening (domain_part scope ++ form_closing) (Some last) reads_opening
          (joined begun_state p.behind (domain_part scope) form_closing (Some last) p.reads (reads_closing p.behind p.ends.mode)) in
          cond-true (nat_le (length scope) 255) (option_and_then finished (after opening_state scope)) None (le-leb (length scope) 255 le)
          ∙ ap (option_and_then finished) read
          ∙ ap (finished_in last.level plain) p.ends.outer
          ∙ ap Some (ap (λ o. with_branch o (settled last.level)) p.ends.before ∙ ap (λ b. followed (followed b (symbol (byte 62))) text_end) p.ends.settles)
      | inr t ↦ cc (t.1)
    ]
