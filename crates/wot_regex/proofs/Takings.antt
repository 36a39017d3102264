-- The table that is read is the table of what is read.
use Rattle.std.proofs.Common.{◌≡◌, ◌<◌, ◌≤◌, ℕ, ◌+◌, get_or, drop, subst, Bool, true, false, ◌==◌, nat_le, nat_lt, cond, List, [], ◌∷◌, ◌++◌, length, Option, Some, None, is_some, option_map, option_and_then, refl, sym, ap, ap₂, ◌∙◌, append_assoc, append-nil, le-leb, ne_eqb, arith}
use Rattle.std.proofs.lemmas.Bool.{cond-false, cond-true}
use Rattle.std.proofs.lemmas.List.{drop_all, drop_more}
use Rattle.std.proofs.lemmas.Bool.Decides.{nat_tests}
use Rattle.wot_types.specs.Bytes.{backslash, dot, hyphen}
use Rattle.wot_types.specs.Bytes.{asterisk, bar, caret, closing_parenthesis, closing_bracket, dollar, opening_parenthesis, opening_bracket, plus_sign, question_mark}
use Rattle.wot_types.specs.Expression.{Tree, any, any_number, at_least_one, at_most_one, byte, followed, nothing, range, symbol, text_end, text_start}
use Rattle.wot_types.specs.ExpressionReading.{Level, Mode, State, after, behind, between, closed, closed_range, dashed, escape, finished, fresh, group_closed, next, next_plain, opened, opened_negated, opening_state, plain, repeated_by, settled, tree_of, whole, with_atom, with_branch, with_mode, with_piece}
use Rattle.wot_regex.specs.Table.{member_nodes, nodes_of, tree_in, tree_in-nodes_of}
use Rattle.wot_regex.specs.Taking.{atom_added, begun, group_ended, group_opened, range_added, reader_start, repeated_as, table_of, taken, taken_behind, taken_dashed, taken_plain, with_last}
use Rattle.wot_regex.specs.declared.node.Node.{Node}
use Rattle.wot_regex.specs.declared.node.Node.TheVariants.{Any, AnyNumber, AtLeastOne, AtMostOne, Byte, Either, End, Followed, Member, Nothing, Range, Start}
use Rattle.wot_regex.specs.declared.reader.Reader.{Reader}
use Rattle.wot_regex.specs.declared.reader.Mode.{Mode as ReaderMode}
use Rattle.wot_regex.specs.declared.reader.Mode.TheVariants.{Behind, Between, Dashed, Escape, Opened, OpenedNegated, Plain}
use Rattle.wot_regex.proofs.Completes.{barred}

abbrev pub optional_nodes : Option Tree → List Node
optional_nodes None = []
optional_nodes (Some a) = nodes_of a

-- the expressions around this one
abbrev pub outer_nodes : List Level → List Node
outer_nodes [] = []
outer_nodes (level ∷ outer) = (outer_nodes outer ++ optional_nodes level.before) ++ nodes_of level.branch

abbrev pub front_nodes : List Level → Level → List Node
front_nodes outer level = outer_nodes outer ++ optional_nodes level.before

abbrev pub plain_nodes : List Level → Level → List Node
plain_nodes outer level = front_nodes outer level ++ (nodes_of level.branch ++ optional_nodes level.atom)

abbrev pub range_nodes : List Level → Level → Bool → List (ℕ × ℕ) → List Node
range_nodes outer level n ms = front_nodes outer level ++ (nodes_of (settled level) ++ (Range n ∷ member_nodes ms))

abbrev pub state_nodes : List Level → Level → Mode → List Node
state_nodes outer level plain = plain_nodes outer level
state_nodes outer level escape = plain_nodes outer level
state_nodes outer level opened = plain_nodes outer level
state_nodes outer level opened_negated = plain_nodes outer level
state_nodes outer level (between n ms) = range_nodes outer level n ms
state_nodes outer level (behind n ms a) = range_nodes outer level n ms
state_nodes outer level (dashed n ms a) = range_nodes outer level n ms

-- in a range the last atom is a piece
abbrev pub state_atom : Level → Mode → Bool
state_atom level plain = is_some level.atom
state_atom level escape = is_some level.atom
state_atom level opened = is_some level.atom
state_atom level opened_negated = is_some level.atom
state_atom level (between n ms) = false
state_atom level (behind n ms a) = false
state_atom level (dashed n ms a) = false

abbrev pub reader_mode : Mode → ReaderMode
reader_mode plain = Plain
reader_mode escape = Escape
reader_mode opened = Opened
reader_mode opened_negated = OpenedNegated
reader_mode (between n ms) = Between
reader_mode (behind n ms a) = Behind a
reader_mode (dashed n ms a) = Dashed a

abbrev pub bars : List Level → List Bool
bars [] = []
bars (level ∷ outer) = is_some level.before ∷ bars outer

abbrev pub reader_in : List Level → Level → Mode → Reader
reader_in outer level mode = record {
  nodes = state_nodes outer level mode;
  outer = bars outer;
  barred = is_some level.before;
  has_atom = state_atom level mode;
  mode = reader_mode mode;
}

abbrev pub reader_of : State → Reader
reader_of st = reader_in st.outer st.level st.mode

-- what ends an atom and an expression

atom_nodes : (front : List Node) (branch : Tree) (atom : Option Tree) → with_last (is_some atom) (front ++ (nodes_of branch ++ optional_nodes atom)) Followed ≡ front ++ nodes_of (with_piece branch atom)
atom_nodes front branch None = ap (λ x. front ++ x) (append-nil (nodes_of branch))
atom_nodes front branch (Some a) = simp append_assoc

whole_nodes : (front : List Node) (before : Option Tree) (b : Tree) → with_last (is_some before) ((front ++ optional_nodes before) ++ nodes_of b) Either ≡ front ++ nodes_of (with_branch before b)
whole_nodes front None b = ap (λ x. x ++ nodes_of b) (append-nil front)
whole_nodes front (Some a) b = simp append_assoc

atom_ended_nodes : (outer : List Level) (level : Level) → with_last (is_some level.atom) (plain_nodes outer level) Followed ≡ front_nodes outer level ++ nodes_of (settled level)
atom_ended_nodes outer level = atom_nodes (front_nodes outer level) level.branch level.atom

ended_nodes : (outer : List Level) (level : Level) → with_last (is_some level.before) (with_last (is_some level.atom) (plain_nodes outer level) Followed) Either ≡ outer_nodes outer ++ nodes_of (whole level)
ended_nodes outer level =
    ap (λ x. with_last (is_some level.before) x Either) (atom_ended_nodes outer level) ∙ whole_nodes (outer_nodes outer) level.before (settled level)

-- a reader with other parts
abbrev with_nodes : Reader → List Node → Reader
with_nodes r nodes = record r { nodes = nodes }

begun-is : (outer : List Level) (level : Level) → begun (reader_in outer level plain) ≡ reader_in outer (record { before = Some (whole level); branch = nothing; atom = None }) plain
begun-is outer level = ap (λ x. with_nodes (reader_in outer (record { before = Some (whole level); branch = nothing; atom = None }) plain) (x ++ Nothing ∷ [])) (ended_nodes outer level)

opened-is : (outer : List Level) (level : Level) → group_opened (reader_in outer level plain) ≡ reader_in (closed level ∷ outer) fresh plain
opened-is outer level =
    ap (λ x. with_nodes (reader_in (closed level ∷ outer) fresh plain) (x ++ Nothing ∷ [])) (atom_ended_nodes outer level ∙ sym (append-nil (front_nodes outer level ++ nodes_of (settled level))))

closed-is : (outer : List Level) (level : Level) (mode : Mode) → group_ended (reader_in outer level plain) (bars outer) ≡ option_map reader_of (group_closed (record { outer = outer; level = level; mode = mode }) outer)
closed-is [] level mode = refl
closed-is (around ∷ outer) level mode =
    ap (λ x. Some (with_nodes (reader_in outer (record around { atom = Some (whole level) }) plain) x))
    (ended_nodes (around ∷ outer) level ∙ append_assoc (front_nodes outer around) (nodes_of around.branch) (nodes_of (whole level)))

-- `*`, `+` and `?` as parts
repeated-is : (repeat : Tree → Tree) (node : Node) → ((a : Tree) → nodes_of (repeat a) ≡ nodes_of a ++ node ∷ []) → (outer : List Level) (before : Option Tree) (branch : Tree) (atom : Option Tree)
    → repeated_as node (reader_in outer (record { before = before; branch = branch; atom = atom }) plain)
    ≡ option_map reader_of (repeated_by repeat (record { outer = outer; level = record { before = before; branch = branch; atom = atom }; mode = plain }) atom)
repeated-is repeat node is outer before branch None = refl
repeated-is repeat node is outer before branch (Some a) =
    let front = outer_nodes outer ++ optional_nodes before in
    let level : Level = record { before = before; branch = followed branch (repeat a); atom = None } in
    let regroup : ((front ++ (nodes_of branch ++ nodes_of a)) ++ node ∷ []) ++ Followed ∷ [] ≡ front ++ ((nodes_of branch ++ ((nodes_of a ++ node ∷ []) ++ Followed ∷ [])) ++ []) = simp (append_assoc, append-nil) in
    ap (λ x. Some (with_nodes (reader_in outer level plain) x)) (regroup ∙ ap (λ x. front ++ ((nodes_of branch ++ (x ++ Followed ∷ [])) ++ [])) (sym (is a)))

added-is : (outer : List Level) (level : Level) (mode : Mode) (a : Tree) (node : Node) → nodes_of a ≡ node ∷ [] → state_nodes outer level mode ≡ plain_nodes outer level → state_atom level mode ≡ is_some level.atom
    → atom_added node (reader_in outer level mode) ≡ reader_of (with_atom a (record { outer = outer; level = level; mode = mode }))
added-is outer level mode a node is plain_list plain_atom =
    let to = reader_in outer (record { before = level.before; branch = settled level; atom = Some a }) plain in
    ap (with_nodes to)
    (ap₂ (λ x y. with_last x y Followed ++ node ∷ []) plain_atom plain_list
    ∙ ap (λ x. x ++ node ∷ []) (atom_ended_nodes outer level)
    ∙ append_assoc (front_nodes outer level) (nodes_of (settled level)) (node ∷ [])
    ∙ ap (λ x. front_nodes outer level ++ (nodes_of (settled level) ++ x)) (sym is))

range_added-is : (outer : List Level) (level : Level) (mode : Mode) (n : Bool) (b : ℕ) → state_nodes outer level mode ≡ plain_nodes outer level → state_atom level mode ≡ is_some level.atom
    → range_added n b (reader_in outer level mode) ≡ reader_in outer level (behind n [] b)
range_added-is outer level mode n b plain_list plain_atom =
    ap (with_nodes (reader_in outer level (behind n [] b)))
    (ap₂ (λ x y. with_last x y Followed ++ Range n ∷ []) plain_atom plain_list
    ∙ ap (λ x. x ++ Range n ∷ []) (atom_ended_nodes outer level)
    ∙ append_assoc (front_nodes outer level) (nodes_of (settled level)) (Range n ∷ []))

member_push : (ms : List (ℕ × ℕ)) (m : ℕ × ℕ) → member_nodes (ms ++ m ∷ []) ≡ member_nodes ms ++ Member m.0 m.1 ∷ []
member_push [] m = refl
member_push (x ∷ ms) m = ap (λ l. Member x.0 x.1 ∷ l) (member_push ms m)

range_push : (outer : List Level) (level : Level) (n : Bool) (ms : List (ℕ × ℕ)) (m : ℕ × ℕ) → range_nodes outer level n ms ++ Member m.0 m.1 ∷ [] ≡ range_nodes outer level n (ms ++ m ∷ [])
range_push outer level n ms m =
    append_assoc (front_nodes outer level) (nodes_of (settled level) ++ Range n ∷ member_nodes ms) (Member m.0 m.1 ∷ [])
    ∙ ap (λ x. front_nodes outer level ++ x) (append_assoc (nodes_of (settled level)) (Range n ∷ member_nodes ms) (Member m.0 m.1 ∷ []))
    ∙ ap (λ x. front_nodes outer level ++ (nodes_of (settled level) ++ (Range n ∷ x))) (sym (member_push ms m))

-- a test on both sides
cond_map : {A B : Type 0} (f : A → B) (t : Bool) (x y : Option A) (u v : Option B) → u ≡ option_map f x → v ≡ option_map f y → cond t u v ≡ option_map f (cond t x y)
cond_map f true x y u v h k = h
cond_map f false x y u v h k = k

cond_some : {A B : Type 0} (f : A → B) (t : Bool) (x y : A) (u v : B) → u ≡ f x → v ≡ f y → cond t u v ≡ f (cond t x y)
cond_some f true x y u v h k = h
cond_some f false x y u v h k = k

abbrev state_in : List Level → Level → Mode → State
state_in outer level mode = record { outer = outer; level = level; mode = mode }

abbrev more : State → Option Reader
more st = Some (reader_of st)

some_more : (r : Reader) (st : State) → r ≡ reader_of st → Some r ≡ option_map reader_of (Some st)
some_more r st h = ap Some h

taken_plain-is : (outer : List Level) (level : Level) (b : ℕ) → taken_plain (reader_in outer level plain) b ≡ option_map reader_of (next_plain (state_in outer level plain) b)
taken_plain-is outer level b =
    let r = reader_in outer level plain in
    let st = state_in outer level plain in
    cond_map reader_of (b == bar) _ _ _ _ (some_more (begun r) (barred st) (begun-is outer level))
    (cond_map reader_of (b == opening_parenthesis) _ _ _ _ (some_more (group_opened r) (state_in (closed level ∷ outer) fresh plain) (opened-is outer level))
    (cond_map reader_of (b == closing_parenthesis) _ _ _ _ (closed-is outer level plain)
    (cond_map reader_of (b == opening_bracket) _ _ _ _ refl
    (cond_map reader_of (b == dot) _ _ _ _ (some_more (atom_added Any r) (with_atom (symbol any) st) (added-is outer level plain (symbol any) Any refl refl refl))
    (cond_map reader_of (b == caret) _ _ _ _ (some_more (atom_added Start r) (with_atom text_start st) (added-is outer level plain text_start Start refl refl refl))
    (cond_map reader_of (b == dollar) _ _ _ _ (some_more (atom_added End r) (with_atom text_end st) (added-is outer level plain text_end End refl refl refl))
    (cond_map reader_of (b == backslash) _ _ _ _ refl
    (cond_map reader_of (b == asterisk) _ _ _ _ (repeated-is any_number AnyNumber (λ a. refl) outer level.before level.branch level.atom)
    (cond_map reader_of (b == plus_sign) _ _ _ _ (repeated-is at_least_one AtLeastOne (λ a. refl) outer level.before level.branch level.atom)
    (cond_map reader_of (b == question_mark) _ _ _ _ (repeated-is at_most_one AtMostOne (λ a. refl) outer level.before level.branch level.atom)
    (some_more (atom_added (Byte b) r) (with_atom (symbol (byte b)) st) (added-is outer level plain (symbol (byte b)) (Byte b) refl refl refl))))))))))))

behind_is : (outer : List Level) (level : Level) (n : Bool) (ms : List (ℕ × ℕ)) (a b : ℕ)
    → taken_behind (reader_in outer level (behind n ms a)) a b
    ≡ reader_of (cond (b == hyphen) (with_mode (dashed n ms a) (state_in outer level (behind n ms a)))
    (cond (b == closing_bracket) (closed_range n (ms ++ (a, a) ∷ []) (state_in outer level (behind n ms a))) (with_mode (behind n (ms ++ (a, a) ∷ []) b) (state_in outer level (behind n ms a)))))
behind_is outer level n ms a b =
    cond_some reader_of (b == hyphen) _ _ _ _ refl
    (cond_some reader_of (b == closing_bracket) _ _ _ _
    (ap (with_nodes (reader_in outer (record { before = level.before; branch = settled level; atom = Some (symbol (range n (ms ++ (a, a) ∷ []))) }) plain)) (range_push outer level n ms (a, a)))
    (ap (with_nodes (reader_in outer level (behind n (ms ++ (a, a) ∷ []) b))) (range_push outer level n ms (a, a))))

below_or : {A : Type 0} (a b : ℕ) (x y : A) → cond (nat_lt b a) x y ≡ cond (nat_le a b) y x
below_or a b x y = grind (arith, nat_tests)

dashed_is : (outer : List Level) (level : Level) (n : Bool) (ms : List (ℕ × ℕ)) (a b : ℕ) → taken_dashed (reader_in outer level (dashed n ms a)) a b ≡ option_map reader_of (next (state_in outer level (dashed n ms a)) b)
dashed_is outer level n ms a b =
    cond_map reader_of (b == closing_bracket) _ _ _ _
    (ap (λ x. Some (with_nodes (reader_in outer (record { before = level.before; branch = settled level; atom = Some (symbol (range n (ms ++ (a, a) ∷ (hyphen, hyphen) ∷ []))) }) plain) x))
    (ap (λ x. x ++ Member hyphen hyphen ∷ []) (range_push outer level n ms (a, a)) ∙ range_push outer level n (ms ++ (a, a) ∷ []) (hyphen, hyphen) ∙ ap (range_nodes outer level n) (append_assoc ms ((a, a) ∷ []) ((hyphen, hyphen) ∷ []))))
    (below_or a b None _
    ∙ cond_map reader_of (nat_le a b) _ _ _ _ (ap (λ x. Some (with_nodes (reader_in outer level (between n (ms ++ (a, b) ∷ []))) x)) (range_push outer level n ms (a, b))) refl)

pub taken-next : (outer : List Level) (level : Level) (mode : Mode) (b : ℕ) → taken (reader_in outer level mode) b ≡ option_map reader_of (next (state_in outer level mode) b)
taken-next outer level plain b = taken_plain-is outer level b
taken-next outer level escape b = ap Some (added-is outer level escape (symbol (byte b)) (Byte b) refl refl refl)
taken-next outer level opened b = ap Some (cond_some reader_of (b == caret) _ _ _ _ refl (range_added-is outer level opened false b refl refl))
taken-next outer level opened_negated b = ap Some (range_added-is outer level opened_negated true b refl refl)
taken-next outer level (between n ms) b = ap Some (cond_some reader_of (b == closing_bracket) _ _ _ _ refl refl)
taken-next outer level (behind n ms a) b = ap Some (behind_is outer level n ms a b)
taken-next outer level (dashed n ms a) b = dashed_is outer level n ms a b

pub table-finished : (outer : List Level) (level : Level) (mode : Mode) → table_of (reader_in outer level mode) ≡ option_map nodes_of (finished (state_in outer level mode))
table-finished [] level plain = ap Some (ended_nodes [] level)
table-finished (o ∷ outer) level plain =
    let some : (length (bars (o ∷ outer)) == 0) ≡ false = ne_eqb (length (bars (o ∷ outer))) 0 (λ h. absurd (omega arith)) in
    cond-false (length (bars (o ∷ outer)) == 0) _ None some
table-finished outer level escape = refl
table-finished outer level opened = refl
table-finished outer level opened_negated = refl
table-finished outer level (between n ms) = refl
table-finished outer level (behind n ms a) = refl
table-finished outer level (dashed n ms a) = refl

-- a reader and the state that it has
pub record Reading (reader : Reader) (rest : List ℕ) (end : Option State) : Type 0 where
  pub state : State
  pub is : reader ≡ reader_of state
  pub goes_on : after state rest ≡ end

map_none : {A B : Type 0} (f : A → B) (o : Option A) → None ≡ option_map f o → o ≡ None
map_none f None h = refl
map_none f (Some x) h = cc

map_some : {A B : Type 0} (f : A → B) (o : Option A) (y : B) → Some y ≡ option_map f o → (x : A) × (o ≡ Some x) × (y ≡ f x)
map_some f None y h = cc
map_some f (Some x) y h = let e : y ≡ f x = cc in (x, refl, e)

taken_at : (reader : Reader) (b : ℕ) (st : State) → reader ≡ reader_of st → taken reader b ≡ option_map reader_of (next st b)
taken_at reader b st is = ap (λ r. taken r b) is ∙ taken-next st.outer st.level st.mode b

pub reading_starts : (scope : List ℕ) → Reading reader_start scope (after opening_state scope)
reading_starts scope = record { state = opening_state; is = refl; goes_on = refl }

pub reading_fails : (reader : Reader) (b : ℕ) (rest : List ℕ) (end : Option State) → Reading reader (b ∷ rest) end → None ≡ taken reader b → end ≡ None
reading_fails reader b rest end r h =
    let none : next r.state b ≡ None = map_none reader_of (next r.state b) (h ∙ taken_at reader b r.state r.is) in
    sym r.goes_on ∙ ap (option_and_then (λ s. after s rest)) none

pub reading_goes_on : (reader reader' : Reader) (b : ℕ) (rest : List ℕ) (end : Option State) → Reading reader (b ∷ rest) end → Some reader' ≡ taken reader b → Reading reader' rest end
reading_goes_on reader reader' b rest end r h =
    let m = map_some reader_of (next r.state b) reader' (h ∙ taken_at reader b r.state r.is) in
    record { state = m.0; is = m.2; goes_on = sym (ap (option_and_then (λ s. after s rest)) m.1) ∙ r.goes_on }

pub reading_ends : (reader : Reader) (end : Option State) → Reading reader [] end → table_of reader ≡ option_map nodes_of (option_and_then finished end)
reading_ends reader end r = ap table_of r.is ∙ table-finished r.state.outer r.state.level r.state.mode ∙ ap (λ o. option_map nodes_of (option_and_then finished o)) r.goes_on

pub reading_next : (reader : Reader) (scope : List ℕ) (i : ℕ) (end : Option State) → i < length scope → Reading reader (drop i scope) end → Reading reader (get_or scope i 0 ∷ drop (i + 1) scope) end
reading_next reader scope i end lt r = let P : List ℕ → Type 0 = λ x. Reading reader x end in subst P (drop_more scope i 0 lt) r

pub reading_over : (reader : Reader) (scope : List ℕ) (i : ℕ) (end : Option State) → length scope ≤ i → Reading reader (drop i scope) end → Reading reader [] end
reading_over reader scope i end le r = let P : List ℕ → Type 0 = λ x. Reading reader x end in subst P (drop_all i scope le) r

-- the table that was read is that of the tree that was read
pub tabled : (scope : List ℕ) (nodes : List Node) → length scope ≤ 255 → Some nodes ≡ option_map nodes_of (option_and_then finished (after opening_state scope)) → (tree_of scope ≡ Some (tree_in nodes)) × (nodes_of (tree_in nodes) ≡ nodes)
tabled scope nodes le h =
    let m = map_some nodes_of (option_and_then finished (after opening_state scope)) nodes h in
    let same : tree_in nodes ≡ m.0 = ap tree_in m.2 ∙ tree_in-nodes_of m.0 in
    (cond-true (nat_le (length scope) 255) _ None (le-leb (length scope) 255 le) ∙ m.1 ∙ ap Some (sym same), ap nodes_of same ∙ sym m.2)

pub untabled : (scope : List ℕ) → length scope ≤ 255 → None ≡ option_map nodes_of (option_and_then finished (after opening_state scope)) → tree_of scope ≡ None
untabled scope le h = cond-true (nat_le (length scope) 255) _ None (le-leb (length scope) 255 le) ∙ map_none nodes_of (option_and_then finished (after opening_state scope)) h
