-- The walks over the table of a tree are what the tree's marks say.
use Rattle.std.proofs.Common.{◌≡◌, ℕ, suc, Bool, true, false, ◌&&◌, ◌||◌, not, nat_le, cond, List, [], ◌∷◌, ◌++◌, length, replicate, refl, sym, ap, ap₂, ◌∙◌, append_assoc, append-nil, length-append, arith}
use Rattle.wot_types.specs.Expression.{Tree, any, any_number, at_least_one, at_most_one, byte, either, followed, nothing, range, symbol, text_end, text_start}
use Rattle.wot_types.specs.Bytes.{other_case}
use Rattle.wot_types.specs.ExpressionMatch.{is_in_range, is_member}
use Rattle.wot_types.specs.ExpressionMarks.{Marks, ended, passes, shifted, unmarked}
use Rattle.wot_regex.specs.Table.{member_nodes, nodes_of, three}
use Rattle.wot_regex.specs.Cells.{blanks, cells_of, symbol_cells}
use Rattle.wot_regex.specs.Reaching.{marked, nowhere, reach_of}
use Rattle.wot_regex.specs.Gathering.{Back, all_gathered, all_noted, all_spread, back_start, is_between, spread_by}
use Rattle.wot_regex.specs.declared.node.Node.{Node}
use Rattle.wot_regex.specs.declared.node.Node.TheVariants.{AnyNumber, AtLeastOne, AtMostOne, Either, Followed, Member, Range}
use Rattle.wot_regex.specs.declared.reach.Place.{Place}
use Rattle.wot_regex.specs.declared.reach.Reach.{Reach}

-- the same behind a walk from the symbols to the whole
abbrev pub noted_of : Place → (e : Tree) → Marks e → List Reach
noted_of place nothing m = nowhere ∷ []
noted_of place (symbol x) m = symbol_cells x m
noted_of place text_start m = nowhere ∷ []
noted_of place text_end m = nowhere ∷ []
noted_of place (followed a b) m = noted_of place a m.0 ++ (noted_of place b m.1 ++ reach_of place a m.0 ∷ [])
noted_of place (either a b) m = noted_of place a m.0 ++ (noted_of place b m.1 ++ nowhere ∷ [])
noted_of place (any_number a) m = noted_of place a m ++ reach_of place a m ∷ []
noted_of place (at_least_one a) m = noted_of place a m ++ reach_of place a m ∷ []
noted_of place (at_most_one a) m = noted_of place a m ++ nowhere ∷ []

-- from the symbols to the whole

gather_members : (place : Place) (ms : List (ℕ × ℕ)) (ns : List Node) (cs st : List Reach) → all_gathered place (member_nodes ms ++ ns) (blanks ms ++ cs) st ≡ all_gathered place ns cs st
gather_members place [] ns cs st = refl
gather_members place (m ∷ ms) ns cs st = gather_members place ms ns cs st

pub gather_tree : (place : Place) (e : Tree) (m : Marks e) (ns : List Node) (cs st : List Reach) → all_gathered place (nodes_of e ++ ns) (cells_of e m ++ cs) st ≡ all_gathered place ns cs (reach_of place e m ∷ st)
gather_tree place nothing m ns cs st = refl
gather_tree place (symbol any) m ns cs st = refl
gather_tree place (symbol (byte b)) m ns cs st = refl
gather_tree place (symbol (range n ms)) m ns cs st = gather_members place ms ns cs (marked m ∷ st)
gather_tree place text_start m ns cs st = refl
gather_tree place text_end m ns cs st = refl
gather_tree place (followed a b) m ns cs st =
    ap₂ (λ x y. all_gathered place x y st) (three (nodes_of a) (nodes_of b) (Followed ∷ []) ns) (three (cells_of a m.0) (cells_of b m.1) (nowhere ∷ []) cs)
    ∙ gather_tree place a m.0 (nodes_of b ++ Followed ∷ ns) (cells_of b m.1 ++ nowhere ∷ cs) st
    ∙ gather_tree place b m.1 (Followed ∷ ns) (nowhere ∷ cs) (reach_of place a m.0 ∷ st)
gather_tree place (either a b) m ns cs st =
    ap₂ (λ x y. all_gathered place x y st) (three (nodes_of a) (nodes_of b) (Either ∷ []) ns) (three (cells_of a m.0) (cells_of b m.1) (nowhere ∷ []) cs)
    ∙ gather_tree place a m.0 (nodes_of b ++ Either ∷ ns) (cells_of b m.1 ++ nowhere ∷ cs) st
    ∙ gather_tree place b m.1 (Either ∷ ns) (nowhere ∷ cs) (reach_of place a m.0 ∷ st)
gather_tree place (any_number a) m ns cs st =
    ap₂ (λ x y. all_gathered place x y st) (append_assoc (nodes_of a) (AnyNumber ∷ []) ns) (append_assoc (cells_of a m) (nowhere ∷ []) cs)
    ∙ gather_tree place a m (AnyNumber ∷ ns) (nowhere ∷ cs) st
gather_tree place (at_least_one a) m ns cs st =
    ap₂ (λ x y. all_gathered place x y st) (append_assoc (nodes_of a) (AtLeastOne ∷ []) ns) (append_assoc (cells_of a m) (nowhere ∷ []) cs)
    ∙ gather_tree place a m (AtLeastOne ∷ ns) (nowhere ∷ cs) st
gather_tree place (at_most_one a) m ns cs st =
    ap₂ (λ x y. all_gathered place x y st) (append_assoc (nodes_of a) (AtMostOne ∷ []) ns) (append_assoc (cells_of a m) (nowhere ∷ []) cs)
    ∙ gather_tree place a m (AtMostOne ∷ ns) (nowhere ∷ cs) st

note_members : (place : Place) (ms : List (ℕ × ℕ)) (ns : List Node) (cs st : List Reach) → all_noted place (member_nodes ms ++ ns) (blanks ms ++ cs) st ≡ blanks ms ++ all_noted place ns cs st
note_members place [] ns cs st = refl
note_members place (m ∷ ms) ns cs st = ap (λ x. nowhere ∷ x) (note_members place ms ns cs st)

pub note_tree : (place : Place) (e : Tree) (m : Marks e) (ns : List Node) (cs st : List Reach) → all_noted place (nodes_of e ++ ns) (cells_of e m ++ cs) st ≡ noted_of place e m ++ all_noted place ns cs (reach_of place e m ∷ st)
note_tree place nothing m ns cs st = refl
note_tree place (symbol any) m ns cs st = refl
note_tree place (symbol (byte b)) m ns cs st = refl
note_tree place (symbol (range n ms)) m ns cs st = ap (λ x. marked m ∷ x) (note_members place ms ns cs (marked m ∷ st))
note_tree place text_start m ns cs st = refl
note_tree place text_end m ns cs st = refl
note_tree place (followed a b) m ns cs st =
    ap₂ (λ x y. all_noted place x y st) (three (nodes_of a) (nodes_of b) (Followed ∷ []) ns) (three (cells_of a m.0) (cells_of b m.1) (nowhere ∷ []) cs)
    ∙ note_tree place a m.0 (nodes_of b ++ Followed ∷ ns) (cells_of b m.1 ++ nowhere ∷ cs) st
    ∙ ap (λ x. noted_of place a m.0 ++ x) (note_tree place b m.1 (Followed ∷ ns) (nowhere ∷ cs) (reach_of place a m.0 ∷ st))
    ∙ sym (three (noted_of place a m.0) (noted_of place b m.1) (reach_of place a m.0 ∷ []) (all_noted place ns cs (reach_of place (followed a b) m ∷ st)))
note_tree place (either a b) m ns cs st =
    ap₂ (λ x y. all_noted place x y st) (three (nodes_of a) (nodes_of b) (Either ∷ []) ns) (three (cells_of a m.0) (cells_of b m.1) (nowhere ∷ []) cs)
    ∙ note_tree place a m.0 (nodes_of b ++ Either ∷ ns) (cells_of b m.1 ++ nowhere ∷ cs) st
    ∙ ap (λ x. noted_of place a m.0 ++ x) (note_tree place b m.1 (Either ∷ ns) (nowhere ∷ cs) (reach_of place a m.0 ∷ st))
    ∙ sym (three (noted_of place a m.0) (noted_of place b m.1) (nowhere ∷ []) (all_noted place ns cs (reach_of place (either a b) m ∷ st)))
note_tree place (any_number a) m ns cs st =
    ap₂ (λ x y. all_noted place x y st) (append_assoc (nodes_of a) (AnyNumber ∷ []) ns) (append_assoc (cells_of a m) (nowhere ∷ []) cs)
    ∙ note_tree place a m (AnyNumber ∷ ns) (nowhere ∷ cs) st
    ∙ sym (append_assoc (noted_of place a m) (reach_of place a m ∷ []) (all_noted place ns cs (reach_of place (any_number a) m ∷ st)))
note_tree place (at_least_one a) m ns cs st =
    ap₂ (λ x y. all_noted place x y st) (append_assoc (nodes_of a) (AtLeastOne ∷ []) ns) (append_assoc (cells_of a m) (nowhere ∷ []) cs)
    ∙ note_tree place a m (AtLeastOne ∷ ns) (nowhere ∷ cs) st
    ∙ sym (append_assoc (noted_of place a m) (reach_of place a m ∷ []) (all_noted place ns cs (reach_of place (at_least_one a) m ∷ st)))
note_tree place (at_most_one a) m ns cs st =
    ap₂ (λ x y. all_noted place x y st) (append_assoc (nodes_of a) (AtMostOne ∷ []) ns) (append_assoc (cells_of a m) (nowhere ∷ []) cs)
    ∙ note_tree place a m (AtMostOne ∷ ns) (nowhere ∷ cs) st
    ∙ sym (append_assoc (noted_of place a m) (nowhere ∷ []) (all_noted place ns cs (reach_of place (at_most_one a) m ∷ st)))

-- lengths

blanks_length : (ms : List (ℕ × ℕ)) → length (member_nodes ms) ≡ length (blanks ms)
blanks_length [] = refl
blanks_length (m ∷ ms) = ap (λ n. suc n) (blanks_length ms)

same_two : {A B : Type 0} (xs ys : List A) (x : A) (us vs : List B) (u : B) → length xs ≡ length us → length ys ≡ length vs → length (xs ++ (ys ++ x ∷ [])) ≡ length (us ++ (vs ++ u ∷ []))
same_two xs ys x us vs u h k = simp length-append (omega arith)

same_one : {A B : Type 0} (xs : List A) (x : A) (us : List B) (u : B) → length xs ≡ length us → length (xs ++ x ∷ []) ≡ length (us ++ u ∷ [])
same_one xs x us u h = simp length-append (omega arith)

noted_length : (place : Place) (e : Tree) (m : Marks e) → length (nodes_of e) ≡ length (noted_of place e m)
noted_length place nothing m = refl
noted_length place (symbol any) m = refl
noted_length place (symbol (byte b)) m = refl
noted_length place (symbol (range n ms)) m = ap (λ n. suc n) (blanks_length ms)
noted_length place text_start m = refl
noted_length place text_end m = refl
noted_length place (followed a b) m = same_two (nodes_of a) (nodes_of b) Followed (noted_of place a m.0) (noted_of place b m.1) (reach_of place a m.0) (noted_length place a m.0) (noted_length place b m.1)
noted_length place (either a b) m = same_two (nodes_of a) (nodes_of b) Either (noted_of place a m.0) (noted_of place b m.1) nowhere (noted_length place a m.0) (noted_length place b m.1)
noted_length place (any_number a) m = same_one (nodes_of a) AnyNumber (noted_of place a m) (reach_of place a m) (noted_length place a m)
noted_length place (at_least_one a) m = same_one (nodes_of a) AtLeastOne (noted_of place a m) (reach_of place a m) (noted_length place a m)
noted_length place (at_most_one a) m = same_one (nodes_of a) AtMostOne (noted_of place a m) nowhere (noted_length place a m)

-- and back

spread-append : (b : ℕ) (ns ms : List Node) (cs ds : List Reach) (back : Back) → length ns ≡ length cs → all_spread b (ns ++ ms) (cs ++ ds) back ≡ all_spread b ns cs (all_spread b ms ds back)
spread-append b [] ms [] ds back h = refl
spread-append b [] ms (c ∷ cs) ds back h = absurd (omega arith)
spread-append b (n ∷ ns) ms [] ds back h = absurd (omega arith)
spread-append b (n ∷ ns) ms (c ∷ cs) ds back h = ap (spread_by b n c) (spread-append b ns ms cs ds back (omega arith))

-- where a part may begin, and the cells behind it
abbrev pub entering : Bool → List Reach → List Reach → Back
entering entry st cs = record { entries = marked entry ∷ st; member = false; cells = cs }

abbrev pub leaving : List Reach → List Reach → Back
leaving st cs = record { entries = st; member = false; cells = cs }

-- a member has the byte, or its other case
hits : List (ℕ × ℕ) → ℕ → Bool
hits [] b = false
hits (m ∷ ms) b = hits ms b || is_between m.0 m.1 b

regroup_or : (p q x y : Bool) → ((x || y) || (p || q)) ≡ ((p || x) || (q || y))
regroup_or true true true true = refl
regroup_or true true true false = refl
regroup_or true true false true = refl
regroup_or true true false false = refl
regroup_or true false true true = refl
regroup_or true false true false = refl
regroup_or true false false true = refl
regroup_or true false false false = refl
regroup_or false true true true = refl
regroup_or false true true false = refl
regroup_or false true false true = refl
regroup_or false true false false = refl
regroup_or false false true true = refl
regroup_or false false true false = refl
regroup_or false false false true = refl
regroup_or false false false false = refl

hits-in_range : (ms : List (ℕ × ℕ)) (b : ℕ) → hits ms b ≡ is_in_range ms b
unfolding hits
hits-in_range [] b = refl
hits-in_range (m ∷ ms) b =
    ap (λ x. x || is_between m.0 m.1 b) (hits-in_range ms b)
    ∙ regroup_or (nat_le m.0 b && nat_le b m.1) (nat_le m.0 (other_case b) && nat_le (other_case b) m.1) (is_member ms b) (is_member ms (other_case b))

spread_members : (b : ℕ) (ms : List (ℕ × ℕ)) (st cs : List Reach) → all_spread b (member_nodes ms) (blanks ms) (leaving st cs) ≡ record { entries = st; member = hits ms b; cells = blanks ms ++ cs }
unfolding hits
spread_members b [] st cs = refl
spread_members b (m ∷ ms) st cs = ap (spread_by b (Member m.0 m.1) nowhere) (spread_members b ms st cs)

and_true : (x : Bool) → x ≡ (x && true)
and_true true = refl
and_true false = refl

-- the shifted marks at a place
abbrev pub shifted_at : Place → ℕ → Bool → (e : Tree) → Marks e → Marks e
shifted_at place b entry e m = shifted place.start place.end b entry e m

pub spread_tree : (place : Place) (b : ℕ) (entry : Bool) (e : Tree) (m : Marks e) (st cs : List Reach)
    → all_spread b (nodes_of e) (noted_of place e m) (entering entry st cs) ≡ leaving st (cells_of e (shifted_at place b entry e m) ++ cs)
spread_tree place b entry nothing m st cs = refl
spread_tree place b entry (symbol any) m st cs = ap (λ x. leaving st (marked x ∷ cs)) (and_true entry)
spread_tree place b entry (symbol (byte a)) m st cs = refl
spread_tree place b entry (symbol (range n ms)) m st cs =
    ap (spread_by b (Range n) (marked m)) (spread_members b ms (marked entry ∷ st) cs)
    ∙ ap (λ x. leaving st (marked (entry && cond n (not x) x) ∷ (blanks ms ++ cs))) (hits-in_range ms b)
spread_tree place b entry text_start m st cs = refl
spread_tree place b entry text_end m st cs = refl
spread_tree place b entry (followed x y) m st cs =
    let mid = (entry && passes place.start place.end x) || ended place.start place.end x m.0 in
    spread-append b (nodes_of x) (nodes_of y ++ Followed ∷ []) (noted_of place x m.0) (noted_of place y m.1 ++ reach_of place x m.0 ∷ []) (entering entry st cs) (noted_length place x m.0)
    ∙ ap (all_spread b (nodes_of x) (noted_of place x m.0))
    (spread-append b (nodes_of y) (Followed ∷ []) (noted_of place y m.1) (reach_of place x m.0 ∷ []) (entering entry st cs) (noted_length place y m.1)
    ∙ spread_tree place b mid y m.1 (marked entry ∷ st) (nowhere ∷ cs))
    ∙ spread_tree place b entry x m.0 st (cells_of y (shifted_at place b mid y m.1) ++ nowhere ∷ cs)
    ∙ ap (leaving st) (sym (three (cells_of x (shifted_at place b entry x m.0)) (cells_of y (shifted_at place b mid y m.1)) (nowhere ∷ []) cs))
spread_tree place b entry (either x y) m st cs =
    spread-append b (nodes_of x) (nodes_of y ++ Either ∷ []) (noted_of place x m.0) (noted_of place y m.1 ++ nowhere ∷ []) (entering entry st cs) (noted_length place x m.0)
    ∙ ap (all_spread b (nodes_of x) (noted_of place x m.0))
    (spread-append b (nodes_of y) (Either ∷ []) (noted_of place y m.1) (nowhere ∷ []) (entering entry st cs) (noted_length place y m.1)
    ∙ spread_tree place b entry y m.1 (marked entry ∷ st) (nowhere ∷ cs))
    ∙ spread_tree place b entry x m.0 st (cells_of y (shifted_at place b entry y m.1) ++ nowhere ∷ cs)
    ∙ ap (leaving st) (sym (three (cells_of x (shifted_at place b entry x m.0)) (cells_of y (shifted_at place b entry y m.1)) (nowhere ∷ []) cs))
spread_tree place b entry (any_number x) m st cs =
    let again = entry || ended place.start place.end x m in
    spread-append b (nodes_of x) (AnyNumber ∷ []) (noted_of place x m) (reach_of place x m ∷ []) (entering entry st cs) (noted_length place x m)
    ∙ spread_tree place b again x m st (nowhere ∷ cs)
    ∙ ap (leaving st) (sym (append_assoc (cells_of x (shifted_at place b again x m)) (nowhere ∷ []) cs))
spread_tree place b entry (at_least_one x) m st cs =
    let again = entry || ended place.start place.end x m in
    spread-append b (nodes_of x) (AtLeastOne ∷ []) (noted_of place x m) (reach_of place x m ∷ []) (entering entry st cs) (noted_length place x m)
    ∙ spread_tree place b again x m st (nowhere ∷ cs)
    ∙ ap (leaving st) (sym (append_assoc (cells_of x (shifted_at place b again x m)) (nowhere ∷ []) cs))
spread_tree place b entry (at_most_one x) m st cs =
    spread-append b (nodes_of x) (AtMostOne ∷ []) (noted_of place x m) (nowhere ∷ []) (entering entry st cs) (noted_length place x m)
    ∙ spread_tree place b entry x m st (nowhere ∷ cs)
    ∙ ap (leaving st) (sym (append_assoc (cells_of x (shifted_at place b entry x m)) (nowhere ∷ []) cs))

-- a whole table

pub gather_whole : (place : Place) (e : Tree) (m : Marks e) → all_gathered place (nodes_of e) (cells_of e m) [] ≡ reach_of place e m ∷ []
gather_whole place e m =
    ap₂ (λ x y. all_gathered place x y []) (sym (append-nil (nodes_of e))) (sym (append-nil (cells_of e m))) ∙ gather_tree place e m [] [] []

pub note_whole : (place : Place) (e : Tree) (m : Marks e) → all_noted place (nodes_of e) (cells_of e m) [] ≡ noted_of place e m
note_whole place e m =
    ap₂ (λ x y. all_noted place x y []) (sym (append-nil (nodes_of e))) (sym (append-nil (cells_of e m))) ∙ note_tree place e m [] [] [] ∙ append-nil (noted_of place e m)

pub spread_whole : (place : Place) (b : ℕ) (e : Tree) (m : Marks e) → (all_spread b (nodes_of e) (noted_of place e m) back_start).cells ≡ cells_of e (shifted_at place b true e m)
spread_whole place b e m = ap (λ (back : Back). back.cells) (spread_tree place b true e m [] []) ∙ append-nil (cells_of e (shifted_at place b true e m))

-- a table without marks

blank_members : (ms : List (ℕ × ℕ)) → replicate (length (member_nodes ms)) nowhere ≡ blanks ms
blank_members [] = refl
blank_members (m ∷ ms) = ap (λ x. nowhere ∷ x) (blank_members ms)

blank_append : (ns ms : List Node) → replicate (length (ns ++ ms)) nowhere ≡ replicate (length ns) nowhere ++ replicate (length ms) nowhere
blank_append [] ms = refl
blank_append (n ∷ ns) ms = ap (λ x. nowhere ∷ x) (blank_append ns ms)

blank_two : (ns ms : List Node) (n : Node) (cs ds : List Reach) → replicate (length ns) nowhere ≡ cs → replicate (length ms) nowhere ≡ ds → replicate (length (ns ++ (ms ++ n ∷ []))) nowhere ≡ cs ++ (ds ++ nowhere ∷ [])
blank_two ns ms n cs ds h k = blank_append ns (ms ++ n ∷ []) ∙ ap₂ (λ x y. x ++ y) h (blank_append ms (n ∷ []) ∙ ap (λ x. x ++ nowhere ∷ []) k)

blank_one : (ns : List Node) (n : Node) (cs : List Reach) → replicate (length ns) nowhere ≡ cs → replicate (length (ns ++ n ∷ [])) nowhere ≡ cs ++ nowhere ∷ []
blank_one ns n cs h = blank_append ns (n ∷ []) ∙ ap (λ x. x ++ nowhere ∷ []) h

pub blank_tree : (e : Tree) → replicate (length (nodes_of e)) nowhere ≡ cells_of e (unmarked e)
blank_tree nothing = refl
blank_tree (symbol any) = refl
blank_tree (symbol (byte b)) = refl
blank_tree (symbol (range n ms)) = ap (λ x. nowhere ∷ x) (blank_members ms)
blank_tree text_start = refl
blank_tree text_end = refl
blank_tree (followed a b) = blank_two (nodes_of a) (nodes_of b) Followed (cells_of a (unmarked a)) (cells_of b (unmarked b)) (blank_tree a) (blank_tree b)
blank_tree (either a b) = blank_two (nodes_of a) (nodes_of b) Either (cells_of a (unmarked a)) (cells_of b (unmarked b)) (blank_tree a) (blank_tree b)
blank_tree (any_number a) = blank_one (nodes_of a) AnyNumber (cells_of a (unmarked a)) (blank_tree a)
blank_tree (at_least_one a) = blank_one (nodes_of a) AtLeastOne (cells_of a (unmarked a)) (blank_tree a)
blank_tree (at_most_one a) = blank_one (nodes_of a) AtMostOne (cells_of a (unmarked a)) (blank_tree a)
