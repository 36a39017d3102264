-- What comes next from marks together.
use Rattle.std.proofs.Common.{◌≡◌, ◌≢◌, ℕ, suc, zero, ◌+◌, ◌/◌, ◌%◌, ◌<◌, ◌≤◌, ◌==◌, ◌⊎◌, inl, inr, Bool, true, false, ◌&&◌, ◌||◌, List, [], ◌∷◌, ◌++◌, length, get_or, drop, set, take, replicate, refl, sym, ap, ap₂, ◌∙◌, subst, arith}
use Rattle.std.specs.Int.{bit_at}
use Rattle.std.proofs.lemmas.Bool.{cases_eq}
use Rattle.std.proofs.lemmas.Grind.{get_or-set_at}
use Rattle.std.proofs.lemmas.List.{get_or-set_other, get_or-take, get_or_default, length-take-le, same_lists}
use Rattle.std.proofs.lemmas.Nat.Bits.{bit_at-zero}
use Rattle.wot_types.specs.Expression.{Tree}
use Rattle.wot_regex.specs.Following.{Holds, IsMeet, IsRow, IsRows, IsStep, entered, front, has, only, open_node, opened, taking}
use Rattle.wot_regex.specs.Gathering.{Back, all_gathered, all_noted, all_spread, back_start, spread_by}
use Rattle.wot_regex.specs.Knowing.{found_at, moved_by}
use Rattle.wot_regex.specs.Reaching.{marked, nowhere, top}
use Rattle.wot_regex.specs.Searching.{Searching}
use Rattle.wot_regex.specs.Table.{nodes_of}
use Rattle.wot_regex.specs.declared.followers.Row.{Row}
use Rattle.wot_regex.specs.declared.node.Node.{Node}
use Rattle.wot_regex.specs.declared.node.Node.TheVariants.{Any, AnyNumber, AtLeastOne, AtMostOne, Byte, Either, End, Followed, Member, Nothing, Range, Start}
use Rattle.wot_regex.specs.declared.reach.Reach.{Reach}
use Rattle.wot_regex.specs.declared.steps.Common.{Common}
use Rattle.wot_regex.proofs.Joins.{AllJoin, BacksJoin, Joins, all_gathered_joins, all_noted_joins, all_spread_joins, exits_join, more, none, nowhere_joins, top_joins}
use Rattle.wot_regex.proofs.Searches.{at_byte, at_text_end, found_at_end, found_here, search_on}
use Rattle.wot_regex.proofs.Meets.{AllMeet, meet_at, meet_one, meet_other, spread_meets, spread_plain}

-- lists that are filled from their start

set_in : {X : Type 0} (P : ℕ → X → Type 0) (xs : List X) (i : ℕ) (x : X) → i < length xs → ((j : ℕ) (d : X) → j < i → P j (get_or xs j d)) → P i x → (j : ℕ) (d : X) → j < i + 1 → (j ≡ i) ⊎ (j ≢ i) → P j (get_or (set xs i x) j d)
set_in P xs i x lt done new j d less (inl e) =
    let Q : ℕ → Type 0 = λ k. P k x in
    subst (P j) (sym (get_or-set_at xs i j x d e lt)) (subst Q (sym e) new)
set_in P xs i x lt done new j d less (inr apart) = subst (P j) (sym (get_or-set_other xs i j x d apart)) (done j d (omega arith))

pub set_more : {X : Type 0} (P : ℕ → X → Type 0) (xs : List X) (i : ℕ) (x : X) → i < length xs → ((j : ℕ) (d : X) → j < i → P j (get_or xs j d)) → P i x → (j : ℕ) (d : X) → j < i + 1 → P j (get_or (set xs i x) j d)
set_more P xs i x lt done new j d less = set_in P xs i x lt done new j d less (cases_eq j i)

-- no place is in the empty set

no_word : (n k : ℕ) → ◌≡◌ {A = ℕ} (get_or (replicate n 0) k 0) 0
no_word zero k = refl
no_word (suc n) zero = refl
no_word (suc n) (suc k) = no_word n k

pub none_has : (i : ℕ) → has (replicate 8 0) i ≡ false
none_has i = ap (λ w. bit_at w (i % 64) == 1) (no_word 8 (i / 64)) ∙ ap (λ b. b == 1) (bit_at-zero (i % 64))

-- lengths

spread_by_length : (b : ℕ) (n : Node) (c : Reach) (back : Back) → length (spread_by b n c back).cells ≡ suc (length back.cells)
spread_by_length b Nothing c back = refl
spread_by_length b Start c back = refl
spread_by_length b End c back = refl
spread_by_length b Any c back = refl
spread_by_length b (Byte a) c back = refl
spread_by_length b (Range n) c back = refl
spread_by_length b (Member f l) c back = refl
spread_by_length b Followed c back = refl
spread_by_length b Either c back = refl
spread_by_length b AnyNumber c back = refl
spread_by_length b AtLeastOne c back = refl
spread_by_length b AtMostOne c back = refl

pub spread_length : (b : ℕ) (ns : List Node) (cs : List Reach) → length (all_spread b ns cs back_start).cells ≡ length ns
spread_length b [] cs = refl
spread_length b (n ∷ ns) [] = spread_by_length b n nowhere (all_spread b ns [] back_start) ∙ ap (λ k. suc k) (spread_length b ns [])
spread_length b (n ∷ ns) (c ∷ cs) = spread_by_length b n c (all_spread b ns cs back_start) ∙ ap (λ k. suc k) (spread_length b ns cs)

pub opened_length : (ns : List Node) → length (opened ns) ≡ length ns
opened_length [] = refl
opened_length (n ∷ ns) = ap (λ k. suc k) (opened_length ns)

pub opened_append : (ns ms : List Node) → opened (ns ++ ms) ≡ opened ns ++ opened ms
opened_append [] ms = refl
opened_append (n ∷ ns) ms = ap (λ x. open_node n ∷ x) (opened_append ns ms)

pub entered_length : (nodes : List Node) (start : Bool) (cells : List Reach) → length (entered nodes start cells) ≡ length nodes
entered_length nodes start cells = spread_length 0 (opened nodes) (all_noted (record { start = start; end = false }) nodes cells []) ∙ opened_length nodes

-- sets of marks

pub reach_is : (r : Reach) (e : Bool) → r.passes ≡ false → r.ended ≡ e → r ≡ marked e
reach_is r e p q = λ i. record { passes = p i; ended = q i }

pub join_at : {rs qs bs : List Reach} → AllJoin rs qs bs → (i : ℕ) → Joins (get_or rs i nowhere) (get_or qs i nowhere) (get_or bs i nowhere)
join_at none i = nowhere_joins
join_at (more j t) zero = j
join_at (more j t) (suc i) = join_at t i

join_one : {rs qs bs : List Reach} → AllJoin rs qs bs → length rs ≡ length qs
join_one none = refl
join_one (more j t) = ap (λ n. suc n) (join_one t)

join_other : {rs qs bs : List Reach} → AllJoin rs qs bs → length rs ≡ length bs
join_other none = refl
join_other (more j t) = ap (λ n. suc n) (join_other t)

holds_joined : (w wq wb : List ℕ) {rs qs bs : List Reach} → AllJoin rs qs bs → length rs ≤ 512 → Holds wq qs → Holds wb bs → ((i : ℕ) → i < 512 → has w i ≡ (has wq i || has wb i)) → Holds w rs
holds_joined w wq wb {rs = rs} {qs = qs} {bs = bs} t room hq hb is i lt =
    let j = join_at t i in
    let q = hq i (omega (arith, lt, join_one t)) in
    let b = hb i (omega (arith, lt, join_other t)) in
    reach_is (get_or rs i nowhere) (has w i) (j.one ∙ ap (λ (r : Reach). r.passes) q)
    (j.ended ∙ ap₂ (λ (x y : Reach). x.ended || y.ended) q b ∙ sym (is i (omega arith)))

holds_met : (w wq wm : List ℕ) {rs qs ms : List Reach} → AllMeet rs qs ms → length rs ≤ 512 → Holds wq qs → Holds wm ms → ((i : ℕ) → i < 512 → has w i ≡ (has wq i && has wm i)) → Holds w rs
holds_met w wq wm {rs = rs} {qs = qs} {ms = ms} t room hq hm is i lt =
    meet_at t i lt
    ∙ ap marked (ap₂ (λ (x y : Reach). x.ended && y.ended) (hq i (omega (arith, lt, meet_one t))) (hm i (omega (arith, lt, meet_other t))) ∙ sym (is i (omega arith)))

pub holds_plain : (w : List ℕ) (cells : List Reach) → Holds w cells → (i : ℕ) → i < length cells → (get_or cells i nowhere).passes ≡ false
holds_plain w cells h i lt = ap (λ (r : Reach). r.passes) (h i lt)

-- a set by what is marked of cells that were spread
pub holds_spread : (w : List ℕ) (b : ℕ) (ns : List Node) (cs cells : List Reach) → cells ≡ (all_spread b ns cs back_start).cells → ((i : ℕ) → i < length cells → has w i ≡ (get_or cells i nowhere).ended) → Holds w (all_spread b ns cs back_start).cells
holds_spread w b ns cs cells is h i lt =
    let P : List Reach → Type 0 = λ x. i < length x in
    spread_plain b ns cs i lt ∙ ap marked (ap (λ x. (get_or x i nowhere).ended) (sym is) ∙ sym (h i (subst P (sym is) lt)))

-- the marks of the first places

pub front_none : (cs : List Reach) → front 0 cs ≡ replicate (length cs) nowhere
front_none [] = refl
front_none (c ∷ cs) = ap (λ x. nowhere ∷ x) (front_none cs)

pub front_all : (i : ℕ) (cs : List Reach) → length cs ≤ i → front i cs ≡ cs
front_all i [] le = refl
front_all zero (c ∷ cs) le = absurd (omega arith)
front_all (suc i) (c ∷ cs) le = ap (λ x. c ∷ x) (front_all i cs (omega arith))

pub front_skips : (i : ℕ) (cs : List Reach) → get_or cs i nowhere ≡ nowhere → front (suc i) cs ≡ front i cs
front_skips i [] e = refl
front_skips zero (c ∷ cs) e = ap (λ x. x ∷ front 0 cs) e
front_skips (suc i) (c ∷ cs) e = ap (λ x. c ∷ x) (front_skips i cs e)

-- places behind that are not marked
pub front_over : (i n : ℕ) (cs : List Reach) → ((j : ℕ) → i ≤ j → j < i + n → get_or cs j nowhere ≡ nowhere) → front (i + n) cs ≡ front i cs
front_over i zero cs h = let none : i + 0 ≡ i = omega arith in ap (λ k. front k cs) none
front_over i (suc n) cs h =
    let up : i + suc n ≡ suc (i + n) = omega arith in
    ap (λ k. front k cs) up ∙ front_skips (i + n) cs (h (i + n) (omega arith) (omega arith)) ∙ front_over i n cs (λ j le lt. h j le (omega (arith, lt)))

front_length : (i : ℕ) (cs : List Reach) → length (front i cs) ≡ length cs
front_length i [] = refl
front_length zero (c ∷ cs) = ap (λ n. suc n) (front_length 0 cs)
front_length (suc i) (c ∷ cs) = ap (λ n. suc n) (front_length i cs)

first_joins : (cs : List Reach) → AllJoin (front 0 cs) (front 0 cs) (replicate (length cs) nowhere)
first_joins [] = none
first_joins (c ∷ cs) = more nowhere_joins (first_joins cs)

pub or_false : (x : Bool) → x ≡ (x || false)
or_false true = refl
or_false false = refl

pub front_joins : (i : ℕ) (cs : List Reach) → ((j : ℕ) → j < length cs → (get_or cs j nowhere).passes ≡ false) → i < length cs → get_or cs i nowhere ≡ marked true → AllJoin (front (suc i) cs) (front i cs) (only (length cs) i)
front_joins i [] plain lt e = absurd (omega arith)
front_joins zero (c ∷ cs) plain lt e =
    let P : Reach → Type 0 = λ x. Joins x nowhere (marked true) in
    more (subst P (sym e) (record { one = refl; other = refl; ended = refl })) (first_joins cs)
front_joins (suc i) (c ∷ cs) plain lt e =
    more (record { one = refl; other = plain 0 (omega arith); ended = or_false c.ended }) (front_joins i cs (λ j less. plain (suc j) (omega arith)) (omega arith) e)

-- rows

start_joins : BacksJoin back_start back_start back_start
start_joins = record { entries = more (record { one = refl; other = refl; ended = refl }) none; cells = none; one = refl; other = refl }

pub entered_joins : (nodes : List Node) {rs qs bs : List Reach} → AllJoin rs qs bs → AllJoin (entered nodes false rs) (entered nodes false qs) (entered nodes false bs)
entered_joins nodes t = (all_spread_joins 0 (opened nodes) (all_noted_joins (record { start = false; end = false }) nodes t none) start_joins).cells

pub found_joins : (nodes : List Node) {rs qs bs : List Reach} → AllJoin rs qs bs → found_at nodes false false rs ≡ (found_at nodes false false qs || found_at nodes false false bs)
found_joins nodes {rs = rs} {qs = qs} {bs = bs} t =
    let r = top (all_gathered (record { start = false; end = false }) nodes rs []) in
    let q = top (all_gathered (record { start = false; end = false }) nodes qs []) in
    let b = top (all_gathered (record { start = false; end = false }) nodes bs []) in
    let j : Joins r q b = top_joins (all_gathered_joins (record { start = false; end = false }) nodes t none) in
    ap (λ e. r.passes || e) j.ended
    ∙ exits_join true true r.passes q.ended b.ended
    ∙ ap₂ (λ x y. (x || q.ended) || (y || b.ended)) j.one j.other

pub row_joined : (nodes : List Node) (new old other : Row) {rs qs bs : List Reach} → length nodes ≤ 512 → AllJoin rs qs bs → IsRow nodes false qs old → IsRow nodes false bs other
    → ((i : ℕ) → i < 512 → has new.next.words i ≡ (has old.next.words i || has other.next.words i)) → new.found ≡ (old.found || other.found) → IsRow nodes false rs new
row_joined nodes new old other {rs = rs} room t q b next found = record {
  next = holds_joined new.next.words old.next.words other.next.words (entered_joins nodes t) (omega (arith, entered_length nodes false rs)) q.next b.next next;
  found = found ∙ ap₂ (λ x y. x || y) q.found b.found ∙ sym (found_joins nodes t);
}

module _ (nodes : List Node) (common : Common) (rows : List Row) (words : List ℕ) (cells : List Reach) (i : ℕ) (known : IsRows nodes common rows) (same : length cells ≡ length nodes) (holds : Holds words cells) (lt : i < length nodes) where
  -- a place that is marked
  pub row_more : (row new other : Row) → length nodes ≤ 512 → other ≡ get_or rows i other → has words i ≡ true → IsRow nodes false (front i cells) row
      → ((j : ℕ) → j < 512 → has new.next.words j ≡ (has row.next.words j || has other.next.words j)) → new.found ≡ (row.found || other.found) → IsRow nodes false (front (i + 1) cells) new
  row_more row new other room is on old next found =
      let P : Row → Type 0 = λ r. IsRow nodes false (only (length cells) i) r in
      let Q : ℕ → Type 0 = λ k. IsRow nodes false (only k i) (get_or rows i other) in
      let R : ℕ → Type 0 = λ k. IsRow nodes false (front k cells) new in
      let up : suc i ≡ i + 1 = omega arith in
      let here : i < length cells = omega (arith, lt, same) in
      subst R up
      (row_joined nodes new row other room
      (front_joins i cells (holds_plain words cells holds) here (holds i here ∙ ap marked on))
      old
      (subst P (sym is) (subst Q (sym same) (known.each i other lt)))
      next found)

-- no place so far, and all of them
pub row_none : (nodes : List Node) (common : Common) (rows : List Row) (cells : List Reach) → IsRows nodes common rows → length cells ≡ length nodes → IsRow nodes false (front 0 cells) common.first
row_none nodes common rows cells known same =
    let P : List Reach → Type 0 = λ x. IsRow nodes false x common.first in
    subst P (ap (λ k. replicate k nowhere) (sym same) ∙ sym (front_none cells)) known.none

-- the rows of a table that has fewer parts
pub rows_taken : (nodes : List Node) (common : Common) (rows : List Row) → length nodes ≤ length rows → IsRows nodes common rows → IsRows nodes common (take (length nodes) rows)
rows_taken nodes common rows room is = record {
  none = is.none;
  steps = λ i d lt on.
      let here : i < length nodes = omega (arith, lt, length-take-le (length nodes) rows room) in
      let P : Row → Type 0 = λ r. IsStep common.first r i in
      subst P (sym (get_or-take (length nodes) rows i d here)) (is.steps i d (omega (arith, here, room)) on);
  each = λ i d lt.
      let P : Row → Type 0 = λ r. IsRow nodes false (only (length nodes) i) r in
      subst P (sym (get_or-take (length nodes) rows i d lt)) (is.each i d lt);
}

pub row_all : (nodes : List Node) (cells : List Reach) (i : ℕ) (row : Row) → length cells ≤ i → IsRow nodes false (front i cells) row → IsRow nodes false cells row
row_all nodes cells i row le is =
    let P : List Reach → Type 0 = λ x. IsRow nodes false x row in
    subst P (front_all i cells le) is

-- one byte more
pub holds_moved : (nodes : List Node) (start : Bool) (cells : List Reach) (row : Row) (b : ℕ) (mask new : List ℕ) → length nodes ≤ 512 → IsRow nodes start cells row → Holds mask (taking nodes b)
    → IsMeet new row.next.words mask → Holds new (moved_by nodes start cells b)
holds_moved nodes start cells row b mask new room is takes met =
    let noted = all_noted (record { start = start; end = false }) nodes cells [] in
    holds_met new row.next.words mask (spread_meets b nodes noted) (omega (arith, spread_length b nodes noted)) is.next takes met

-- a search that goes on from marks
pub record Going (tree : Tree) (nodes : List Node) (start : Bool) (words : List ℕ) (rest : List ℕ) (found : Bool) : Type 0 where
  pub cells : List Reach
  pub same : length cells ≡ length nodes
  pub holds : Holds words cells
  pub searching : Searching tree cells start rest found

-- a match ends at marks by which this comes next
pub going_ends : (tree : Tree) (nodes : List Node) (start : Bool) (words rest : List ℕ) (found : Bool) (b : ℕ) (row : Row) → nodes ≡ nodes_of tree → (g : Going tree nodes start words (b ∷ rest) found) → IsRow nodes start g.cells row → row.found ≡ true → true ≡ found
going_ends tree nodes start words rest found b row is g next h =
    found_here tree nodes g.cells start b rest found (top (all_gathered (record { start = start; end = false }) nodes g.cells [])) is g.searching refl (sym next.found ∙ h)

-- none ends there, and a byte leads on
pub going_on : (tree : Tree) (nodes : List Node) (start : Bool) (words new mask rest : List ℕ) (found : Bool) (b : ℕ) (row : Row) → length nodes ≤ 512 → nodes ≡ nodes_of tree → (g : Going tree nodes start words (b ∷ rest) found) → IsRow nodes start g.cells row → row.found ≡ false
    → Holds mask (taking nodes b) → IsMeet new row.next.words mask → Going tree nodes false new rest found
going_on tree nodes start words new mask rest found b row room is g next h takes met =
    let noted = all_noted (record { start = start; end = false }) nodes g.cells [] in record {
      cells = moved_by nodes start g.cells b;
      same = spread_length b nodes noted;
      holds = holds_moved nodes start g.cells row b mask new room next takes met;
      searching = search_on tree nodes g.cells noted (moved_by nodes start g.cells b) start b rest found (top (all_gathered (record { start = start; end = false }) nodes g.cells [])) is g.searching refl (sym next.found ∙ h) refl refl;
    }

-- the next byte of a text, and its end
pub going_byte : (tree : Tree) (nodes : List Node) (start : Bool) (words text : List ℕ) (i : ℕ) (found : Bool) → i < length text → Going tree nodes start words (drop i text) found → Going tree nodes start words (get_or text i 0 ∷ drop (i + 1) text) found
going_byte tree nodes start words text i found lt g = record { cells = g.cells; same = g.same; holds = g.holds; searching = at_byte tree nodes g.cells start text i found lt g.searching }

pub going_over : (tree : Tree) (nodes : List Node) (start : Bool) (words text : List ℕ) (i : ℕ) (found : Bool) → nodes ≡ nodes_of tree → length text ≤ i → (g : Going tree nodes start words (drop i text) found) → found_at nodes start true g.cells ≡ found
going_over tree nodes start words text i found is le g =
    found_at_end tree nodes g.cells start found (top (all_gathered (record { start = start; end = true }) nodes g.cells [])) is (at_text_end tree nodes g.cells start text i found le g.searching) refl

-- the cells with one mark
pub only_made : (m n i : ℕ) → n ≤ m → i < n → take n (set (replicate m nowhere) i (marked true)) ≡ only n i
only_made zero n i le lt = absurd (omega arith)
only_made (suc m) zero i le lt = absurd (omega arith)
only_made (suc m) (suc n) zero le lt = ap (λ x. marked true ∷ x) (take_blank m n (omega arith))
  where
    take_blank : (m n : ℕ) → n ≤ m → take n (replicate m nowhere) ≡ replicate n nowhere
    take_blank m zero le = refl
    take_blank zero (suc n) le = absurd (omega arith)
    take_blank (suc m) (suc n) le = ap (λ x. nowhere ∷ x) (take_blank m n (omega arith))
only_made (suc m) (suc n) (suc i) le lt = ap (λ x. nowhere ∷ x) (only_made m n i (omega arith) (omega arith))

-- a place more is put into a set, if it is marked

put_in : (old new : List ℕ) (cells : List Reach) (i : ℕ) (d : Reach) → i < length cells → has new i ≡ ((get_or cells i d).ended || has old i) → ((j : ℕ) → j ≢ i → has new j ≡ has old j)
    → ((j : ℕ) → j < i → has old j ≡ (get_or cells j nowhere).ended) → ((j : ℕ) → i ≤ j → has old j ≡ false) → (j : ℕ) → j < i + 1 → (j ≡ i) ⊎ (j ≢ i) → has new j ≡ (get_or cells j nowhere).ended
put_in old new cells i d lt one others done rest j less (inl e) =
    ap (λ k. has new k) e
    ∙ one
    ∙ ap (λ b. (get_or cells i d).ended || b) (rest i (omega arith))
    ∙ sym (or_false (get_or cells i d).ended)
    ∙ ap (λ (r : Reach). r.ended) (get_or_default cells i d nowhere lt)
    ∙ ap (λ k. (get_or cells k nowhere).ended) (sym e)
put_in old new cells i d lt one others done rest j less (inr apart) = others j apart ∙ done j (omega arith)

pub put_done : (old new : List ℕ) (cells : List Reach) (i : ℕ) (d : Reach) → i < length cells → has new i ≡ ((get_or cells i d).ended || has old i) → ((j : ℕ) → j ≢ i → has new j ≡ has old j)
    → ((j : ℕ) → j < i → has old j ≡ (get_or cells j nowhere).ended) → ((j : ℕ) → i ≤ j → has old j ≡ false) → (j : ℕ) → j < i + 1 → has new j ≡ (get_or cells j nowhere).ended
put_done old new cells i d lt one others done rest j less = put_in old new cells i d lt one others done rest j less (cases_eq j i)

pub put_rest : (old new : List ℕ) (i : ℕ) → ((j : ℕ) → j ≢ i → has new j ≡ has old j) → ((j : ℕ) → i ≤ j → has old j ≡ false) → (j : ℕ) → i + 1 ≤ j → has new j ≡ false
put_rest old new i others rest j le =
    let apart : j ≢ i = λ e. omega (arith, e) in
    others j apart ∙ rest j (omega arith)

-- cells that a set marks are these
pub same_marks : (w : List ℕ) (xs ys : List Reach) → length xs ≡ length ys → Holds w xs → Holds w ys → xs ≡ ys
same_marks w xs ys same hx hy = same_lists xs ys same (λ k d lt.
    let lt' : k < length ys = omega (arith, lt, same) in
    get_or_default xs k d nowhere lt ∙ hx k lt ∙ sym (hy k lt') ∙ get_or_default ys k nowhere d lt')
