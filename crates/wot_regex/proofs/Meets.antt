-- A byte leads from marks to the symbols that are entered and take it.
use Rattle.std.proofs.Common.{◌≡◌, ℕ, suc, zero, ◌<◌, Bool, true, false, ◌&&◌, ◌||◌, not, cond, List, [], ◌∷◌, length, get_or, replicate, refl, sym, ap, ◌∙◌, arith}
use Rattle.wot_regex.specs.Gathering.{Back, all_spread, back_start, is_between, spread_by}
use Rattle.wot_regex.specs.Following.{everywhere, open_node, opened}
use Rattle.wot_regex.specs.Reaching.{below, exits, marked, nowhere, top}
use Rattle.wot_regex.specs.declared.node.Node.{Node}
use Rattle.wot_regex.specs.declared.node.Node.TheVariants.{Any, AnyNumber, AtLeastOne, AtMostOne, Byte, Either, End, Followed, Member, Nothing, Range, Start}
use Rattle.wot_regex.specs.declared.reach.Reach.{Reach}

pub data AllMeet : List Reach → List Reach → List Reach → Type 0 where
  none : AllMeet [] [] []
  more : {r a m : Reach} {rs qs ms : List Reach} → r ≡ marked (a.ended && m.ended) → AllMeet rs qs ms → AllMeet (r ∷ rs) (a ∷ qs) (m ∷ ms)

-- where the first may begin the second may
pub data AllUnder : List Reach → List Reach → Type 0 where
  none : AllUnder [] []
  more : {x z : Reach} {xs zs : List Reach} → x.ended ≡ (x.ended && z.ended) → AllUnder xs zs → AllUnder (x ∷ xs) (z ∷ zs)

under_top : {xs zs : List Reach} → AllUnder xs zs → (top xs).ended ≡ ((top xs).ended && (top zs).ended)
under_top none = refl
under_top (more e t) = e

under_below : {xs zs : List Reach} → AllUnder xs zs → AllUnder (below xs) (below zs)
under_below none = none
under_below (more e t) = t

pub record BacksMeet (x y z : Back) : Type 0 where
  pub entries : x.entries ≡ y.entries
  pub under : AllUnder x.entries z.entries
  pub cells : AllMeet x.cells y.cells z.cells
  pub member : x.member ≡ z.member

and_three : (a b c : Bool) → ((a && b) && c) ≡ (a && (b && c))
and_three true b c = refl
and_three false b c = refl

under_exits : (v e : Bool) → v ≡ (v && ((e && true) || true))
under_exits true true = refl
under_exits true false = refl
under_exits false e = refl

under_or : (v e : Bool) → v ≡ (v && (e || true))
under_or true true = refl
under_or true false = refl
under_or false e = refl

-- a symbol that takes the byte or does not
taken_meets : {x y z : Back} (t : Bool) → BacksMeet x y z → marked ((top x.entries).ended && t) ≡ marked ((top y.entries).ended && ((top z.entries).ended && t))
taken_meets {x = x} {z = z} t h =
    ap marked
    (ap (λ e. e && t) (under_top h.under)
    ∙ and_three (top x.entries).ended (top z.entries).ended t
    ∙ ap (λ es. (top es).ended && ((top z.entries).ended && t)) h.entries)

any_meets : {x y z : Back} → BacksMeet x y z → marked (top x.entries).ended ≡ marked ((top y.entries).ended && (top z.entries).ended)
any_meets {z = z} h = ap marked (under_top h.under ∙ ap (λ es. (top es).ended && (top z.entries).ended) h.entries)

spread_by_meets : (b : ℕ) (n : Node) (c : Reach) {x y z : Back} → BacksMeet x y z → BacksMeet (spread_by b n c x) (spread_by 0 (open_node n) c y) (spread_by b n everywhere z)
spread_by_meets b Nothing c t = record { entries = ap below t.entries; under = under_below t.under; cells = more refl t.cells; member = t.member }
spread_by_meets b Start c t = record { entries = ap below t.entries; under = under_below t.under; cells = more refl t.cells; member = t.member }
spread_by_meets b End c t = record { entries = ap below t.entries; under = under_below t.under; cells = more refl t.cells; member = t.member }
spread_by_meets b Any c t = record { entries = ap below t.entries; under = under_below t.under; cells = more (any_meets t) t.cells; member = t.member }
spread_by_meets b (Byte a) c t = record { entries = ap below t.entries; under = under_below t.under; cells = more (taken_meets _ t) t.cells; member = t.member }
spread_by_meets b (Range n) c {x = x} {y = y} {z = z} t = record {
  entries = ap below t.entries;
  under = under_below t.under;
  cells = more (taken_meets (cond n (not x.member) x.member) t ∙ ap (λ m. marked ((top y.entries).ended && ((top z.entries).ended && cond n (not m) m))) t.member) t.cells;
  member = refl;
}
spread_by_meets b (Member f l) c t = record { entries = t.entries; under = t.under; cells = more refl t.cells; member = ap (λ m. m || is_between f l b) t.member }
spread_by_meets b Followed c {x = x} {z = z} t = record {
  entries = ap (λ es. marked (exits c (top es).ended) ∷ marked (top es).ended ∷ below es) t.entries;
  under = more (under_exits (exits c (top x.entries).ended) (top z.entries).ended) (more (under_top t.under) (under_below t.under));
  cells = more refl t.cells;
  member = t.member;
}
spread_by_meets b Either c t = record {
  entries = ap (λ es. marked (top es).ended ∷ marked (top es).ended ∷ below es) t.entries;
  under = more (under_top t.under) (more (under_top t.under) (under_below t.under));
  cells = more refl t.cells;
  member = t.member;
}
spread_by_meets b AnyNumber c {x = x} {z = z} t = record {
  entries = ap (λ es. marked ((top es).ended || c.ended) ∷ below es) t.entries;
  under = more (under_or ((top x.entries).ended || c.ended) (top z.entries).ended) (under_below t.under);
  cells = more refl t.cells;
  member = t.member;
}
spread_by_meets b AtLeastOne c {x = x} {z = z} t = record {
  entries = ap (λ es. marked ((top es).ended || c.ended) ∷ below es) t.entries;
  under = more (under_or ((top x.entries).ended || c.ended) (top z.entries).ended) (under_below t.under);
  cells = more refl t.cells;
  member = t.member;
}
spread_by_meets b AtMostOne c t = record {
  entries = ap (λ es. marked (top es).ended ∷ below es) t.entries;
  under = more (under_top t.under) (under_below t.under);
  cells = more refl t.cells;
  member = t.member;
}

all_spread_meets : (b : ℕ) (ns : List Node) (cs : List Reach) {x y z : Back} → BacksMeet x y z → BacksMeet (all_spread b ns cs x) (all_spread 0 (opened ns) cs y) (all_spread b ns (replicate (length ns) everywhere) z)
all_spread_meets b [] cs t = t
all_spread_meets b (n ∷ ns) [] t = spread_by_meets b n nowhere (all_spread_meets b ns [] t)
all_spread_meets b (n ∷ ns) (c ∷ cs) t = spread_by_meets b n c (all_spread_meets b ns cs t)

start_meets : BacksMeet back_start back_start back_start
start_meets = record { entries = refl; under = more refl none; cells = none; member = refl }

pub spread_meets : (b : ℕ) (ns : List Node) (cs : List Reach)
    → AllMeet (all_spread b ns cs back_start).cells (all_spread 0 (opened ns) cs back_start).cells (all_spread b ns (replicate (length ns) everywhere) back_start).cells
spread_meets b ns cs = (all_spread_meets b ns cs start_meets).cells

pub meet_at : {rs qs ms : List Reach} → AllMeet rs qs ms → (i : ℕ) → i < length rs → get_or rs i nowhere ≡ marked ((get_or qs i nowhere).ended && (get_or ms i nowhere).ended)
meet_at none i lt = absurd (omega arith)
meet_at (more e t) zero lt = e
meet_at (more e t) (suc i) lt = meet_at t i (omega arith)

pub meet_one : {rs qs ms : List Reach} → AllMeet rs qs ms → length rs ≡ length qs
meet_one none = refl
meet_one (more e t) = ap (λ n. suc n) (meet_one t)

pub meet_other : {rs qs ms : List Reach} → AllMeet rs qs ms → length rs ≡ length ms
meet_other none = refl
meet_other (more e t) = ap (λ n. suc n) (meet_other t)

-- what is spread is marked at most
pub spread_plain : (b : ℕ) (ns : List Node) (cs : List Reach) (i : ℕ) → i < length (all_spread b ns cs back_start).cells
    → get_or (all_spread b ns cs back_start).cells i nowhere ≡ marked (get_or (all_spread b ns cs back_start).cells i nowhere).ended
spread_plain b ns cs i lt =
    let is = meet_at (spread_meets b ns cs) i lt in
    is ∙ ap (λ (r : Reach). marked r.ended) (sym is)
