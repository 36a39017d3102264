-- What is reached from the marks of two texts together is what is reached from each.
use Rattle.std.proofs.Common.{◌≡◌, ℕ, Bool, true, false, ◌&&◌, ◌||◌, not, cond, List, [], ◌∷◌, refl, ap, ap₂, ◌∙◌}
use Rattle.wot_regex.specs.Gathering.{Back, all_gathered, all_noted, all_spread, gathered, is_between, noted, spread_by}
use Rattle.wot_regex.specs.Reaching.{below, marked, nowhere, one_after_another, one_or_another, optional, top}
use Rattle.wot_regex.specs.declared.node.Node.{Node}
use Rattle.wot_regex.specs.declared.node.Node.TheVariants.{Any, AnyNumber, AtLeastOne, AtMostOne, Byte, Either, End, Followed, Member, Nothing, Range, Start}
use Rattle.wot_regex.specs.declared.reach.Place.{Place}
use Rattle.wot_regex.specs.declared.reach.Reach.{Reach}

pub record Joins (r a b : Reach) : Type 0 where
  pub one : r.passes ≡ a.passes
  pub other : r.passes ≡ b.passes
  pub ended : r.ended ≡ (a.ended || b.ended)

pub data AllJoin : List Reach → List Reach → List Reach → Type 0 where
  none : AllJoin [] [] []
  more : {r a b : Reach} {rs qs bs : List Reach} → Joins r a b → AllJoin rs qs bs → AllJoin (r ∷ rs) (a ∷ qs) (b ∷ bs)

pub nowhere_joins : Joins nowhere nowhere nowhere
nowhere_joins = record { one = refl; other = refl; ended = refl }

pub top_joins : {rs qs bs : List Reach} → AllJoin rs qs bs → Joins (top rs) (top qs) (top bs)
top_joins none = nowhere_joins
top_joins (more j t) = j

below_joins : {rs qs bs : List Reach} → AllJoin rs qs bs → AllJoin (below rs) (below qs) (below bs)
below_joins none = none
below_joins (more j t) = t

-- truth values

after_ended : (c d a b p : Bool) → ((c || d) || ((a || b) && p)) ≡ ((c || (a && p)) || (d || (b && p)))
after_ended true d a b p = refl
after_ended false true true b true = refl
after_ended false true true b false = refl
after_ended false true false b p = refl
after_ended false false true b true = refl
after_ended false false true true false = refl
after_ended false false true false false = refl
after_ended false false false b p = refl

both_ended : (a b c d : Bool) → ((a || b) || (c || d)) ≡ ((a || c) || (b || d))
both_ended true b c d = refl
both_ended false true true d = refl
both_ended false true false d = refl
both_ended false false true d = refl
both_ended false false false d = refl

and_joins : (f g t : Bool) → ((f || g) && t) ≡ ((f && t) || (g && t))
and_joins true g true = refl
and_joins true true false = refl
and_joins true false false = refl
and_joins false g t = refl

pub exits_join : (f g p a c : Bool) → (((f || g) && p) || (a || c)) ≡ (((f && p) || a) || ((g && p) || c))
exits_join true g true a c = refl
exits_join true true false a c = refl
exits_join true false false a c = refl
exits_join false true true true c = refl
exits_join false true true false c = refl
exits_join false true false a c = refl
exits_join false false p a c = refl

-- from the symbols to the whole

after_joins : {r a b s c d : Reach} → Joins r a b → Joins s c d → Joins (one_after_another r s) (one_after_another a c) (one_after_another b d)
after_joins {r = r} {a = a} {b = b} {s = s} {c = c} {d = d} j k = record {
  one = ap₂ (λ x y. x && y) j.one k.one;
  other = ap₂ (λ x y. x && y) j.other k.other;
  ended =
      ap₂ (λ x y. x || (y && s.passes)) k.ended j.ended
      ∙ after_ended c.ended d.ended a.ended b.ended s.passes
      ∙ ap₂ (λ x y. (c.ended || (a.ended && x)) || (d.ended || (b.ended && y))) k.one k.other;
}

either_joins : {r a b s c d : Reach} → Joins r a b → Joins s c d → Joins (one_or_another r s) (one_or_another a c) (one_or_another b d)
either_joins {a = a} {b = b} {c = c} {d = d} j k = record {
  one = ap₂ (λ x y. x || y) j.one k.one;
  other = ap₂ (λ x y. x || y) j.other k.other;
  ended = ap₂ (λ x y. x || y) j.ended k.ended ∙ both_ended a.ended b.ended c.ended d.ended;
}

optional_joins : {r a b : Reach} → Joins r a b → Joins (optional r) (optional a) (optional b)
optional_joins j = record { one = refl; other = refl; ended = j.ended }

gathered_joins : (p : Place) (n : Node) {r a b : Reach} {rs qs bs : List Reach} → Joins r a b → AllJoin rs qs bs → AllJoin (gathered p n r rs) (gathered p n a qs) (gathered p n b bs)
gathered_joins p Nothing j t = more (record { one = refl; other = refl; ended = refl }) t
gathered_joins p Start j t = more (record { one = refl; other = refl; ended = refl }) t
gathered_joins p End j t = more (record { one = refl; other = refl; ended = refl }) t
gathered_joins p Any j t = more j t
gathered_joins p (Byte x) j t = more j t
gathered_joins p (Range n) j t = more j t
gathered_joins p (Member f l) j t = t
gathered_joins p Followed j t = more (after_joins (top_joins (below_joins t)) (top_joins t)) (below_joins (below_joins t))
gathered_joins p Either j t = more (either_joins (top_joins (below_joins t)) (top_joins t)) (below_joins (below_joins t))
gathered_joins p AnyNumber j t = more (optional_joins (top_joins t)) (below_joins t)
gathered_joins p AtLeastOne j t = more (top_joins t) (below_joins t)
gathered_joins p AtMostOne j t = more (optional_joins (top_joins t)) (below_joins t)

noted_joins : (n : Node) {r a b : Reach} {rs qs bs : List Reach} → Joins r a b → AllJoin rs qs bs → Joins (noted n r rs) (noted n a qs) (noted n b bs)
noted_joins Nothing j t = j
noted_joins Start j t = j
noted_joins End j t = j
noted_joins Any j t = j
noted_joins (Byte x) j t = j
noted_joins (Range n) j t = j
noted_joins (Member f l) j t = j
noted_joins Followed j t = top_joins (below_joins t)
noted_joins Either j t = j
noted_joins AnyNumber j t = top_joins t
noted_joins AtLeastOne j t = top_joins t
noted_joins AtMostOne j t = j

pub all_gathered_joins : (p : Place) (ns : List Node) {rs qs bs ss ts us : List Reach} → AllJoin rs qs bs → AllJoin ss ts us → AllJoin (all_gathered p ns rs ss) (all_gathered p ns qs ts) (all_gathered p ns bs us)
all_gathered_joins p [] c t = t
all_gathered_joins p (n ∷ ns) none t = all_gathered_joins p ns none (gathered_joins p n nowhere_joins t)
all_gathered_joins p (n ∷ ns) (more j c) t = all_gathered_joins p ns c (gathered_joins p n j t)

pub all_noted_joins : (p : Place) (ns : List Node) {rs qs bs ss ts us : List Reach} → AllJoin rs qs bs → AllJoin ss ts us → AllJoin (all_noted p ns rs ss) (all_noted p ns qs ts) (all_noted p ns bs us)
all_noted_joins p [] c t = c
all_noted_joins p (n ∷ ns) none t = none
all_noted_joins p (n ∷ ns) (more j c) t = more (noted_joins n j t) (all_noted_joins p ns c (gathered_joins p n j t))

-- and back

pub record BacksJoin (x y z : Back) : Type 0 where
  pub entries : AllJoin x.entries y.entries z.entries
  pub cells : AllJoin x.cells y.cells z.cells
  pub one : x.member ≡ y.member
  pub other : x.member ≡ z.member

marked_joins : (e f g : Bool) → e ≡ (f || g) → Joins (marked e) (marked f) (marked g)
marked_joins e f g is = record { one = refl; other = refl; ended = is }

entry_joins : {x y z : Back} → BacksJoin x y z → (top x.entries).ended ≡ ((top y.entries).ended || (top z.entries).ended)
entry_joins t = (top_joins t.entries).ended

taken_joins : {x y z : Back} (t : Bool) → BacksJoin x y z → ((top x.entries).ended && t) ≡ (((top y.entries).ended && t) || ((top z.entries).ended && t))
taken_joins {y = y} {z = z} t h = ap (λ e. e && t) (entry_joins h) ∙ and_joins (top y.entries).ended (top z.entries).ended t

spread_by_joins : (b : ℕ) (n : Node) {r a c : Reach} {x y z : Back} → Joins r a c → BacksJoin x y z → BacksJoin (spread_by b n r x) (spread_by b n a y) (spread_by b n c z)
spread_by_joins b Nothing j t = record { entries = below_joins t.entries; cells = more nowhere_joins t.cells; one = t.one; other = t.other }
spread_by_joins b Start j t = record { entries = below_joins t.entries; cells = more nowhere_joins t.cells; one = t.one; other = t.other }
spread_by_joins b End j t = record { entries = below_joins t.entries; cells = more nowhere_joins t.cells; one = t.one; other = t.other }
spread_by_joins b Any j t = record { entries = below_joins t.entries; cells = more (marked_joins _ _ _ (entry_joins t)) t.cells; one = t.one; other = t.other }
spread_by_joins b (Byte x) j t = record { entries = below_joins t.entries; cells = more (marked_joins _ _ _ (taken_joins _ t)) t.cells; one = t.one; other = t.other }
spread_by_joins b (Range n) {x = x} {y = y} {z = z} j t = record {
  entries = below_joins t.entries;
  cells = more (marked_joins _ _ _ (taken_joins (cond n (not x.member) x.member) t ∙ ap₂ (λ k m. ((top y.entries).ended && cond n (not k) k) || ((top z.entries).ended && cond n (not m) m)) t.one t.other)) t.cells;
  one = refl;
  other = refl;
}
spread_by_joins b (Member f l) j t = record { entries = t.entries; cells = more nowhere_joins t.cells; one = ap (λ m. m || is_between f l b) t.one; other = ap (λ m. m || is_between f l b) t.other }
spread_by_joins b Followed {r = r} {a = a} {c = c} {y = y} {z = z} j t =
    let f = (top y.entries).ended in
    let g = (top z.entries).ended in record {
      entries =
          more (marked_joins _ _ _
          (ap₂ (λ e d. (e && r.passes) || d) (entry_joins t) j.ended
          ∙ exits_join f g r.passes a.ended c.ended
          ∙ ap₂ (λ p q. ((f && p) || a.ended) || ((g && q) || c.ended)) j.one j.other))
          (more (marked_joins _ _ _ (entry_joins t)) (below_joins t.entries));
      cells = more nowhere_joins t.cells;
      one = t.one;
      other = t.other;
    }
spread_by_joins b Either j t = record {
  entries = more (marked_joins _ _ _ (entry_joins t)) (more (marked_joins _ _ _ (entry_joins t)) (below_joins t.entries));
  cells = more nowhere_joins t.cells;
  one = t.one;
  other = t.other;
}
spread_by_joins b AnyNumber {a = a} {c = c} {y = y} {z = z} j t = record {
  entries = more (marked_joins _ _ _ (ap₂ (λ e d. e || d) (entry_joins t) j.ended ∙ both_ended (top y.entries).ended (top z.entries).ended a.ended c.ended)) (below_joins t.entries);
  cells = more nowhere_joins t.cells;
  one = t.one;
  other = t.other;
}
spread_by_joins b AtLeastOne {a = a} {c = c} {y = y} {z = z} j t = record {
  entries = more (marked_joins _ _ _ (ap₂ (λ e d. e || d) (entry_joins t) j.ended ∙ both_ended (top y.entries).ended (top z.entries).ended a.ended c.ended)) (below_joins t.entries);
  cells = more nowhere_joins t.cells;
  one = t.one;
  other = t.other;
}
spread_by_joins b AtMostOne j t = record { entries = more (marked_joins _ _ _ (entry_joins t)) (below_joins t.entries); cells = more nowhere_joins t.cells; one = t.one; other = t.other }

pub all_spread_joins : (b : ℕ) (ns : List Node) {rs qs bs : List Reach} {x y z : Back} → AllJoin rs qs bs → BacksJoin x y z → BacksJoin (all_spread b ns rs x) (all_spread b ns qs y) (all_spread b ns bs z)
all_spread_joins b [] c t = t
all_spread_joins b (n ∷ ns) none t = spread_by_joins b n nowhere_joins (all_spread_joins b ns none t)
all_spread_joins b (n ∷ ns) (more j c) t = spread_by_joins b n j (all_spread_joins b ns c t)
