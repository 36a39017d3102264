-- Keys whose key IDs rise: one above all is new, and stands at the end.
use Rattle.std.proofs.Common.{◌≡◌, ◌-◌, ℕ, ◌<◌, ◌==◌, ◌||◌, Bool, true, false, cond, is_some, List, [], ◌∷◌, ◌++◌, length, get_or, slice_get, nat_lt, Option, Some, None, IfSome, All, refl, sym, ap, subst, ◌∙◌, arith}
use Rattle.std.specs.declared.cmp.Ordering.TheVariants.{Less}
use Rattle.std.specs.BTreeMap.{is_at}
use Rattle.std.specs.Cmp.{nat_cmp_is, nat_cmp_total}
use Rattle.std.specs.FinMap as finmap
use Rattle.std.specs.FinMap.{from_entries, from_entries_push, get-from_entries, nat_cmp-IsAntisymmetric}
use Rattle.std.specs.List.{AllByRecursion, fold, list_any}
use Rattle.std.specs.List.Sorted.{IsStrictlySortedBy}
use Rattle.std.specs.Map.{keys_of, lookup}
use Rattle.std.specs.Ordering.{nat_cmp, eq_by_cmp, is_lt}
use Rattle.std.proofs.lemmas.Bool.{ltb-false, ltb-true}
use Rattle.std.proofs.lemmas.Bool.Decides.{nat_tests}
use Rattle.std.proofs.lemmas.List.{append-nil, append_assoc, get_or-map, length-map}
use Rattle.std.proofs.lemmas.List.Elements.{All-from_recursion, recursion_from_All}
use Rattle.std.proofs.lemmas.Map.Keys.{Less-from_sorted}
use Rattle.std.proofs.lemmas.Option.{get_or_from_slice_get, none-some, slice_get-get_or}
use Rattle.wot_types.specs.declared.key.Key.{Key}
use Rattle.wot_types.specs.Keyring.{Keyring}
use Rattle.wot_types.proofs.FinMaps.{IfSome-get}
use Rattle.wot_types.proofs.Maps.{entries_are, get_entries}
use Rattle.wot_types.proofs.Tests.{same_key}
use Rattle.wot_listing.specs.Rising.{AreBelow}

abbrev Pairs : Type 0
Pairs = List (ℕ × Key)

abbrev AreSorted : Pairs → Type 0
AreSorted es = IsStrictlySortedBy nat_cmp (keys_of es)

abbrev IsBelow : ℕ → ℕ × Key → Type 0
IsBelow id entry = entry.0 < id

pub none_sorted : (es : Pairs) → es ≡ [] → AreSorted es
unfolding IsStrictlySortedBy
none_sorted es none = subst AreSorted (sym none) tt

less_than : (a b : ℕ) → nat_cmp a b ≡ Less → a < b
less_than a b h = grind (arith, nat_tests, h)

-- all are below what the last one is below
pub below_last : (es : Pairs) (e : ℕ × Key) (id : ℕ) → AreSorted es → slice_get es (length es - 1) ≡ Some e → e.0 < id → All (IsBelow id) es
below_last es e id sorted last below = λ k d within.
    let top = length es - 1 in
    elim (nat_lt k top) as (λ b. nat_lt k top ≡ b → (get_or es k d).0 < id) [
      | true ↦ λ is.
          let before = ltb-true k top is in
          let inside : top < length es = omega (arith, within) in
          let ids_inside : top < length (keys_of es) = omega (arith, inside, length-map es (λ (entry : ℕ × Key). entry.0)) in
          let less = less_than (get_or (keys_of es) k d.0) (get_or (keys_of es) top d.0) (Less-from_sorted nat_cmp (keys_of es) k top d.0 sorted before ids_inside) in
          let first = get_or-map (λ (entry : ℕ × Key). entry.0) es k d d.0 within in
          let second = get_or-map (λ (entry : ℕ × Key). entry.0) es top d d.0 inside ∙ ap (λ (entry : ℕ × Key). entry.0) (get_or_from_slice_get es top e d last) in
          omega (arith, less, first, second, below)
      | false ↦ λ is.
          let same : k ≡ top = omega (arith, ltb-false k top is, within) in
          subst (λ (entry : ℕ × Key). entry.0 < id) (sym (ap (λ i. get_or es i d) same ∙ get_or_from_slice_get es top e d last)) below
    ] refl

pub are_below : (es : Pairs) (id : ℕ) → AreSorted es → All (IsBelow id) es → AreBelow (from_entries es) id
are_below es id sorted below = subst (All (IsBelow id)) (sym (entries_are nat_cmp_total es sorted)) below

pub all_below : (es : Pairs) (e : ℕ × Key) (id : ℕ) → AreSorted es → slice_get es (length es - 1) ≡ Some e → is_lt (nat_cmp e.0 id) ≡ true → AreBelow (from_entries es) id
all_below es e id sorted last below = are_below es id sorted (below_last es e id sorted last (grind (arith, nat_tests, below)))

-- none has a last one only where there is none
pub below_none : (es : Pairs) (id : ℕ) → slice_get es (length es - 1) ≡ None → AreBelow (from_entries es) id
below_none [] id none = are_below [] id (none_sorted [] refl) (λ k d within. absurd (omega (arith, within)))
below_none (e ∷ es) id none = absurd (none-some _ (sym none ∙ slice_get-get_or (e ∷ es) (length (e ∷ es) - 1) e (omega arith)))

none_below : (id : ℕ) (r : Option Key) → IfSome r (λ _. id < id) → r ≡ None
none_below id None h = refl
none_below id (Some key) h = absurd (omega (arith, h))

-- a key ID above all is none of theirs
pub not_there : (keys : Keyring) (id : ℕ) → AreBelow keys id → finmap.get keys id ≡ None
not_there keys id below = none_below id (finmap.get keys id) (IfSome-get nat_cmp_total nat_cmp-IsAntisymmetric (IsBelow id) keys id below)

looked : (id : ℕ) (fs : Pairs) → list_any (λ e. e.0 == id) fs ≡ is_some (lookup (is_at (nat_cmp id)) fs)
looked id [] = refl
looked id (f ∷ fs) = ap (λ b. b || list_any (λ e. e.0 == id) fs) (sym (same_key id f.0)) ∙ first (eq_by_cmp nat_cmp id f.0) f.1 _ _ (looked id fs) where
  first : (b : Bool) (key : Key) (c : Bool) (r : Option Key) → c ≡ is_some r → (b || c) ≡ is_some (cond b (Some key) r)
  first true key c r h = refl
  first false key c r h = h

-- whether one of them has the key ID
pub among : (es : Pairs) (id : ℕ) → list_any (λ e. e.0 == id) es ≡ finmap.contains_key (from_entries {R = nat_cmp} es) id
among es id = looked id es ∙ ap is_some (sym (get_entries nat_cmp_total es id))

-- a key above all is one more entry
pub one_more : (es : Pairs) (id : ℕ) (key : Key) → AreBelow (from_entries es) id → from_entries {R = nat_cmp} (es ++ (id, key) ∷ []) ≡ finmap.insert (from_entries es) id key
one_more es id key below =
    from_entries_push nat_cmp_total nat_cmp-IsAntisymmetric es id key (sym (get-from_entries nat_cmp_total es id) ∙ not_there (from_entries es) id below)

-- the key IDs with one above all at their end
sorted_more : (ids : List ℕ) (id : ℕ) → IsStrictlySortedBy nat_cmp ids → AllByRecursion (λ x. x < id) ids → IsStrictlySortedBy nat_cmp (ids ++ id ∷ [])
unfolding IsStrictlySortedBy
sorted_more [] id sorted below = (tt, tt)
sorted_more (x ∷ ids) id sorted below = (all_more ids sorted.0, sorted_more ids id sorted.1 below.1) where
  all_more : (ys : List ℕ) → AllByRecursion (λ y. nat_cmp x y ≡ Less) ys → AllByRecursion (λ y. nat_cmp x y ≡ Less) (ys ++ id ∷ [])
  all_more [] h = (sym (nat_cmp_is x id Less below.0), tt)
  all_more (y ∷ ys) h = (h.0, all_more ys h.1)

ids_below : (es : Pairs) (id : ℕ) → AllByRecursion (IsBelow id) es → AllByRecursion (λ x. x < id) (keys_of es)
ids_below [] id h = tt
ids_below (e ∷ es) id h = (h.0, ids_below es id h.1)

ids_of_more : (es : Pairs) (id : ℕ) (key : Key) → keys_of (es ++ (id, key) ∷ []) ≡ keys_of es ++ id ∷ []
ids_of_more [] id key = refl
ids_of_more (e ∷ es) id key = ap (λ ids. e.0 ∷ ids) (ids_of_more es id key)

pub still_sorted : (es : Pairs) (id : ℕ) (key : Key) → AreSorted es → AreBelow (from_entries es) id → AreSorted (es ++ (id, key) ∷ [])
still_sorted es id key sorted below =
    let all = subst (All (IsBelow id)) (entries_are nat_cmp_total es sorted) below in
    subst (IsStrictlySortedBy nat_cmp) (sym (ids_of_more es id key))
    (sorted_more (keys_of es) id sorted (ids_below es id (recursion_from_All (IsBelow id) es all)))

-- ---- all set one after the other

abbrev pub with_all : Keyring → Pairs → Keyring
with_all keys es = fold (λ m e. finmap.insert m e.0 e.1) keys es

above_all : (done : Pairs) (e : ℕ × Key) (es : Pairs) → AreSorted (done ++ e ∷ es) → AllByRecursion (IsBelow e.0) done
unfolding IsStrictlySortedBy
above_all [] e es sorted = tt
above_all (d ∷ done) e es sorted = (less_than d.0 e.0 (among_them done sorted.0), above_all done e es sorted.1) where
  among_them : (fs : Pairs) → AllByRecursion (λ y. nat_cmp d.0 y ≡ Less) (keys_of (fs ++ e ∷ es)) → nat_cmp d.0 e.0 ≡ Less
  among_them [] h = h.0
  among_them (f ∷ fs) h = among_them fs h.1

front_sorted : (done es : Pairs) → AreSorted (done ++ es) → AreSorted done
unfolding IsStrictlySortedBy
front_sorted [] es sorted = tt
front_sorted (d ∷ done) es sorted = (front done sorted.0, front_sorted done es sorted.1) where
  front : (fs : Pairs) → AllByRecursion (λ y. nat_cmp d.0 y ≡ Less) (keys_of (fs ++ es)) → AllByRecursion (λ y. nat_cmp d.0 y ≡ Less) (keys_of fs)
  front [] h = tt
  front (f ∷ fs) h = (h.0, front fs h.1)

set_in_turn : (done es : Pairs) → AreSorted (done ++ es) → with_all (from_entries done) es ≡ from_entries {R = nat_cmp} (done ++ es)
set_in_turn done [] sorted = ap (from_entries {R = nat_cmp}) (sym (append-nil done))
set_in_turn done (e ∷ es) sorted =
    let one = append_assoc done (e ∷ []) es in
    let there = subst AreSorted (sym one) sorted in
    let below = are_below done e.0 (front_sorted done (e ∷ es) sorted) (All-from_recursion (IsBelow e.0) done (above_all done e es sorted)) in
    ap (λ m. with_all m es) (sym (one_more done e.0 e.1 below)) ∙ set_in_turn (done ++ e ∷ []) es there ∙ ap (from_entries {R = nat_cmp}) one

pub all_set : (es : Pairs) → AreSorted es → with_all finmap.empty es ≡ from_entries {R = nat_cmp} es
all_set es sorted = set_in_turn [] es sorted
