-- Keys by their places: one more at the end, and all of them taken out in the order of their key IDs.
use Rattle.std.proofs.Common.{◌≡◌, ◌≢◌, ◌⊎◌, inl, inr, ⊎_elim, ℕ, zero, suc, true, false, cond, is_some, List, [], ◌∷◌, ◌++◌, length, map, Option, Some, None, IsSome, option_map, option_and_then, option_to_list, refl, sym, ap, subst, ◌∙◌}
use Rattle.std.specs.declared.cmp.Ordering.TheVariants.{Less}
use Rattle.std.specs.Cmp.{nat_cmp_total, eq_by_cmp_equiv}
use Rattle.std.specs.FinMap as finmap
use Rattle.std.specs.FinMap.{from_entries, get-empty, get-insert, nat_cmp-IsAntisymmetric, same_map}
use Rattle.std.specs.List.{AllByRecursion, cons_option, filter_map}
use Rattle.std.specs.List.Sorted.{IsStrictlySortedBy}
use Rattle.std.specs.Map.{keys_of}
use Rattle.std.specs.Ordering.{nat_cmp, eq_by_cmp, is_eq}
use Rattle.std.proofs.lemmas.Bool.{false≢true}
use Rattle.std.proofs.lemmas.List.{append-nil, append_assoc}
use Rattle.std.proofs.lemmas.List.Elements.{recursion_from_All}
use Rattle.std.proofs.lemmas.Map.Entries.{lookup_from_place}
use Rattle.std.proofs.lemmas.Map.Keys.{IsDistinct-from_sorted}
use Rattle.std.proofs.lemmas.Option.{none-some, same_Some, slice_get-get_or}
use Rattle.wot_types.specs.declared.key.Key.{Key}
use Rattle.wot_types.specs.Levels.{map_by}
use Rattle.wot_types.proofs.MapBy.{entry_by, get-map_by}
use Rattle.wot_types.proofs.Maps.{entries_are, get_entries}
use Rattle.wot_types.proofs.Tests.{is_key, key_itself, same_key}
use Rattle.wot_listing.specs.Places.{IsPlaced, Places, key_at, keys_at}

abbrev rule : List (Option Key) → ℕ → ℕ → Option Key
rule keys _ place = key_at keys place

-- what is found under a key ID
get-keys_at : (m : Places) (keys : List (Option Key)) (id : ℕ) → finmap.get (keys_at m keys) id ≡ option_and_then (key_at keys) (finmap.get m id)
get-keys_at m keys id = get-map_by (rule keys) m id

-- ---- no keys

pub none_placed : (keys : List (Option Key)) → IsPlaced finmap.empty keys
none_placed keys = record {
  there = λ id place is. absurd (none-some place (sym (get-empty nat_cmp id) ∙ is));
  one = λ id other place is _. absurd (none-some place (sym (get-empty nat_cmp id) ∙ is));
}

pub no_keys_at : (keys : List (Option Key)) → keys_at finmap.empty keys ≡ finmap.empty
no_keys_at keys =
    same_map nat_cmp_total nat_cmp-IsAntisymmetric (keys_at finmap.empty keys) finmap.empty (λ id.
    get-keys_at finmap.empty keys id ∙ ap (option_and_then (key_at keys)) (get-empty nat_cmp id) ∙ sym (get-empty nat_cmp id))

-- ---- each place has its key

found_there : (keys : List (Option Key)) (r : Option ℕ) → ((place : ℕ) → r ≡ Some place → IsSome (key_at keys place)) → is_some (option_and_then (key_at keys) r) ≡ is_some r
found_there keys None there = refl
found_there keys (Some place) there = there place refl

pub contains_at : (m : Places) (keys : List (Option Key)) → IsPlaced m keys → (id : ℕ) → finmap.contains_key (keys_at m keys) id ≡ finmap.contains_key m id
contains_at m keys placed id = ap is_some (get-keys_at m keys id) ∙ found_there keys (finmap.get m id) (placed.there id)

-- ---- one more key at the end

key_at_end : (keys : List (Option Key)) (key : Key) → key_at (keys ++ Some key ∷ []) (length keys) ≡ Some key
key_at_end [] key = refl
key_at_end (k ∷ keys) key = key_at_end keys key

no_key_at_end : (keys : List (Option Key)) → IsSome (key_at keys (length keys)) → ⊥
no_key_at_end [] h = false≢true h
no_key_at_end (k ∷ keys) h = no_key_at_end keys h

key_stays : (keys : List (Option Key)) (k : Option Key) (place : ℕ) → IsSome (key_at keys place) → key_at (keys ++ k ∷ []) place ≡ key_at keys place
key_stays [] k place h = absurd (false≢true h)
key_stays (x ∷ keys) k zero h = refl
key_stays (x ∷ keys) k (suc place) h = key_stays keys k place h

found_stays : (keys : List (Option Key)) (k : Option Key) (r : Option ℕ) → ((place : ℕ) → r ≡ Some place → IsSome (key_at keys place))
    → option_and_then (key_at (keys ++ k ∷ [])) r ≡ option_and_then (key_at keys) r
found_stays keys k None there = refl
found_stays keys k (Some place) there = key_stays keys k place (there place refl)

module _ (m : Places) (keys : List (Option Key)) (placed : IsPlaced m keys) where
  -- a key at no key ID's place
  pub placed_beside : (k : Option Key) → IsPlaced m (keys ++ k ∷ [])
  placed_beside k = record {
    there = λ id place is. let h = placed.there id place is in ap is_some (key_stays keys k place h) ∙ h;
    one = placed.one;
  }

  module _ (id : ℕ) (key : Key) where
    abbrev more : Places
    more = finmap.insert m id (length keys)

    abbrev longer : List (Option Key)
    longer = keys ++ Some key ∷ []

    abbrev IsNew : ℕ → ℕ → Type 0
    IsNew q place = (q ≡ id) × (place ≡ length keys)

    -- a key ID has the new place, or the place that it had
    new_or_before : (q place : ℕ) → finmap.get more q ≡ Some place → IsNew q place ⊎ (finmap.get m q ≡ Some place)
    new_or_before q place is =
        elim (eq_by_cmp nat_cmp q id) as (λ b. eq_by_cmp nat_cmp q id ≡ b → cond b (Some (length keys)) (finmap.get m q) ≡ Some place → IsNew q place ⊎ (finmap.get m q ≡ Some place)) [
          | true ↦ λ same h. inl (sym (is_key id q (sym (same_key q id) ∙ same)), sym (same_Some _ _ h))
          | false ↦ λ _ h. inr h
        ] refl (sym (get-insert nat_cmp_total m id (length keys) q) ∙ is)

    -- the new place is no other key ID's
    no_end_before : (q place : ℕ) → place ≡ length keys → finmap.get m q ≡ Some place → ⊥
    no_end_before q place end was = no_key_at_end keys (subst (λ p. IsSome (key_at keys p)) end (placed.there q place was))

    pub placed_at_end : IsPlaced more longer
    placed_at_end = record {
      there = λ q place is. ⊎_elim
          (λ new. ap is_some (ap (key_at longer) new.1 ∙ key_at_end keys key))
          ((placed_beside (Some key)).there q place)
          (new_or_before q place is);
      one = λ q other place is other_is. ⊎_elim
          (λ new. ⊎_elim (λ other_new. new.0 ∙ sym other_new.0) (λ was. absurd (no_end_before other place new.1 was)) (new_or_before other place other_is))
          (λ was. ⊎_elim (λ new. absurd (no_end_before q place new.1 was)) (placed.one q other place was) (new_or_before other place other_is))
          (new_or_before q place is);
    }

    pub keys_at_end : keys_at more longer ≡ finmap.insert (keys_at m keys) id key
    keys_at_end =
        same_map nat_cmp_total nat_cmp-IsAntisymmetric (keys_at more longer) (finmap.insert (keys_at m keys) id key) (λ q.
        get-keys_at more longer q ∙ ap (option_and_then (key_at longer)) (get-insert nat_cmp_total m id (length keys) q)
        ∙ elim (eq_by_cmp nat_cmp q id) as (λ b. option_and_then (key_at longer) (cond b (Some (length keys)) (finmap.get m q)) ≡ cond b (Some key) (finmap.get (keys_at m keys) q)) [
          | true ↦ key_at_end keys key
          | false ↦ found_stays keys (Some key) (finmap.get m q) (placed.there q) ∙ sym (get-keys_at m keys q)
        ]
        ∙ sym (get-insert nat_cmp_total (keys_at m keys) id key q))

-- ---- the keys taken out

abbrev AreFound : Places → List (ℕ × ℕ) → Type 0
AreFound m es = AllByRecursion (λ e. finmap.get m e.0 ≡ Some e.1) es

abbrev AreAbove : {X : Type 0} → ℕ → List (ℕ × X) → Type 0
AreAbove id es = AllByRecursion (λ other. nat_cmp id other ≡ Less) (keys_of es)

abbrev AreElsewhere : ℕ → List (ℕ × ℕ) → Type 0
AreElsewhere place es = AllByRecursion (λ e. e.1 ≢ place) es

-- no two entries have one place
abbrev AreApart : List (ℕ × ℕ) → Type 0
AreApart [] = Unit {0}
AreApart (e ∷ es) = AreElsewhere e.1 es × AreApart es

-- the keys at the places of these entries
abbrev keys_of_places : List (Option Key) → List (ℕ × ℕ) → List Key
keys_of_places keys es = filter_map (λ e. key_at keys e.1) es

-- the keys that were taken, and those of the entries to come, are the whole
pub record IsTaking (whole taken : List Key) (keys : List (Option Key)) (es : List (ℕ × ℕ)) : Type 0 where
  together : taken ++ keys_of_places keys es ≡ whole
  apart : AreApart es

not_below_itself : (k : ℕ) → nat_cmp k k ≡ Less → ⊥
not_below_itself k less = false≢true (ap is_eq (sym less) ∙ key_itself k)

each_found : (es : List (ℕ × ℕ)) → IsStrictlySortedBy nat_cmp (keys_of es) → AreFound (from_entries es) es
each_found es sorted = recursion_from_All _ es (λ i d h.
    get_entries nat_cmp_total es _
    ∙ lookup_from_place (eq_by_cmp_equiv nat_cmp_total) es i _ _ (IsDistinct-from_sorted nat_cmp (keys_of es) sorted) (slice_get-get_or es i d h))

module _ (m : Places) (keys : List (Option Key)) (placed : IsPlaced m keys) where
  elsewhere : (e : ℕ × ℕ) (es : List (ℕ × ℕ)) → finmap.get m e.0 ≡ Some e.1 → AreAbove e.0 es → AreFound m es → AreElsewhere e.1 es
  elsewhere e [] is above found = tt
  elsewhere e (f ∷ es) is above found = (
    λ same. not_below_itself e.0 (subst (λ id. nat_cmp e.0 id ≡ Less) (sym (placed.one e.0 f.0 e.1 is (found.0 ∙ ap Some same))) above.0),
    elsewhere e es is above.1 found.1,
  )

  apart_from : (es : List (ℕ × ℕ)) → IsStrictlySortedBy nat_cmp (keys_of es) → AreFound m es → AreApart es
  unfolding IsStrictlySortedBy
  apart_from [] sorted found = tt
  apart_from (e ∷ es) sorted found = (elsewhere e es found.0 sorted.0 found.1, apart_from es sorted.1 found.1)

-- entries by a rule keep their order, and have the rule's values
module _ {X : Type 0} (rule : ℕ → ℕ → Option X) where
  abbrev with_first : ℕ × ℕ → Option X → List (ℕ × ℕ) → List (ℕ × X)
  with_first e r es = cons_option (option_map (λ x. (e.0, x)) r) (filter_map (entry_by rule) es)

  above_by : (id : ℕ) (es : List (ℕ × ℕ)) → AreAbove id es → AreAbove id (filter_map (entry_by rule) es)
  above_by id [] h = tt
  above_by id (e ∷ es) h = elim (rule e.0 e.1) as (λ r. AreAbove id (with_first e r es)) [
    | None ↦ above_by id es h.1
    | Some x ↦ (h.0, above_by id es h.1)
  ]

  sorted_by : (es : List (ℕ × ℕ)) → IsStrictlySortedBy nat_cmp (keys_of es) → IsStrictlySortedBy nat_cmp (keys_of (filter_map (entry_by rule) es))
  unfolding IsStrictlySortedBy
  sorted_by [] h = tt
  sorted_by (e ∷ es) h = elim (rule e.0 e.1) as (λ r. IsStrictlySortedBy nat_cmp (keys_of (with_first e r es))) [
    | None ↦ sorted_by es h.1
    | Some x ↦ (above_by e.0 es h.0, sorted_by es h.1)
  ]

  values_by : (es : List (ℕ × ℕ)) → map (λ e. e.1) (filter_map (entry_by rule) es) ≡ filter_map (λ e. rule e.0 e.1) es
  values_by [] = refl
  values_by (e ∷ es) = elim (rule e.0 e.1) as (λ r. map (λ e. e.1) (with_first e r es) ≡ cons_option r (filter_map (λ e. rule e.0 e.1) es)) [
    | None ↦ values_by es
    | Some x ↦ ap (λ xs. x ∷ xs) (values_by es)
  ]

  values-map_by : (es : List (ℕ × ℕ)) → IsStrictlySortedBy nat_cmp (keys_of es) → finmap.values (map_by (from_entries es) rule) ≡ filter_map (λ e. rule e.0 e.1) es
  values-map_by es sorted =
      ap (λ fs. finmap.values (from_entries {R = nat_cmp} (filter_map (entry_by rule) fs))) (entries_are nat_cmp_total es sorted)
      ∙ ap (map (λ e. e.1)) (entries_are nat_cmp_total (filter_map (entry_by rule) es) (sorted_by es sorted))
      ∙ values_by es

-- before the first is taken
pub none_taken : (es : List (ℕ × ℕ)) (keys : List (Option Key)) → IsStrictlySortedBy nat_cmp (keys_of es) → IsPlaced (from_entries es) keys
    → IsTaking (finmap.values (keys_at (from_entries es) keys)) [] keys es
none_taken es keys sorted placed = record {
  together = sym (values-map_by (rule keys) es sorted);
  apart = apart_from (from_entries es) keys placed es sorted (each_found es sorted);
}

-- what is taken from one place leaves the others
others_stay : (keys left : List (Option Key)) (place : ℕ) → ((other : ℕ) → other ≢ place → key_at left other ≡ key_at keys other)
    → (es : List (ℕ × ℕ)) → AreElsewhere place es → keys_of_places keys es ≡ keys_of_places left es
others_stay keys left place others [] h = refl
others_stay keys left place others (e ∷ es) h = λ i. cons_option (sym (others e.1 h.0) i) (others_stay keys left place others es h.1 i)

cons_is_append : (r : Option Key) (xs : List Key) → cons_option r xs ≡ option_to_list r ++ xs
cons_is_append None xs = refl
cons_is_append (Some x) xs = refl

-- the key of the next entry is taken, if one is there
pub one_taken : {whole taken more : List Key} {keys left : List (Option Key)} {es rest : List (ℕ × ℕ)} (e : ℕ × ℕ) (r : Option Key)
    → IsTaking whole taken keys es → es ≡ e ∷ rest → r ≡ key_at keys e.1
    → ((other : ℕ) → other ≢ e.1 → key_at left other ≡ key_at keys other) → more ≡ taken ++ option_to_list r → IsTaking whole more left rest
one_taken {whole} {taken} {more} {keys} {left} {es} {rest} e r taking next found others is =
    let apart = subst AreApart next taking.apart in
    let stay = others_stay keys left e.1 others rest apart.0 in
    record {
      together =
          ap (λ xs. xs ++ keys_of_places left rest) is
          ∙ append_assoc taken (option_to_list r) (keys_of_places left rest)
          ∙ ap (λ xs. taken ++ xs) (sym (cons_is_append r (keys_of_places left rest)) ∙ (λ i. cons_option (found i) (sym stay i)))
          ∙ ap (λ fs. taken ++ keys_of_places keys fs) (sym next)
          ∙ taking.together;
      apart = apart.1;
    }

-- and after the last
pub all_taken : {whole taken : List Key} {keys : List (Option Key)} {es : List (ℕ × ℕ)} → IsTaking whole taken keys es → es ≡ [] → taken ≡ whole
all_taken {taken = taken} {keys = keys} taking end = sym (append-nil taken) ∙ ap (λ fs. taken ++ keys_of_places keys fs) (sym end) ∙ taking.together
