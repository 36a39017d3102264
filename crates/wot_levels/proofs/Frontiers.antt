-- A key whose certifiers have the rows that they had at the level before gets none: it got none then.
use Rattle.std.proofs.Common.{Bor, ◌≡◌, ◌+◌, ◌-◌, ◌<◌, ◌≤◌, ◌==◌, ◌⊎◌, inl, inr, zero, suc, ℕ, Bool, true, false, cond, nat_eq, nat_le, List, [], ◌∷◌, ◌++◌, Option, Some, None, option_and_then, is_some, refl, sym, ap, subst, ◌∙◌, arith}
use Rattle.std.specs.FinMap as finmap
use Rattle.std.specs.FinMap.{contains_key-keys, get-insert, nat_cmp-IsAntisymmetric, same_map}
use Rattle.std.specs.List.{Contains, list_any}
use Rattle.std.specs.Option.{option_copied, option_map_or}
use Rattle.std.specs.Cmp.{nat_cmp_total, nat_eq_equiv}
use Rattle.std.proofs.lemmas.Bool.{false≢true, true≢false}
use Rattle.std.proofs.lemmas.Bool.Decides.{nat_tests}
use Rattle.std.proofs.lemmas.List.Elements.{Contains-append_cases, Contains-append_left, Contains-push, Contains-push_cases}
use Rattle.std.proofs.lemmas.Map.Views.{Contains-from_any, list_any-from_Contains}
use Rattle.wot_types.specs.declared.key.Key.{Key}
use Rattle.wot_types.specs.declared.row.Row.{Row}
use Rattle.wot_types.specs.State.{State}
use Rattle.wot_types.specs.Candidates.{RowMap, chain}
use Rattle.wot_types.specs.Explanation.{KeySet}
use Rattle.wot_types.specs.Indexes.{has_cert_by, key_issuers}
use Rattle.wot_types.specs.Levels.{first_row, kept_or, new_row, rows_upto}
use Rattle.wot_types.specs.Next.{IsAfter, IsNext}
use Rattle.wot_types.specs.NextCheck.{key_expiries}
use Rattle.wot_types.specs.Rows.{with_row}
use Rattle.wot_types.proofs.Frames.{issuers_of, new_row_frame}
use Rattle.wot_types.proofs.LevelLemmas.{no_key}
use Rattle.wot_types.proofs.Tests.{is_key, same_key}
use Rattle.wot_levels.specs.Frontier.{AreCertified, IsLookedAt, IsReached, row_after}
use Rattle.wot_levels.specs.Given.{given_row, if_below, rows_below}
use Rattle.wot_levels.proofs.Halfway.{is_done}
use Rattle.wot_levels.proofs.LevelCuts.{cut_one, get_below, given_later, level_given, low_stays, next_at, upto_chain, upto_low}
use Rattle.wot_levels.proofs.Uncertified.{same_dates, uncertified_row}

-- ---- a walk over the keys of a set in rising order

is_after : (after : Option ℕ) (x : ℕ) → is_done after x ≡ false → IsAfter after x
is_after None x h = tt
is_after (Some a) x h = grind (arith, nat_tests)

below : (id x : ℕ) → (id == x) ≡ false → nat_le x id ≡ true → x < id
below id x e l = grind (arith, nat_tests)

-- what holds of the keys that the walk has passed
module _ (set : KeySet) (after : Option ℕ) (P : ℕ → Type 0) (sofar : (x : ℕ) → set x ≡ true → is_done after x ≡ true → P x) where
  pub passed_more : (id : ℕ) → IsNext set after (Some id) → P id → (x : ℕ) → set x ≡ true → is_done (Some id) x ≡ true → P x
  passed_more id next here x its done = elim (is_done after x) as (λ d. is_done after x ≡ d → P x) [
    | true ↦ λ before. sofar x its before
    | false ↦ λ ahead. elim (id == x) as (λ b. (id == x) ≡ b → P x) [
      | true ↦ λ same. subst P (is_key id x same) here
      | false ↦ λ other. absurd (false≢true (sym (next.2 x (is_after after x ahead) (below id x other done)) ∙ its))
    ] refl
  ] refl

  pub passed_all : IsNext set after None → (x : ℕ) → set x ≡ true → P x
  passed_all next x its = elim (is_done after x) as (λ d. is_done after x ≡ d → P x) [
    | true ↦ λ before. sofar x its before
    | false ↦ λ ahead. absurd (false≢true (sym (next x (is_after after x ahead)) ∙ its))
  ] refl

pub found_more : (set : KeySet) (after : Option ℕ) (ids : List ℕ) (id : ℕ) → IsNext set after (Some id) → ((x : ℕ) → set x ≡ true → is_done after x ≡ true → Contains ids x)
    → (x : ℕ) → set x ≡ true → is_done (Some id) x ≡ true → Contains (ids ++ id ∷ []) x
found_more set after ids id next all = passed_more set after (Contains (ids ++ id ∷ [])) (λ x its before. Contains-append_left ids (id ∷ []) x (all x its before)) id next (Contains-push ids id)

pub found_all : (set : KeySet) (after : Option ℕ) (ids : List ℕ) → IsNext set after None → ((x : ℕ) → set x ≡ true → is_done after x ≡ true → Contains ids x) → (x : ℕ) → set x ≡ true → Contains ids x
found_all set after ids next all = passed_all set after (Contains ids) all next

-- ---- a look at one key

pub no_copy : {X : Type 0} (found : Option (Bor X)) → is_some found ≡ false → option_copied found ≡ None
no_copy None h = refl
no_copy (Some row) h = absurd (true≢false h)

only_it : (id x : ℕ) → Contains (id ∷ []) x → id ≡ x
only_it id x there = elim (Contains-push_cases [] id x there) as (λ _. id ≡ x) [
  | inl none ↦ absurd (omega (arith, none.1))
  | inr same ↦ same
]

module _ (s : State) (n id : ℕ) (old : RowMap) (before : List ℕ) where
  same_look : finmap.get old id ≡ row_after s n old id → IsLookedAt s n (id ∷ []) old before old before
  same_look is = record {
    made = λ x there. subst (λ y. finmap.get old y ≡ row_after s n old y) (only_it id x there) is;
    either = λ x. inl refl;
    reach = λ x y _. inl refl;
    kept = λ x there. there;
  }

  pub look_kept : (row : Row) → finmap.get old id ≡ Some row → IsLookedAt s n (id ∷ []) old before old before
  look_kept row is = same_look (is ∙ sym (ap (λ r. kept_or r (given_row s old n id)) is))

  pub look_none : finmap.get old id ≡ None → given_row s old n id ≡ None → IsLookedAt s n (id ∷ []) old before old before
  look_none is none = same_look (is ∙ (λ i. kept_or (sym is i) (sym none i)))

  module _ (row : Row) (next : List ℕ) (none : finmap.get old id ≡ None) (is : given_row s old n id ≡ Some row) (own : row.key ≡ id) where
    at_it : finmap.get (with_row old row) id ≡ row_after s n old id
    at_it =
        get-insert nat_cmp_total old row.key row id ∙ ap (λ b. cond b (Some row) (finmap.get old id)) (same_key id row.key ∙ itself)
        ∙ (λ i. kept_or (sym none i) (sym is i))
      where
        itself : (row.key == id) ≡ true
        itself = grind (arith, nat_tests, own)

    at_other : (x : ℕ) → (id == x) ≡ false → finmap.get (with_row old row) x ≡ finmap.get old x
    at_other x other = get-insert nat_cmp_total old row.key row x ∙ ap (λ b. cond b (Some row) (finmap.get old x)) (same_key x row.key ∙ ap (λ k. k == x) own ∙ other)

    pub look_new : ((x : ℕ) → has_cert_by s.keys id x ≡ true → Contains next x) → ((x : ℕ) → Contains before x → Contains next x) → IsLookedAt s n (id ∷ []) old before (with_row old row) next
    look_new all kept = record {
      made = λ x there. subst (λ y. finmap.get (with_row old row) y ≡ row_after s n old y) (only_it id x there) at_it;
      either = λ x. elim (id == x) as (λ b. (id == x) ≡ b → (finmap.get (with_row old row) x ≡ finmap.get old x) ⊎ (finmap.get (with_row old row) x ≡ row_after s n old x)) [
        | true ↦ λ same. inr (subst (λ y. finmap.get (with_row old row) y ≡ row_after s n old y) (is_key id x same) at_it)
        | false ↦ λ other. inl (at_other x other)
      ] refl;
      reach = λ x y cert. elim (id == y) as (λ b. (id == y) ≡ b → (finmap.get (with_row old row) y ≡ finmap.get old y) ⊎ Contains next x) [
        | true ↦ λ same. inr (all x (ap (λ k. has_cert_by s.keys k x) (is_key id y same) ∙ cert))
        | false ↦ λ other. inl (at_other y other)
      ] refl;
      kept = kept;
    }

-- ---- a look at no key, and at some more

pub no_look : (s : State) (n : ℕ) (old : RowMap) (before : List ℕ) → IsLookedAt s n [] old before old before
no_look s n old before = record {
  made = λ x none. absurd (omega (arith, none.1));
  either = λ x. inl refl;
  reach = λ x y _. inl refl;
  kept = λ x there. there;
}

pub look_with : (s : State) (n : ℕ) (ids : List ℕ) (old : RowMap) (before : List ℕ) (new : RowMap) (next more : List ℕ) → ((x : ℕ) → Contains next x → Contains more x) → IsLookedAt s n ids old before new next → IsLookedAt s n ids old before new more
look_with s n ids old before new next more all look = record {
  made = look.made;
  either = look.either;
  reach = λ x y cert. elim (look.reach x y cert) as (λ _. (finmap.get new y ≡ finmap.get old y) ⊎ Contains more x) [ inl same ↦ inl same | inr there ↦ inr (all x there) ];
  kept = λ x there. all x (look.kept x there);
}

kept_again : (a g : Option Row) → kept_or (kept_or a g) g ≡ kept_or a g
kept_again (Some row) g = refl
kept_again None None = refl
kept_again None (Some row) = refl

given_same : (s : State) (n x : ℕ) (a b : RowMap) → rows_below n a ≡ rows_below n b → given_row s a n x ≡ given_row s b n x
given_same s n x a b same = ap (λ r. option_and_then (λ key. cond (n == 0) (first_row s x key) (new_row s r n x key)) (finmap.get s.keys x)) same

module _ (s : State) (n : ℕ) (ids js : List ℕ) (a b c : RowMap) (na nb nc : List ℕ) (first : IsLookedAt s n ids a na b nb) (second : IsLookedAt s n js b nb c nc) where
  same_lower : rows_below n b ≡ rows_below n a
  same_lower = same_map nat_cmp_total nat_cmp-IsAntisymmetric _ _ (λ x.
      get_below n b x
      ∙ elim (first.either x) as (λ _. option_and_then (if_below n) (finmap.get b x) ≡ option_and_then (if_below n) (finmap.get a x)) [
        | inl same ↦ ap (option_and_then (if_below n)) same
        | inr new ↦ ap (option_and_then (if_below n)) new ∙ cut_one n n (finmap.get a x) (given_row s a n x) (omega arith) (level_given s a n x)
      ]
      ∙ sym (get_below n a x))

  -- both looks find the same for a key
  after_same : (x : ℕ) → row_after s n b x ≡ kept_or (finmap.get b x) (given_row s a n x)
  after_same x = ap (kept_or (finmap.get b x)) (given_same s n x b a same_lower)

  again : (x : ℕ) → finmap.get b x ≡ row_after s n a x → row_after s n b x ≡ row_after s n a x
  again x new = after_same x ∙ ap (λ r. kept_or r (given_row s a n x)) new ∙ kept_again (finmap.get a x) (given_row s a n x)

  either_after : (x : ℕ) → row_after s n b x ≡ row_after s n a x
  either_after x = elim (first.either x) as (λ _. row_after s n b x ≡ row_after s n a x) [
    | inl same ↦ after_same x ∙ ap (λ r. kept_or r (given_row s a n x)) same
    | inr new ↦ again x new
  ]

  pub both_looks : IsLookedAt s n (ids ++ js) a na c nc
  both_looks = record {
    made = λ x there. elim (Contains-append_cases ids js x there) as (λ _. finmap.get c x ≡ row_after s n a x) [
      | inr later ↦ second.made x later ∙ either_after x
      | inl sooner ↦ elim (second.either x) as (λ _. finmap.get c x ≡ row_after s n a x) [
        | inl same ↦ same ∙ first.made x sooner
        | inr new ↦ new ∙ either_after x
      ]
    ];
    either = λ x. elim (second.either x) as (λ _. (finmap.get c x ≡ finmap.get a x) ⊎ (finmap.get c x ≡ row_after s n a x)) [
      | inr new ↦ inr (new ∙ either_after x)
      | inl same ↦ elim (first.either x) as (λ _. (finmap.get c x ≡ finmap.get a x) ⊎ (finmap.get c x ≡ row_after s n a x)) [ inl before ↦ inl (same ∙ before) | inr made ↦ inr (same ∙ made) ]
    ];
    reach = λ x y cert. elim (second.reach x y cert) as (λ _. (finmap.get c y ≡ finmap.get a y) ⊎ Contains nc x) [
      | inr there ↦ inr there
      | inl same ↦ elim (first.reach x y cert) as (λ _. (finmap.get c y ≡ finmap.get a y) ⊎ Contains nc x) [ inl before ↦ inl (same ∙ before) | inr there ↦ inr (second.kept x there) ]
    ];
    kept = λ x there. second.kept x (first.kept x there);
  }

-- ---- levels

has_it : (ids : List ℕ) (x : ℕ) → list_any (nat_eq x) ids ≡ true → Contains ids x
has_it ids x h = Contains-from_any (λ a b e. is_key a b e) x ids h

has_not : (ids : List ℕ) (x : ℕ) → list_any (nat_eq x) ids ≡ false → Contains ids x → ⊥
has_not ids x out there = false≢true (sym out ∙ list_any-from_Contains nat_eq_equiv x ids there)

kept_none : (a : Option Row) → kept_or a None ≡ a
kept_none (Some row) = refl
kept_none None = refl

-- at level 1 all keys are looked at
pub reached_first : (s : State) (rows : RowMap) → rows ≡ rows_upto s 0 → IsReached s 0 rows (finmap.keys s.keys)
reached_first s rows is = record {
  right = is;
  others = λ x. elim (finmap.get s.keys x) as (λ o. finmap.get s.keys x ≡ o → Contains (finmap.keys s.keys) x ⊎ (finmap.get (rows_upto s 1) x ≡ finmap.get (rows_upto s 0) x)) [
    | None ↦ λ none. inr (no_key s 1 x none ∙ sym (no_key s 0 x none))
    | Some key ↦ λ there. inl (has_key x key there)
  ] refl;
}
  where
    has_key : (x : ℕ) (key : Key) → finmap.get s.keys x ≡ Some key → Contains (finmap.keys s.keys) x
    has_key x key there = Contains-from_any (λ a b e. sym (is_key b a (sym (same_key a b) ∙ e))) x (finmap.keys s.keys) (sym (contains_key-keys s.keys x) ∙ ap is_some there)

-- whether the same rows give a key a row hangs on no level
given_again : (a : Option Row) (b : Bool) (p q : Row) → kept_or (kept_or a (cond b (Some p) None)) (cond b (Some q) None) ≡ kept_or a (cond b (Some p) None)
given_again (Some row) b p q = refl
given_again None true p q = refl
given_again None false p q = refl

-- only those certified by a key of level 0 are looked at, where each of the numbers needed is at least 1
pub reached_certified : (s : State) (rows : RowMap) (ids : List ℕ) → rows ≡ rows_upto s 0 → AreCertified s.keys rows ids → 1 ≤ s.options.completes → 1 ≤ s.options.marginals → IsReached s 0 rows ids
reached_certified s rows ids is all completes marginals = record {
  right = is;
  others = λ x. elim (list_any (nat_eq x) ids) as (λ b. list_any (nat_eq x) ids ≡ b → Contains ids x ⊎ (finmap.get (rows_upto s 1) x ≡ finmap.get (rows_upto s 0) x)) [
    | true ↦ λ its. inl (has_it ids x its)
    | false ↦ λ out. inr (next_at s 0 x ∙ ap (kept_or (finmap.get (rows_upto s 0) x)) (no_row x (has_not ids x out)) ∙ kept_none (finmap.get (rows_upto s 0) x))
  ] refl;
}
  where
    certified : AreCertified s.keys (rows_upto s 0) ids
    certified = subst (λ r. AreCertified s.keys r ids) is all

    no_row : (x : ℕ) → (Contains ids x → ⊥) → option_and_then (new_row s (rows_upto s 0) 1 x) (finmap.get s.keys x) ≡ None
    no_row x out = elim (finmap.get s.keys x) as (λ o. finmap.get s.keys x ≡ o → option_and_then (new_row s (rows_upto s 0) 1 x) o ≡ None) [
      | None ↦ λ _. refl
      | Some key ↦ λ there. uncertified_row s (rows_upto s 0) ids certified x out key there completes marginals 1
    ] refl

module _ (s : State) (n x : ℕ) (same : (y : ℕ) → has_cert_by s.keys y x ≡ true → finmap.get (rows_upto s (suc n)) y ≡ finmap.get (rows_upto s n) y) where
  certifiers : (key : Key) → finmap.get s.keys x ≡ Some key → (y : ℕ) → issuers_of key y ≡ true → chain (rows_upto s (suc n)) y ≡ chain (rows_upto s n) y
  certifiers key is y its = upto_chain s n (suc n) y (omega arith) (same y (ap (λ o. option_map_or (λ key. list_any (λ n. n == y) (key_issuers key)) o false) is ∙ its))

  -- where no certifier of a key got a row at a level, the key gets none at the next
  pub passed_over : finmap.get (rows_upto s (suc (suc n))) x ≡ finmap.get (rows_upto s (suc n)) x
  passed_over =
      let low = rows_upto s n in
      let high = rows_upto s (suc n) in
      next_at s (suc n) x
      ∙ elim (finmap.get s.keys x) as (λ o. finmap.get s.keys x ≡ o → finmap.get high x ≡ kept_or (finmap.get low x) (option_and_then (new_row s low (suc n) x) o)
      → kept_or (finmap.get high x) (option_and_then (new_row s high (suc (suc n)) x) o) ≡ finmap.get high x) [
        | None ↦ λ _ _. kept_none (finmap.get high x)
        | Some key ↦ λ is here.
            let frame = new_row_frame s s refl high low key (same_dates s.date (key_expiries key)) (certifiers key is) (λ y _ _. refl) (suc (suc n)) x refl in
            (λ i. kept_or (here i) (frame i)) ∙ given_again (finmap.get low x) _ _ _ ∙ sym here
      ] refl (next_at s n x)

module _ (s : State) (n : ℕ) (old new : RowMap) (ids next : List ℕ) (reached : IsReached s n old ids) (look : IsLookedAt s (suc n) ids old [] new next) where
  lower : rows_below (suc n) old ≡ rows_upto s n
  lower = same_map nat_cmp_total nat_cmp-IsAntisymmetric _ _ (λ x.
      get_below (suc n) old x ∙ ap (λ m. option_and_then (if_below (suc n)) (finmap.get m x)) reached.right ∙ low_stays (suc n) (finmap.get (rows_upto s n) x) (upto_low s n x))

  after_is : (x : ℕ) → row_after s (suc n) old x ≡ finmap.get (rows_upto s (suc n)) x
  after_is x =
      (λ i. kept_or (finmap.get (reached.right i) x) (given_later s old n x i))
      ∙ ap (λ m. kept_or (finmap.get (rows_upto s n) x) (option_and_then (new_row s m (suc n) x) (finmap.get s.keys x))) lower
      ∙ sym (next_at s n x)

  made_all : new ≡ rows_upto s (suc n)
  made_all = same_map nat_cmp_total nat_cmp-IsAntisymmetric _ _ (λ x. elim (look.either x) as (λ _. finmap.get new x ≡ finmap.get (rows_upto s (suc n)) x) [
    | inr made ↦ made ∙ after_is x
    | inl kept ↦ elim (reached.others x) as (λ _. finmap.get new x ≡ finmap.get (rows_upto s (suc n)) x) [
      | inl there ↦ look.made x there ∙ after_is x
      | inr same ↦ kept ∙ ap (λ m. finmap.get m x) reached.right ∙ sym same
    ]
  ])

  pub reached_next : IsReached s (suc n) new next
  reached_next = record {
    right = made_all;
    others = λ x. elim (list_any (nat_eq x) next) as (λ b. list_any (nat_eq x) next ≡ b → Contains next x ⊎ (finmap.get (rows_upto s (suc (suc n))) x ≡ finmap.get (rows_upto s (suc n)) x)) [
      | true ↦ λ its. inl (has_it next x its)
      | false ↦ λ out. inr (passed_over s n x (λ y cert. elim (look.reach x y cert) as (λ _. finmap.get (rows_upto s (suc n)) y ≡ finmap.get (rows_upto s n) y) [
        | inr there ↦ absurd (has_not next x out there)
        | inl same ↦ sym (ap (λ m. finmap.get m y) made_all) ∙ same ∙ ap (λ m. finmap.get m y) reached.right
      ]))
    ] refl;
  }

-- levels count from 1
pub reached_more : (s : State) (level : ℕ) (old new : RowMap) (ids next : List ℕ) → 1 ≤ level → IsReached s (level - 1) old ids → IsLookedAt s level ids old [] new next → IsReached s (level + 1 - 1) new next
reached_more s zero old new ids next some reached look = absurd (omega (arith, some))
reached_more s (suc n) old new ids next some reached look =
    let here : suc n - 1 ≡ n = omega arith in
    let there : suc n ≡ suc n + 1 - 1 = omega arith in
    subst (λ m. IsReached s m new next) there (reached_next s n old new ids next (subst (λ m. IsReached s m old ids) here reached) look)
