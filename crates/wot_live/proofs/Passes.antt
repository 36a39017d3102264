-- The recount of several keys at one level, key after key.
use Rattle.std.proofs.Common.{◌≡◌, ◌≢◌, ◌≤◌, ◌<◌, ◌==◌, ◌||◌, ◌⊎◌, inl, inr, ℕ, zero, suc, Bool, true, false, cond, nat_eq, nat_lt, List, [], ◌∷◌, ◌++◌, take, length, get_or, Option, Some, None, option_and_then, IfSome, refl, sym, ap, subst, ◌∙◌, append_assoc, append-nil, arith}
use Rattle.std.specs.FinMap as map
use Rattle.std.specs.FinMap.{nat_cmp-IsAntisymmetric, same_map}
use Rattle.std.specs.Cmp.{nat_cmp_total}
use Rattle.std.specs.List.{AllByRecursion, IsDistinct}
use Rattle.std.proofs.lemmas.Bool.{false≢true, true≢false}
use Rattle.std.proofs.lemmas.List.Folds.{list_any-append}
use Rattle.std.proofs.Math.Bool.{or-false, or-true}
use Rattle.std.proofs.lemmas.Bool.Decides.{nat_tests}
use Rattle.wot_types.specs.declared.row.Row.{Row}
use Rattle.wot_types.specs.State.{State}
use Rattle.wot_types.specs.Candidates.{RowMap}
use Rattle.wot_types.specs.Indexes.{has_cert_by}
use Rattle.wot_types.specs.Levels.{first_row, new_row}
use Rattle.wot_types.specs.Touched.{is_same_standing}
use Rattle.wot_types.proofs.SameRows.{decide_standing, same_standing}
use Rattle.wot_types.proofs.Tests.{is_key}
use Rattle.wot_levels.specs.Given.{given_row, rows_below}
use Rattle.wot_live.specs.Recounting.{IsGrownBy, IsRecounted, among, ids_at, is_carried, kept_above, recounted}
use Rattle.wot_live.proofs.BeforeLevels.{row_below}
use Rattle.wot_live.proofs.Befores.{get_below, level_given}
use Rattle.wot_live.proofs.Stages.{IsGiven, IsLow, among_first, lower_stays}

-- ---- tests

left_out : (a b : Bool) → (a || b) ≡ false → (a ≡ false) × (b ≡ false)
left_out true b e = absurd (true≢false e)
left_out false b e = (refl, e)

one_of : (a b : Bool) → (a || b) ≡ true → (a ≡ true) ⊎ (b ≡ true)
one_of true b e = inl refl
one_of false b e = inr e

-- ---- one key

pub only_it : (id x : ℕ) → among (id ∷ []) x ≡ true → id ≡ x
only_it id x h = is_key id x (sym (or-false (id == x)) ∙ h)

not_it : (id x : ℕ) → among (id ∷ []) x ≡ false → (id == x) ≡ false
not_it id x h = sym (or-false (id == x)) ∙ h

pub all_same : (id : ℕ) (old new : RowMap) → ((x : ℕ) → (id == x) ≡ false → map.get new x ≡ map.get old x) → is_same_standing (map.get old id) (map.get new id) ≡ true → (x : ℕ) → map.get new x ≡ map.get old x
all_same id old new others same x = elim (id == x) as (λ b. (id == x) ≡ b → map.get new x ≡ map.get old x) [
  | true ↦ λ it. subst (λ y. map.get new y ≡ map.get old y) (is_key id x it) (sym (same_standing (map.get old id) (map.get new id) same))
  | false ↦ λ other. others x other
] refl

module _ (t : State) (n id : ℕ) (moved : List ℕ) (old new : RowMap) (todo fresh : List ℕ) (here : map.get new id ≡ recounted n (map.get old id) (given_row t old n id))
    (others : (x : ℕ) → (id == x) ≡ false → map.get new x ≡ map.get old x) where
  counted : (x : ℕ) → among (id ∷ []) x ≡ true → map.get new x ≡ recounted n (map.get old x) (given_row t old n x)
  counted x h = subst (λ y. map.get new y ≡ recounted n (map.get old y) (given_row t old n y)) (only_it id x h) here

  pub unchanged_step : is_same_standing (map.get old id) (map.get new id) ≡ true → is_carried moved n (map.get new id) ≡ false → IsRecounted t n moved (id ∷ []) old todo fresh new todo fresh
  unchanged_step same stays = record {
    counted = counted;
    others = λ x h. others x (not_it id x h);
    longer = ([], sym (append-nil todo));
    stays = λ y out. (out, all_same id old new others same y, λ its. subst (λ k. is_carried moved n (map.get new k) ≡ false) (only_it id y its) stays);
    moves = λ y its. inl its;
    reach = λ y its. inl its;
    only = λ x its. inl its;
  }

  pub changed_step : (more after : List ℕ) → (map.get new id ≢ map.get old id) ⊎ (is_carried moved n (map.get new id) ≡ true) → IsGrownBy (has_cert_by t.keys id) todo more
      → ((y : ℕ) → among after y ≡ (among fresh y || (id == y))) → IsRecounted t n moved (id ∷ []) old todo fresh new more after
  changed_step more after why grown are = record {
    counted = counted;
    others = λ x h. others x (not_it id x h);
    longer = grown.longer;
    stays = λ y out.
        let outs = left_out (among fresh y) (id == y) (sym (are y) ∙ out) in
        (outs.0, others y outs.1, λ its. absurd (false≢true (sym outs.1 ∙ sym (or-false (id == y)) ∙ its)));
    moves = λ y its. elim (one_of (among fresh y) (id == y) (sym (are y) ∙ its)) as (λ _. (among fresh y ≡ true) ⊎ ((map.get new y ≢ map.get old y) ⊎ (is_carried moved n (map.get new y) ≡ true))) [
      | inl before ↦ inl before
      | inr it ↦ inr (subst (λ k. (map.get new k ≢ map.get old k) ⊎ (is_carried moved n (map.get new k) ≡ true)) (is_key id y it) why)
    ];
    reach = λ y its. elim (one_of (among fresh y) (id == y) (sym (are y) ∙ its)) as (λ _. (among fresh y ≡ true) ⊎ ((x : ℕ) → has_cert_by t.keys y x ≡ true → among more x ≡ true)) [
      | inl before ↦ inl before
      | inr it ↦ inr (λ x cert. grown.all x (ap (λ k. has_cert_by t.keys k x) (is_key id y it) ∙ cert))
    ];
    only = λ x its. elim (grown.only x its) as (λ _. (among todo x ≡ true) ⊎ ((y : ℕ) × (among after y ≡ true) × (has_cert_by t.keys y x ≡ true))) [
      | inl before ↦ inl before
      | inr cert ↦ inr (id, are id ∙ ap (λ b. among fresh id || b) (itself id) ∙ or-true (among fresh id), cert)
    ];
  }
    where
      itself : (k : ℕ) → (k == k) ≡ true
      itself k = grind (arith, nat_tests)

-- ---- no key, and some more

pub no_step : (t : State) (n : ℕ) (moved : List ℕ) (old : RowMap) (todo fresh : List ℕ) → IsRecounted t n moved [] old todo fresh old todo fresh
no_step t n moved old todo fresh = record {
  counted = λ x h. absurd (false≢true h);
  others = λ x _. refl;
  longer = ([], sym (append-nil todo));
  stays = λ y out. (out, refl, λ none. absurd (false≢true none));
  moves = λ y its. inl its;
  reach = λ y its. inl its;
  only = λ x its. inl its;
}

-- which keys are recounted matters, and not in which order they are listed
pub same_step : (t : State) (n : ℕ) (moved ids js : List ℕ) (old : RowMap) (todo fresh : List ℕ) (new : RowMap) (more after : List ℕ) → ((x : ℕ) → among ids x ≡ among js x)
    → IsRecounted t n moved ids old todo fresh new more after → IsRecounted t n moved js old todo fresh new more after
same_step t n moved ids js old todo fresh new more after same step = record {
  counted = λ x its. step.counted x (same x ∙ its);
  others = λ x out. step.others x (same x ∙ out);
  longer = step.longer;
  stays = λ y out. let stays = step.stays y out in (stays.0, stays.1, λ its. stays.2 (same y ∙ its));
  moves = step.moves;
  reach = step.reach;
  only = step.only;
}

among_both : (ids js : List ℕ) (x : ℕ) → among (ids ++ js) x ≡ (among ids x || among js x)
among_both ids js x = list_any-append (λ id. id == x) ids js

one_in : (a b : Bool) → (a || b) ≡ true → b ≡ false → a ≡ true
one_in true b e f = refl
one_in false b e f = absurd (false≢true (sym f ∙ e))

given_same : (t : State) (n x : ℕ) (a b : RowMap) → rows_below n a ≡ rows_below n b → given_row t a n x ≡ given_row t b n x
given_same t n x a b same = ap (λ r. option_and_then (λ key. cond (n == 0) (first_row t x key) (new_row t r n x key)) (map.get t.keys x)) same

module _ (t : State) (n : ℕ) (moved ids js : List ℕ) (a b c : RowMap) (ta tb tc fa fb fc : List ℕ) (first : IsRecounted t n moved ids a ta fa b tb fb) (second : IsRecounted t n moved js b tb fb c tc fc)
    (apart : (x : ℕ) → among js x ≡ true → among ids x ≡ false) where
  same_lower : rows_below n b ≡ rows_below n a
  same_lower = same_map nat_cmp_total nat_cmp-IsAntisymmetric _ _ (λ x.
      get_below n b x
      ∙ elim (among ids x) as (λ i. among ids x ≡ i → row_below n (map.get b x) ≡ row_below n (map.get a x)) [
        | true ↦ λ its. ap (row_below n) (first.counted x its) ∙ lower_stays n (map.get a x) (given_row t a n x) (level_given t a n x)
        | false ↦ λ out. ap (row_below n) (first.others x out)
      ] refl
      ∙ sym (get_below n a x))

  both_counted : (x : ℕ) → among (ids ++ js) x ≡ true → map.get c x ≡ recounted n (map.get a x) (given_row t a n x)
  both_counted x h = elim (among js x) as (λ j. among js x ≡ j → map.get c x ≡ recounted n (map.get a x) (given_row t a n x)) [
    | true ↦ λ its. second.counted x its ∙ (λ i. recounted n (first.others x (apart x its) i) (given_same t n x b a same_lower i))
    | false ↦ λ out. second.others x out ∙ first.counted x (one_in (among ids x) (among js x) (sym (among_both ids js x) ∙ h) out)
  ] refl

  stays_in : (x : ℕ) → among tb x ≡ true → among tc x ≡ true
  stays_in x h = ap (λ ids. among ids x) second.longer.1 ∙ among_first tb second.longer.0 x h

  -- a key that one of the two recounts changes isn't changed back by the other
  first_changed : (y : ℕ) → map.get b y ≢ map.get a y → map.get c y ≢ map.get a y
  first_changed y d e = elim (among js y) as (λ j. among js y ≡ j → ⊥) [
    | true ↦ λ its. d (first.others y (apart y its))
    | false ↦ λ out. d (sym (second.others y out) ∙ e)
  ] refl

  second_changed : (y : ℕ) → map.get c y ≢ map.get b y → map.get c y ≢ map.get a y
  second_changed y d e = elim (among js y) as (λ j. among js y ≡ j → ⊥) [
    | true ↦ λ its. d (e ∙ sym (first.others y (apart y its)))
    | false ↦ λ out. d (second.others y out)
  ] refl

  -- a key whose chain changed by the first recount
  moved_on : (y : ℕ) → among fb y ≡ true → among fc y ≡ true
  moved_on y its = elim (among fc y) as (λ b. among fc y ≡ b → b ≡ true) [
    | true ↦ λ _. refl
    | false ↦ λ out. absurd (false≢true (sym (second.stays y out).0 ∙ its))
  ] refl

  both_stay : (y : ℕ) → among fc y ≡ false → (among fa y ≡ false) × (map.get c y ≡ map.get a y) × (among (ids ++ js) y ≡ true → is_carried moved n (map.get c y) ≡ false)
  both_stay y out =
      let later = second.stays y out in
      let sooner = first.stays y later.0 in (
        sooner.0,
        later.1 ∙ sooner.1,
        λ its. elim (one_of (among ids y) (among js y) (sym (among_both ids js y) ∙ its)) as (λ _. is_carried moved n (map.get c y) ≡ false) [
          | inl here ↦ ap (is_carried moved n) later.1 ∙ sooner.2 here
          | inr there ↦ later.2 there
        ],
      )

  abbrev Why : ℕ → Type 0
  Why y = (among fa y ≡ true) ⊎ ((map.get c y ≢ map.get a y) ⊎ (is_carried moved n (map.get c y) ≡ true))

  both_move : (y : ℕ) → among fc y ≡ true → Why y
  both_move y its = elim (second.moves y its) as (λ _. Why y) [
    | inr why ↦ elim why as (λ _. Why y) [
      | inl changed ↦ inr (inl (second_changed y changed))
      | inr carried ↦ inr (inr carried)
    ]
    | inl before ↦ elim (first.moves y before) as (λ _. Why y) [
      | inl sooner ↦ inl sooner
      | inr why ↦ elim why as (λ _. Why y) [
        | inl changed ↦ inr (inl (first_changed y changed))
        | inr carried ↦ elim (decide_standing (map.get c y) (map.get b y)) as (λ _. Why y) [
          | inl same ↦ inr (inr (ap (is_carried moved n) same ∙ carried))
          | inr other ↦ inr (inl (second_changed y other))
        ]
      ]
    ]
  ]

  both_reach : (y : ℕ) → among fc y ≡ true → (among fa y ≡ true) ⊎ ((x : ℕ) → has_cert_by t.keys y x ≡ true → among tc x ≡ true)
  both_reach y its = elim (second.reach y its) as (λ _. (among fa y ≡ true) ⊎ ((x : ℕ) → has_cert_by t.keys y x ≡ true → among tc x ≡ true)) [
    | inr all ↦ inr all
    | inl before ↦ elim (first.reach y before) as (λ _. (among fa y ≡ true) ⊎ ((x : ℕ) → has_cert_by t.keys y x ≡ true → among tc x ≡ true)) [
      | inr all ↦ inr (λ x cert. stays_in x (all x cert))
      | inl sooner ↦ inl sooner
    ]
  ]

  both_only : (x : ℕ) → among tc x ≡ true → (among ta x ≡ true) ⊎ ((y : ℕ) × (among fc y ≡ true) × (has_cert_by t.keys y x ≡ true))
  both_only x its = elim (second.only x its) as (λ _. (among ta x ≡ true) ⊎ ((y : ℕ) × (among fc y ≡ true) × (has_cert_by t.keys y x ≡ true))) [
    | inr found ↦ inr found
    | inl before ↦ elim (first.only x before) as (λ _. (among ta x ≡ true) ⊎ ((y : ℕ) × (among fc y ≡ true) × (has_cert_by t.keys y x ≡ true))) [
      | inr found ↦ inr (found.0, moved_on found.0 found.1, found.2)
      | inl there ↦ inl there
    ]
  ]

  pub both_steps : IsRecounted t n moved (ids ++ js) a ta fa c tc fc
  both_steps = record {
    counted = both_counted;
    others = λ x h. let outs = left_out (among ids x) (among js x) (sym (among_both ids js x) ∙ h) in second.others x outs.1 ∙ first.others x outs.0;
    longer = (first.longer.0 ++ second.longer.0, second.longer.1 ∙ ap (λ xs. xs ++ second.longer.0) first.longer.1 ∙ append_assoc ta first.longer.0 second.longer.0);
    stays = both_stay;
    moves = both_move;
    reach = both_reach;
    only = both_only;
  }

-- ---- levels of rows

recounted_low : (n m : ℕ) (old new : Option Row) → IfSome old (λ row. row.level ≤ m) → IsGiven n new → n ≤ m → IfSome (recounted n old new) (λ row. row.level ≤ m)
recounted_low n m None None h g le = tt
recounted_low n m None (Some new) h g le = omega (arith, g, le)
recounted_low n m (Some old) new h g le = elim (nat_lt old.level n) as (λ b. IfSome (cond b (Some old) (kept_above n old new)) (λ row. row.level ≤ m)) [
  | true ↦ h
  | false ↦ at new g
]
  where
    at : (o : Option Row) → IsGiven n o → IfSome (kept_above n old o) (λ row. row.level ≤ m)
    at (Some row) k = omega (arith, k, le)
    at None k = elim (old.level == n) as (λ b. IfSome (cond b None (Some old)) (λ (row : Row). row.level ≤ m)) [ true ↦ tt | false ↦ h ]

-- after a recount at a level no row is of a higher level than this one or the highest before
pub step_low : (t : State) (n m : ℕ) (moved ids : List ℕ) (old : RowMap) (todo fresh : List ℕ) (new : RowMap) (more after : List ℕ) → IsRecounted t n moved ids old todo fresh new more after → n ≤ m → IsLow m old → IsLow m new
step_low t n m moved ids old todo fresh new more after step le low x = elim (among ids x) as (λ b. among ids x ≡ b → IfSome (map.get new x) (λ row. row.level ≤ m)) [
  | true ↦ λ its. subst (λ o. IfSome o (λ (row : Row). row.level ≤ m)) (sym (step.counted x its)) (recounted_low n m (map.get old x) (given_row t old n x) (low x) (level_given t old n x) le)
  | false ↦ λ out. subst (λ o. IfSome o (λ (row : Row). row.level ≤ m)) (sym (step.others x out)) (low x)
] refl

-- ---- places of a list

at_end : (y x : ℕ) (ys : List ℕ) (i : ℕ) → AllByRecursion (λ z. nat_eq y z ≡ false) ys → among (ids_at ys i) x ≡ true → (y == x) ≡ false
at_end y x [] i h its = absurd (false≢true its)
at_end y x (z ∷ ys) zero h its = subst (λ k. nat_eq y k ≡ false) (only_it z x its) h.0
at_end y x (z ∷ ys) (suc i) h its = at_end y x ys i h.1 its

-- a key of the list isn't among those before it
pub fresh_at : (ids : List ℕ) (i x : ℕ) → IsDistinct nat_eq ids → among (ids_at ids i) x ≡ true → among (take i ids) x ≡ false
unfolding IsDistinct
fresh_at [] i x h its = absurd (false≢true its)
fresh_at (y ∷ ys) zero x h its = refl
fresh_at (y ∷ ys) (suc i) x h its = ap (λ b. b || among (take i ys) x) (at_end y x ys i h.0 its) ∙ fresh_at ys i x h.1 its

pub only_at : (ids : List ℕ) (i x : ℕ) → i < length ids → x ≡ get_or ids i x → ids_at ids i ≡ x ∷ []
only_at [] i x inside is = absurd (omega (arith, inside))
only_at (y ∷ ys) zero x inside is = ap (λ z. z ∷ []) (sym is)
only_at (y ∷ ys) (suc i) x inside is = only_at ys i x (omega (arith, inside)) is

pub take_at : (ids : List ℕ) (i : ℕ) → take (suc i) ids ≡ take i ids ++ ids_at ids i
take_at [] zero = refl
take_at [] (suc i) = refl
take_at (y ∷ ys) zero = refl
take_at (y ∷ ys) (suc i) = ap (λ xs. y ∷ xs) (take_at ys i)
