-- A listed key that isn't due at a level keeps its row there.
use Rattle.std.proofs.Common.{◌≡◌, ◌+◌, ◌≤◌, ◌==◌, ◌&&◌, ◌||◌, ◌⊎◌, inl, inr, ℕ, zero, suc, Bool, true, false, cond, nat_lt, List, [], ◌∷◌, ◌++◌, Option, Some, None, IfSome, refl, sym, ap, subst, ◌∙◌, arith}
use Rattle.std.specs.FinMap as map
use Rattle.std.proofs.lemmas.Bool.{false≢true, or_cases}
use Rattle.std.proofs.lemmas.Bool.Decides.{nat_tests}
use Rattle.std.proofs.lemmas.List.{append-nil, append_assoc}
use Rattle.std.proofs.lemmas.List.Folds.{list_any-append}
use Rattle.std.proofs.Math.Bool.{or-true}
use Rattle.wot_types.specs.declared.row.Row.{Row}
use Rattle.wot_types.specs.State.{State}
use Rattle.wot_types.specs.Candidates.{RowMap}
use Rattle.wot_types.specs.Explanation.{KeySet}
use Rattle.wot_types.specs.Indexes.{has_cert_by}
use Rattle.wot_types.specs.Keyring.{Keyring}
use Rattle.wot_types.specs.Levels.{rows_upto}
use Rattle.wot_types.proofs.Tests.{is_key}
use Rattle.wot_levels.specs.Given.{given_row}
use Rattle.wot_levels.proofs.Frontiers.{passed_over}
use Rattle.wot_live.specs.Agenda.{AgendaLists, AreDue, HasAt, IsPutOff, IsIdle, IsWithin, due_at, is_due, is_one_below}
use Rattle.wot_live.specs.Recounting.{IsGrownBy, IsRecounted, among, has_level, is_carried, is_via_of, kept_above, recounted}
use Rattle.wot_live.proofs.BeforeLevels.{row_below, rows_before}
use Rattle.wot_live.proofs.Befores.{high_goes, level_given, low_stays, lower_part, restricted}
use Rattle.wot_live.proofs.Lists.{grown_same}
use Rattle.wot_live.proofs.Stages.{IsGiven, among_first, changes_here, counted_is, is_low, not_low}

-- ---- a row of another level

abbrev IsOff : ℕ → Option Row → Type 0
IsOff n o = IfSome o (λ row. (row.level == n) ≡ false)

off_level : (n : ℕ) (o : Option Row) → has_level n o ≡ false → IsOff n o
off_level n None h = tt
off_level n (Some row) h = h

off_below : (n : ℕ) (o : Option Row) → is_one_below (suc n) o ≡ false → IsOff n o
off_below n None h = tt
off_below n (Some row) h = grind (arith, nat_tests)

-- it is among the rows up to this level where it is among those below it
off_same : (n : ℕ) (o : Option Row) → IsOff n o → row_below (suc n) o ≡ row_below n o
off_same n None off = refl
off_same n (Some row) off = elim (nat_lt row.level n) as (λ b. nat_lt row.level n ≡ b → row_below (suc n) (Some row) ≡ row_below n (Some row)) [
  | true ↦ λ low. let less = is_low n row low in low_stays (suc n) (Some row) (omega (arith, less)) ∙ sym (low_stays n (Some row) less)
  | false ↦ λ high. high_goes (suc n) (Some row) (beyond high) ∙ sym (high_goes n (Some row) (not_low n row high))
] refl
  where
    beyond : nat_lt row.level n ≡ false → suc n ≤ row.level
    beyond high = grind (arith, nat_tests)

-- ---- a key that is passed over

module _ (t : State) (rows : RowMap) where
  -- where no certifier has a row of the level before, all rows that count for the key counted then
  certifiers_same : (k x : ℕ) → ((y : ℕ) → row_below (suc (suc k)) (map.get rows y) ≡ map.get (rows_before t (suc (suc k))) y) → IsIdle t.keys rows (suc (suc k)) x
      → (y : ℕ) → has_cert_by t.keys y x ≡ true → map.get (rows_upto t (suc k)) y ≡ map.get (rows_upto t k) y
  certifiers_same k x below quiet y cert =
      let one : suc k + 1 ≡ suc (suc k) = omega arith in
      let less : suc k ≤ suc (suc k) = omega arith in
      sym (below y)
      ∙ off_same (suc k) (map.get rows y) (off_below (suc k) (map.get rows y) (quiet.certifiers y cert))
      ∙ sym (lower_part (suc k) (suc (suc k)) (map.get rows y) less)
      ∙ ap (row_below (suc k)) (below y)
      ∙ restricted t (suc k) 1 (suc (suc k)) y one

  pub quiet_stays : (n x : ℕ) → ((y : ℕ) → row_below n (map.get rows y) ≡ map.get (rows_before t n) y) → IsIdle t.keys rows n x → recounted n (map.get rows x) (given_row t rows n x) ≡ map.get rows x
  quiet_stays zero x below quiet = let late = quiet.late in absurd (omega (arith, late))
  quiet_stays (suc zero) x below quiet = let late = quiet.late in absurd (omega (arith, late))
  quiet_stays (suc (suc k)) x below quiet =
      let n = suc (suc k) in
      let over : map.get (rows_before t (suc n)) x ≡ map.get (rows_before t n) x = passed_over t k x (certifiers_same k x below quiet) in
      elim (changes_here n (map.get rows x) (given_row t rows n x) (level_given t rows n x)) as (λ _. recounted n (map.get rows x) (given_row t rows n x) ≡ map.get rows x) [
        | inl same ↦ same
        | inr differs ↦ absurd (differs (counted_is t n rows below x (map.get rows x) refl ∙ over ∙ sym (below x) ∙ sym (off_same n (map.get rows x) (off_level n (map.get rows x) quiet.own))))
      ]

-- ---- one level

-- where all others keep their rows, a recount of those that are due is one of all listed keys
pub all_recounted : (t : State) (n : ℕ) (moved : List ℕ) (rows : RowMap) (todo fresh : List ℕ) (agenda : AgendaLists) (new : RowMap) (more after : List ℕ)
    → ((y : ℕ) → row_below n (map.get rows y) ≡ map.get (rows_before t n) y) → AreDue t.keys rows n todo agenda → IsWithin todo agenda
    → IsRecounted t n moved (due_at agenda n) rows todo fresh new more after → IsRecounted t n moved todo rows todo fresh new more after
all_recounted t n moved rows todo fresh agenda new more after below due within pass = record {
  counted = λ x its. elim (is_due agenda n x) as (λ b. is_due agenda n x ≡ b → map.get new x ≡ recounted n (map.get rows x) (given_row t rows n x)) [
    | true ↦ λ here. pass.counted x here
    | false ↦ λ later. pass.others x later ∙ sym (quiet_stays t rows n x below (due n x (itself n) its later))
  ] refl;
  others = λ x out. elim (is_due agenda n x) as (λ b. is_due agenda n x ≡ b → map.get new x ≡ map.get rows x) [
    | true ↦ λ here. absurd (false≢true (sym out ∙ within n x here))
    | false ↦ λ later. pass.others x later
  ] refl;
  longer = pass.longer;
  stays = λ y out. let stays = pass.stays y out in (
    stays.0,
    stays.1,
    λ its. elim (is_due agenda n y) as (λ b. is_due agenda n y ≡ b → is_carried moved n (map.get new y) ≡ false) [
      | true ↦ λ here. stays.2 here
      | false ↦ λ later. off_carried (map.get new y) (ap (has_level n) stays.1 ∙ (due n y (itself n) its later).own)
    ] refl,
  );
  moves = pass.moves;
  reach = pass.reach;
  only = pass.only;
}
  where
    itself : (k : ℕ) → k ≤ k
    itself k = omega arith

    -- a row of another level isn't looked at for its chain
    off_carried : (o : Option Row) → has_level n o ≡ false → is_carried moved n o ≡ false
    off_carried None off = refl
    off_carried (Some row) off = ap (λ b. b && is_via_of moved row) off

-- ---- the keys of one level

-- a list that took the place of another's
pub set_again : (old with_first new : AgendaLists) (n : ℕ) (first ids : List ℕ) → HasAt old n first with_first → HasAt with_first n ids new → HasAt old n ids new
set_again old with_first new n first ids before on m =
    on m ∙ ap (cond (n == m) ids) (before m)
    ∙ elim (n == m) as (λ b. cond b ids (cond b first (due_at old m)) ≡ cond b ids (due_at old m)) [ true ↦ refl | false ↦ refl ]

pub none_added : (agenda : AgendaLists) (n : ℕ) → HasAt agenda n (due_at agenda n ++ []) agenda
none_added agenda n m = elim (n == m) as (λ b. n == m ≡ b → due_at agenda m ≡ cond b (due_at agenda n ++ []) (due_at agenda m)) [
  | true ↦ λ same. ap (due_at agenda) (sym (is_key n m same)) ∙ sym (append-nil (due_at agenda n))
  | false ↦ λ _. refl
] refl

pub one_added : (agenda some new : AgendaLists) (n : ℕ) (first : List ℕ) (id : ℕ) → HasAt agenda n (due_at agenda n ++ first) some → HasAt some n (due_at some n ++ id ∷ []) new
    → HasAt agenda n (due_at agenda n ++ (first ++ id ∷ [])) new
one_added agenda some new n first id before on =
    set_again agenda some new n (due_at agenda n ++ first) (due_at agenda n ++ (first ++ id ∷ [])) before
    (subst (λ xs. HasAt some n xs new) (ap (λ xs. xs ++ id ∷ []) here ∙ append_assoc (due_at agenda n) first (id ∷ [])) on)
  where
    itself : (n == n) ≡ true
    itself = grind (arith, nat_tests)

    here : due_at some n ≡ due_at agenda n ++ first
    here = before n ∙ ap (λ b. cond b (due_at agenda n ++ first) (due_at agenda n)) itself

pub put_off_again : (agenda new : AgendaLists) (n : ℕ) (ids : List ℕ) → HasAt agenda n (due_at agenda n ++ ids) new → IsPutOff (among ids) n agenda new
put_off_again agenda new n ids at = record {
  grown = record {
    longer = (ids, here);
    all = λ x its. ap (λ xs. among xs x) here ∙ both x ∙ ap (λ b. is_due agenda n x || b) its ∙ or-true (is_due agenda n x);
    only = λ x its. or_cases (is_due agenda n x) (among ids x) (sym (both x) ∙ ap (λ xs. among xs x) (sym here) ∙ its);
  };
  others = λ m other. at m ∙ ap (λ b. cond b (due_at agenda n ++ ids) (due_at agenda m)) other;
}
  where
    itself : (n == n) ≡ true
    itself = grind (arith, nat_tests)

    here : due_at new n ≡ due_at agenda n ++ ids
    here = at n ∙ ap (λ b. cond b (due_at agenda n ++ ids) (due_at agenda n)) itself

    both : (x : ℕ) → among (due_at agenda n ++ ids) x ≡ (is_due agenda n x || among ids x)
    both x = list_any-append (λ id. id == x) (due_at agenda n) ids

pub put_off_same : (set next : KeySet) (n : ℕ) (old new : AgendaLists) → ((x : ℕ) → set x ≡ next x) → IsPutOff set n old new → IsPutOff next n old new
put_off_same set next n old new same put = record {
  grown = grown_same set next (due_at old n) (due_at new n) put.grown same;
  others = put.others;
}

-- ---- the agenda behind a level

later_not : (n m : ℕ) → n + 1 ≤ m → (n == m) ≡ false
later_not n m h = grind (arith, nat_tests)

module _ (n : ℕ) (ids : List ℕ) (agenda left : AgendaLists) (taken : HasAt agenda n [] left) where
  taken_at : (m : ℕ) (b : Bool) → (n == m) ≡ b → due_at left m ≡ cond b [] (due_at agenda m)
  taken_at m b is = taken m ∙ ap (λ b. cond b [] (due_at agenda m)) is

  pub due_behind : (keys : Keyring) (rows : RowMap) → AreDue keys rows n ids agenda → AreDue keys rows (n + 1) ids left
  due_behind keys rows due m x later its out = due m x (omega (arith, later)) its (ap (λ xs. among xs x) (sym (taken_at m false (later_not n m later))) ∙ out)

  pub within_behind : IsWithin ids agenda → IsWithin ids left
  within_behind within m x its = elim (n == m) as (λ b. (n == m) ≡ b → among ids x ≡ true) [
    | true ↦ λ same. absurd (false≢true (ap (λ xs. among xs x) (sym (taken_at m true same)) ∙ its))
    | false ↦ λ other. within m x (ap (λ xs. among xs x) (sym (taken_at m false other)) ∙ its)
  ] refl

-- ---- the agenda behind a recount of one key

stays_or_given : (n : ℕ) (old new : Option Row) → IsGiven n new → (recounted n old new ≡ old) ⊎ IsGiven n (recounted n old new)
stays_or_given n None new given = inr given
stays_or_given n (Some old) new given = elim (nat_lt old.level n) as (λ b. (cond b (Some old) (kept_above n old new) ≡ Some old) ⊎ IsGiven n (cond b (Some old) (kept_above n old new))) [
  | true ↦ inl refl
  | false ↦ at new given
]
  where
    at : (o : Option Row) → IsGiven n o → (kept_above n old o ≡ Some old) ⊎ IsGiven n (kept_above n old o)
    at (Some row) is = inr is
    at None is = elim (old.level == n) as (λ b. (cond b None (Some old) ≡ Some old) ⊎ IsGiven n (cond b None (Some old))) [ true ↦ inr tt | false ↦ inl refl ]

given_not : (n m : ℕ) (o : Option Row) → IsGiven n o → n + 1 ≤ m → has_level m o ≡ false
given_not n m None is h = refl
given_not n m (Some row) is h = grind (arith, nat_tests)

given_not_before : (n m : ℕ) (o : Option Row) → IsGiven n o → (n + 1 == m) ≡ false → is_one_below m o ≡ false
given_not_before n m None is h = refl
given_not_before n m (Some row) is h = grind (arith, nat_tests)

pub due_same : (keys : Keyring) (old new : RowMap) (n : ℕ) (ids : List ℕ) (agenda : AgendaLists) → ((x : ℕ) → map.get new x ≡ map.get old x) → AreDue keys old n ids agenda → AreDue keys new n ids agenda
due_same keys old new n ids agenda same due m x later its out =
    let quiet = due m x later its out in
    record {
      late = quiet.late;
      own = ap (has_level m) (same x) ∙ quiet.own;
      certifiers = λ y cert. ap (is_one_below m) (same y) ∙ quiet.certifiers y cert;
    }

put_off_kept : (set : KeySet) (n : ℕ) (old new : AgendaLists) → IsPutOff set n old new → (m x : ℕ) → is_due old m x ≡ true → is_due new m x ≡ true
put_off_kept set n old new put m x its = elim (n == m) as (λ b. (n == m) ≡ b → is_due new m x ≡ true) [
  | true ↦ λ same. subst (λ k. is_due old k x ≡ true → is_due new k x ≡ true) (is_key n m same) here its
  | false ↦ λ other. ap (λ xs. among xs x) (put.others m other) ∙ its
] refl
  where
    here : is_due old n x ≡ true → is_due new n x ≡ true
    here its = ap (λ xs. among xs x) put.grown.longer.1 ∙ among_first (due_at old n) put.grown.longer.0 x its

pub out_before : (a b : Bool) → (a ≡ true → b ≡ true) → b ≡ false → a ≡ false
out_before true b up out = absurd (false≢true (sym out ∙ up refl))
out_before false b up out = refl

module _ (t : State) (n id : ℕ) (old new : RowMap) (here : map.get new id ≡ recounted n (map.get old id) (given_row t old n id))
    (others : (x : ℕ) → (id == x) ≡ false → map.get new x ≡ map.get old x) where
  given_here : (map.get new id ≡ map.get old id) ⊎ IsGiven n (map.get new id)
  given_here = elim (stays_or_given n (map.get old id) (given_row t old n id) (level_given t old n id)) as (λ _. (map.get new id ≡ map.get old id) ⊎ IsGiven n (map.get new id)) [
    | inl same ↦ inl (here ∙ same)
    | inr is ↦ inr (subst (IsGiven n) (sym here) is)
  ]

  own_after : (m x : ℕ) → n + 1 ≤ m → has_level m (map.get old x) ≡ false → has_level m (map.get new x) ≡ false
  own_after m x later off = elim (id == x) as (λ b. (id == x) ≡ b → has_level m (map.get new x) ≡ false) [
    | false ↦ λ other. ap (has_level m) (others x other) ∙ off
    | true ↦ λ it. subst (λ y. has_level m (map.get old y) ≡ false → has_level m (map.get new y) ≡ false) (is_key id x it) at_it off
  ] refl
    where
      at_it : has_level m (map.get old id) ≡ false → has_level m (map.get new id) ≡ false
      at_it off = elim given_here as (λ _. has_level m (map.get new id) ≡ false) [
        | inl same ↦ ap (has_level m) same ∙ off
        | inr is ↦ given_not n m (map.get new id) is later
      ]

  before_after : (m y : ℕ) → (id == y) ≡ false ⊎ ((n + 1 == m) ≡ false) → is_one_below m (map.get old y) ≡ false → is_one_below m (map.get new y) ≡ false
  before_after m y (inl other) off = ap (is_one_below m) (others y other) ∙ off
  before_after m y (inr far) off = elim (id == y) as (λ b. (id == y) ≡ b → is_one_below m (map.get new y) ≡ false) [
    | false ↦ λ other. ap (is_one_below m) (others y other) ∙ off
    | true ↦ λ it. subst (λ k. is_one_below m (map.get old k) ≡ false → is_one_below m (map.get new k) ≡ false) (is_key id y it) at_it off
  ] refl
    where
      at_it : is_one_below m (map.get old id) ≡ false → is_one_below m (map.get new id) ≡ false
      at_it off = elim given_here as (λ _. is_one_below m (map.get new id) ≡ false) [
        | inl same ↦ ap (is_one_below m) same ∙ off
        | inr is ↦ given_not_before n m (map.get new id) is far
      ]

  -- those that the key certified are due at the next level
  pub due_after : (before after : AgendaLists) → IsPutOff (has_cert_by t.keys id) (n + 1) before after → (ids : List ℕ) → AreDue t.keys old (n + 1) ids before → AreDue t.keys new (n + 1) ids after
  due_after before after put ids due m x later its out =
      let quiet = due m x later its (out_before (is_due before m x) (is_due after m x) (put_off_kept (has_cert_by t.keys id) (n + 1) before after put m x) out) in
      record {
        late = quiet.late;
        own = own_after m x later quiet.own;
        certifiers = λ y cert. before_after m y (apart y cert) (quiet.certifiers y cert);
      }
    where
      apart : (y : ℕ) → has_cert_by t.keys y x ≡ true → (id == y) ≡ false ⊎ ((n + 1 == m) ≡ false)
      apart y cert = elim (id == y) as (λ b. (id == y) ≡ b → (id == y) ≡ false ⊎ ((n + 1 == m) ≡ false)) [
        | false ↦ λ other. inl other
        | true ↦ λ it. elim (n + 1 == m) as (λ b. (n + 1 == m) ≡ b → (id == y) ≡ false ⊎ ((n + 1 == m) ≡ false)) [
          | false ↦ λ far. inr far
          | true ↦ λ next. absurd (false≢true (sym out ∙ ap (λ k. is_due after k x) (sym (is_key (n + 1) m next)) ∙ put.grown.all x (ap (λ k. has_cert_by t.keys k x) (is_key id y it) ∙ cert)))
        ] refl
      ] refl

pub within_after : (set : KeySet) (n : ℕ) (todo more : List ℕ) (before after : AgendaLists) → IsGrownBy set todo more → IsPutOff set n before after → IsWithin todo before → IsWithin more after
within_after set n todo more before after grown put within m x its = elim (n == m) as (λ b. (n == m) ≡ b → among more x ≡ true) [
  | true ↦ λ same. at_level (ap (λ k. is_due after k x) (is_key n m same) ∙ its)
  | false ↦ λ other. still (within m x (ap (λ xs. among xs x) (sym (put.others m other)) ∙ its))
] refl
  where
    still : among todo x ≡ true → among more x ≡ true
    still its = ap (λ xs. among xs x) grown.longer.1 ∙ among_first todo grown.longer.0 x its

    at_level : is_due after n x ≡ true → among more x ≡ true
    at_level its = elim (put.grown.only x its) as (λ _. among more x ≡ true) [
      | inl before ↦ still (within n x before)
      | inr certified ↦ grown.all x certified
    ]
