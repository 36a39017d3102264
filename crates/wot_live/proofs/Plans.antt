-- How the agenda comes to have the listed keys.
use Rattle.std.proofs.Common.{◌≡◌, ◌+◌, ◌≤◌, ◌==◌, ◌||◌, ◌⊎◌, inl, inr, ℕ, zero, suc, true, false, cond, List, [], ◌∷◌, ◌++◌, Option, Some, None, IfSome, Result, Ok, Err, IfOk, refl, sym, ap, subst, ◌∙◌, arith}
use Rattle.std.specs.FinMap as map
use Rattle.std.proofs.lemmas.Bool.{false≢true, or_cases}
use Rattle.std.proofs.lemmas.Bool.Decides.{nat_tests}
use Rattle.std.proofs.lemmas.List.Folds.{list_any-append}
use Rattle.std.proofs.Math.Bool.{or-true}
use Rattle.wot_types.specs.declared.row.Row.{Row}
use Rattle.wot_types.specs.Candidates.{RowMap}
use Rattle.wot_types.specs.Indexes.{has_cert_by}
use Rattle.wot_types.specs.Keyring.{Keyring}
use Rattle.wot_types.proofs.Tests.{is_key}
use Rattle.wot_levels.specs.Certifiers.{StandsAt, is_level_of}
use Rattle.wot_live.specs.Agenda.{AgendaLists, AreDue, HasAt, HasMoreOf, IsIdle, IsWithin, due_at, is_due, is_one_below}
use Rattle.wot_live.specs.Recounting.{among, has_level, ids_at}
use Rattle.wot_live.proofs.Agendas.{out_before}
use Rattle.wot_live.proofs.Lists.{among_pushed}
use Rattle.wot_live.proofs.Passes.{only_it}

itself : (n : ℕ) → (n == n) ≡ true
itself n = grind (arith, nat_tests)

-- ---- one key at one level

module _ (old new : AgendaLists) (n id : ℕ) (is : HasAt old n (due_at old n ++ id ∷ []) new) where
  at_it : (x : ℕ) → is_due new n x ≡ (is_due old n x || (id == x))
  at_it x =
      ap (λ xs. among xs x) (is n ∙ ap (λ b. cond b (due_at old n ++ id ∷ []) (due_at old n)) (itself n))
      ∙ among_pushed (due_at old n) id x

  at_other : (m x : ℕ) → (n == m) ≡ false → is_due new m x ≡ is_due old m x
  at_other m x other = ap (λ xs. among xs x) (is m ∙ ap (λ b. cond b (due_at old n ++ id ∷ []) (due_at old m)) other)

  pub added_there : is_due new n id ≡ true
  added_there = at_it id ∙ ap (λ b. is_due old n id || b) (itself id) ∙ or-true (is_due old n id)

  pub added_more : HasMoreOf (id ∷ []) old new
  added_more = record {
    kept = λ m x its. elim (n == m) as (λ b. (n == m) ≡ b → is_due new m x ≡ true) [
      | true ↦ λ same. subst (λ k. is_due old k x ≡ true → is_due new k x ≡ true) (is_key n m same) (λ there. at_it x ∙ ap (λ b. b || (id == x)) there) its
      | false ↦ λ other. at_other m x other ∙ its
    ] refl;
    only = λ m x its. elim (n == m) as (λ b. (n == m) ≡ b → (is_due old m x ≡ true) ⊎ (among (id ∷ []) x ≡ true)) [
      | true ↦ λ same. subst (λ k. is_due new k x ≡ true → (is_due old k x ≡ true) ⊎ (among (id ∷ []) x ≡ true)) (is_key n m same) (here x) its
      | false ↦ λ other. inl (sym (at_other m x other) ∙ its)
    ] refl;
  }
    where
      here : (x : ℕ) → is_due new n x ≡ true → (is_due old n x ≡ true) ⊎ (among (id ∷ []) x ≡ true)
      here x its = elim (or_cases (is_due old n x) (id == x) (sym (at_it x) ∙ its)) as (λ _. (is_due old n x ≡ true) ⊎ (among (id ∷ []) x ≡ true)) [
        | inl before ↦ inl before
        | inr same ↦ inr (ap (λ b. b || false) same)
      ]

-- ---- the levels at which a key is due

module _ (keys : Keyring) (rows : RowMap) (n id : ℕ) (levels : List ℕ) (agenda : AgendaLists) (zeroth : n ≤ 0 → is_due agenda 0 id ≡ true) (first : n ≤ 1 → is_due agenda 1 id ≡ true)
    (own : IfSome (map.get rows id) (λ row. n ≤ row.level → is_due agenda row.level id ≡ true))
    (certifiers : (y : ℕ) → has_cert_by keys y id ≡ true → StandsAt rows levels y)
    (behind : (l : ℕ) → is_level_of levels l ≡ true → n ≤ l + 1 → is_due agenda (l + 1) id ≡ true) where
  late_if : (m : ℕ) → n ≤ m → is_due agenda m id ≡ false → 2 ≤ m
  late_if zero later out = absurd (false≢true (sym out ∙ zeroth later))
  late_if (suc zero) later out = absurd (false≢true (sym out ∙ first later))
  late_if (suc (suc m)) later out = omega arith

  own_if : (m : ℕ) → n ≤ m → is_due agenda m id ≡ false → (o : Option Row) → IfSome o (λ row. n ≤ row.level → is_due agenda row.level id ≡ true) → has_level m o ≡ false
  own_if m later out None h = refl
  own_if m later out (Some row) h = elim (row.level == m) as (λ b. (row.level == m) ≡ b → b ≡ false) [
    | false ↦ λ _. refl
    | true ↦ λ same.
        let here : row.level ≡ m = is_key row.level m same in
        absurd (false≢true (sym out ∙ ap (λ k. is_due agenda k id) (sym here) ∙ h (subst (λ k. n ≤ k) (sym here) later)))
  ] refl

  below_if : (m : ℕ) → n ≤ m → is_due agenda m id ≡ false → (o : Option Row) → IfSome o (λ row. is_level_of levels row.level ≡ true) → is_one_below m o ≡ false
  below_if m later out None h = refl
  below_if m later out (Some row) h = elim (row.level + 1 == m) as (λ b. (row.level + 1 == m) ≡ b → b ≡ false) [
    | false ↦ λ _. refl
    | true ↦ λ same.
        let here : row.level + 1 ≡ m = is_key (row.level + 1) m same in
        absurd (false≢true (sym out ∙ ap (λ k. is_due agenda k id) (sym here) ∙ behind row.level h (subst (λ k. n ≤ k) (sym here) later)))
  ] refl

  quiet_if : (m : ℕ) → n ≤ m → is_due agenda m id ≡ false → IsIdle keys rows m id
  quiet_if m later out = record {
    late = late_if m later out;
    own = own_if m later out (map.get rows id) own;
    certifiers = λ y cert. below_if m later out (map.get rows y) (certifiers y cert);
  }

  pub due_one : AreDue keys rows n (id ∷ []) agenda
  due_one m x later its out =
      let same : id ≡ x = only_it id x its in
      subst (λ k. is_due agenda m k ≡ false → IsIdle keys rows m k) same (quiet_if m later) out

-- where its own row is due it still is with more keys on the agenda
pub own_kept : (n id : ℕ) (ids : List ℕ) (old new : AgendaLists) → HasMoreOf ids old new → (o : Option Row)
    → IfSome o (λ row. n ≤ row.level → is_due old row.level id ≡ true) → IfSome o (λ row. n ≤ row.level → is_due new row.level id ≡ true)
own_kept n id ids old new more None h = tt
own_kept n id ids old new more (Some row) h = λ later. more.kept row.level id (h later)

pub both_of : {X E : Type 0} (r : Result X E) (P Q : X → Type 0) → IfOk r P → IfOk r Q → IfOk r (λ x. P x × Q x)
both_of (Ok x) P Q p q = (p, q)
both_of (Err e) P Q p q = tt

pub due_kept : (keys : Keyring) (rows : RowMap) (n : ℕ) (ids js : List ℕ) (old new : AgendaLists) → HasMoreOf js old new → AreDue keys rows n ids old → AreDue keys rows n ids new
due_kept keys rows n ids js old new more due m x later its out = due m x later its (out_before (is_due old m x) (is_due new m x) (more.kept m x) out)

pub due_both : (keys : Keyring) (rows : RowMap) (n : ℕ) (ids js : List ℕ) (agenda : AgendaLists) → AreDue keys rows n ids agenda → AreDue keys rows n js agenda → AreDue keys rows n (ids ++ js) agenda
due_both keys rows n ids js agenda first second m x later its out = elim (or_cases (among ids x) (among js x) (sym (list_any-append (λ id. id == x) ids js) ∙ its)) as (λ _. IsIdle keys rows m x) [
  | inl here ↦ first m x later here out
  | inr there ↦ second m x later there out
]

pub due_none : (keys : Keyring) (rows : RowMap) (n : ℕ) (agenda : AgendaLists) → AreDue keys rows n [] agenda
due_none keys rows n agenda m x later its out = absurd (false≢true its)

-- ---- the agenda of a list

at_place : (ids : List ℕ) (i x : ℕ) → among (ids_at ids i) x ≡ true → among ids x ≡ true
at_place [] i x h = h
at_place (y ∷ ids) zero x h = elim (or_cases (y == x) false h) as (λ _. ((y == x) || among ids x) ≡ true) [
  | inl same ↦ ap (λ b. b || among ids x) same
  | inr none ↦ absurd (false≢true none)
]
at_place (y ∷ ids) (suc i) x h = ap (λ b. (y == x) || b) (at_place ids i x h) ∙ or-true (y == x)

pub within_more : (todo : List ℕ) (i : ℕ) (old new : AgendaLists) → HasMoreOf (ids_at todo i) old new → IsWithin todo old → IsWithin todo new
within_more todo i old new more within m x its = elim (more.only m x its) as (λ _. among todo x ≡ true) [
  | inl before ↦ within m x before
  | inr here ↦ at_place todo i x here
]

pub within_none : (todo : List ℕ) → IsWithin todo []
within_none todo m x its = absurd (false≢true its)
