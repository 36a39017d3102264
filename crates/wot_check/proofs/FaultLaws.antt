-- The first fault of stored rows is there, and there is one.
use Rattle.std.proofs.Common.{◌≡◌, ◌||◌, ◌==◌, inl, inr, ℕ, Bool, true, false, List, [], ◌∷◌, ◌++◌, map, Option, Some, None, is_some, option_map, refl, sym, ap, ◌∙◌}
use Rattle.std.specs.FinMap as finmap
use Rattle.std.specs.FinMap.{from_entries, get-from_entries}
use Rattle.std.specs.FinMap.Entries.{is_some-find}
use Rattle.std.specs.Cmp.{nat_cmp_total}
use Rattle.std.specs.Ordering.{nat_cmp}
use Rattle.std.proofs.lemmas.Bool.{cases_order}
use Rattle.wot_types.specs.State.{State}
use Rattle.wot_types.specs.Candidates.{RowMap}
use Rattle.wot_types.specs.Keyring.{Keyring}
use Rattle.wot_check.specs.declared.fault.RowFault.{RowFault}
use Rattle.wot_check.specs.Comparison.{first_fallen}
use Rattle.wot_check.specs.FirstFault.{checked_ids, fault_of, first_fault, marked}
use Rattle.wot_check.specs.KeyWalk.{IsWalk, is_checked}
use Rattle.wot_check.specs.Stored.{IsFaultAt, IsFirstFault, counted_row}
use Rattle.wot_check.proofs.Firsts.{least_fallen, none_fallen}
use Rattle.wot_check.proofs.Walked.{any_by_order, any_of, has_among, ids_of, walk_by}

-- ---- the keys of the keyring and of the rows

marked_ids : (ids : List ℕ) → map (λ (e : ℕ × Unit {0}). e.0) (map (λ id. (id, tt)) ids) ≡ ids
marked_ids [] = refl
marked_ids (id ∷ ids) = ap (λ xs. id ∷ xs) (marked_ids ids)

any_of_two : (x : ℕ) (a b : List (ℕ × Unit {0})) → any_of x (ids_of (a ++ b)) ≡ (any_of x (ids_of a) || any_of x (ids_of b))
any_of_two x [] b = refl
any_of_two x (e ∷ a) b = ap (λ t. (e.0 == x) || t) (any_of_two x a b) ∙ regrouped (e.0 == x) (any_of x (ids_of a)) (any_of x (ids_of b))
  where
    regrouped : (p q r : Bool) → (p || (q || r)) ≡ ((p || q) || r)
    regrouped true q r = refl
    regrouped false q r = refl

checked_has : (keys : Keyring) (rows : RowMap) (x : ℕ) → is_checked keys rows x ≡ any_of x (checked_ids keys rows)
checked_has keys rows x =
    let m = from_entries {R = nat_cmp} (marked keys ++ marked rows) in
    ap (λ b. b || finmap.contains_key rows x) (has_among keys x) ∙ ap (λ b. any_of x (finmap.keys keys) || b) (has_among rows x)
    ∙ ap (λ ids. any_of x ids || any_of x (finmap.keys rows)) (sym (marked_ids (finmap.keys keys)))
    ∙ ap (λ ids. any_of x (ids_of (marked keys)) || any_of x ids) (sym (marked_ids (finmap.keys rows)))
    ∙ sym (any_of_two x (marked keys) (marked rows))
    ∙ sym (any_by_order x (ids_of (marked keys ++ marked rows)))
    ∙ sym (is_some-find nat_cmp x (marked keys ++ marked rows))
    ∙ ap is_some (sym (get-from_entries nat_cmp_total (marked keys ++ marked rows) x))
    ∙ has_among m x

checked_walk : (keys : Keyring) (rows : RowMap) → IsWalk (is_checked keys rows) None (checked_ids keys rows)
checked_walk keys rows = walk_by (is_checked keys rows) (from_entries {R = nat_cmp} (marked keys ++ marked rows)) (checked_has keys rows)

-- ---- the first fault

pub first_fault_is : (s : State) (rows : RowMap) → IsFirstFault s rows (first_fault s rows)
first_fault_is s rows =
    let ids = checked_ids s.keys rows in
    let walk = checked_walk s.keys rows in
    elim (first_fallen s rows ids) as (λ r. r ≡ first_fallen s rows ids → IsFirstFault s rows (option_map (fault_of s rows) r)) [
      | None ↦ λ is. none_fallen s rows ids walk is
      | Some id ↦ λ is. least_fallen s rows ids walk id (fault_of s rows id) is (record { of_key = refl; from_rows = refl; from_others = refl })
    ] refl

same_fault : (s : State) (rows : RowMap) (a b : RowFault) → a.key ≡ b.key → IsFaultAt s rows a.key a → IsFaultAt s rows b.key b → a ≡ b
same_fault s rows a b key is also =
    let stored = is.from_rows ∙ ap (finmap.get rows) key ∙ sym also.from_rows in
    let counted = is.from_others ∙ ap (counted_row s rows) key ∙ sym also.from_others in
    λ i. record { key = key i; stored = stored i; counted = counted i }

pub one_first_fault : (s : State) (rows : RowMap) (a b : Option RowFault) → IsFirstFault s rows a → IsFirstFault s rows b → a ≡ b
one_first_fault s rows None None is also = refl
one_first_fault s rows None (Some b) is also = absurd (also.falls (is b.key))
one_first_fault s rows (Some a) None is also = absurd (is.falls (also a.key))
one_first_fault s rows (Some a) (Some b) is also =
    elim (cases_order a.key b.key) as (λ _. ◌≡◌ {A = Option RowFault} (Some a) (Some b)) [
      | inl same ↦ ap Some (same_fault s rows a b same is.both also.both)
      | inr order ↦ elim order as (λ _. ◌≡◌ {A = Option RowFault} (Some a) (Some b)) [ inl below ↦ absurd (is.falls (also.least a.key below)) | inr above ↦ absurd (also.falls (is.least b.key above)) ]
    ]
