-- A text with one more line, and the entries of a whole text.
use Rattle.std.proofs.Common.{◌≡◌, ℕ, suc, ◌+◌, false, List, [], ◌∷◌, ◌++◌, map, length, T, All, Option, Some, None, Result, Ok, Err, refl, sym, ap, subst, ◌∙◌, arith}
use Rattle.std.specs.Prelude.{fold, option_map}
use Rattle.std.specs.Option.{option_or}
use Rattle.std.specs.Ordering.{is_lt}
use Rattle.std.specs.FinMap as finmap
use Rattle.std.specs.FinMap.Entries.{is_sorted, below_all}
use Rattle.std.proofs.lemmas.List.{length-append, nil_from_length}
use Rattle.std.proofs.lemmas.List.Sums.{fold-append}
use Rattle.std.proofs.lemmas.List.Elements.{All-map, All-nil}
use Rattle.wot_types.specs.declared.fault.OwnertrustFault.{OwnertrustFault}
use Rattle.wot_types.specs.declared.ownertrust.Entry.{Entry}
use Rattle.wot_types.specs.declared.ownertrust.Ownertrust.{Ownertrust}
use Rattle.wot_types.specs.Fingerprint.{fpr_cmp}
use Rattle.wot_types.specs.Ownertrust.{entry_of, is_unset, kept_of, OwnertrustMap}
use Rattle.wot_types.specs.OwnertrustText.{entry_of_line, fault_of, listed_entries, ownertrust_fault, ownertrust_fault_after, text_entries, with_line_entry}
use Rattle.wot_types.specs.Payload.{AreSettable, IsRisingBy}
use Rattle.wot_types.specs.Numbers.{capped}
use Rattle.wot_types.proofs.FinMaps.{All-insert}
use Rattle.wot_types.proofs.Fingerprints.{fpr_cmp_total, fpr_cmp-IsAntisymmetric}
use Rattle.wot_types.proofs.Optionals.{or_none, or_assoc}
use Rattle.wot_types.proofs.Tests.{first_part, second_part, less_from}
use Rattle.wot_types.proofs.Capped.{capped_add}
use Rattle.wot_ownertrust.specs.Reading.{SoFar, so_far_after, by_line, reading_of, so_far}
use Rattle.wot_ownertrust.proofs.Lines.{line_sets}

-- ---- one more line

-- the fault of the line of this number
abbrev fault_at : ℕ → List ℕ → Option (ℕ × OwnertrustFault)
fault_at n line = option_map (λ what. (capped n, what)) (fault_of (entry_of_line line))

fault_append : (n : ℕ) (lines : List (List ℕ)) (line : List ℕ)
    → ownertrust_fault_after n (lines ++ line ∷ []) ≡ option_or (ownertrust_fault_after n lines) (fault_at (n + length lines + 1) line)
fault_append n [] line = or_none (fault_at (n + 1) line) ∙ ap (λ (k : ℕ). fault_at k line) (let e : n + 1 ≡ n + 0 + 1 = omega arith in e)
fault_append n (first ∷ lines) line =
    let number : n + 1 + length lines + 1 ≡ n + suc (length lines) + 1 = omega arith in
    ap (option_or (fault_at (n + 1) first)) (fault_append (n + 1) lines line ∙ ap (λ (k : ℕ). option_or (ownertrust_fault_after (n + 1) lines) (fault_at k line)) number)
    ∙ or_assoc (fault_at (n + 1) first) (ownertrust_fault_after (n + 1) lines) (fault_at (n + suc (length lines) + 1) line)

-- what is kept with one more line, which gives r and has this number
abbrev step : Option (ℕ × OwnertrustFault) → Result (Option Entry) OwnertrustFault → OwnertrustMap → ℕ → SoFar
step (Some fault) r m number = Err fault
step None r m number = by_line r m number

one_more : (o : Option (ℕ × OwnertrustFault)) (r : Result (Option Entry) OwnertrustFault) (m : OwnertrustMap) (number : ℕ)
    → so_far (option_or o (option_map (λ what. (number, what)) (fault_of r))) (with_line_entry m r) number ≡ step o r m number
one_more (Some fault) r m number = refl
one_more None (Err what) m number = refl
one_more None (Ok None) m number = refl
one_more None (Ok (Some entry)) m number = refl

step_after : (o : Option (ℕ × OwnertrustFault)) (line : List ℕ) (m : OwnertrustMap) (k : ℕ) → step o (entry_of_line line) m (capped (k + 1)) ≡ so_far_after (so_far o m (capped k)) line
step_after (Some fault) line m k = refl
step_after None line m k = ap (λ (number : ℕ). by_line (entry_of_line line) m number) (sym (capped_add k 1))

pub after_one : (lines : List (List ℕ)) (line : List ℕ) → reading_of (lines ++ line ∷ []) ≡ so_far_after (reading_of lines) line
after_one lines line =
    let number : 0 + length lines + 1 ≡ length lines + 1 = omega arith in
    let count : length (lines ++ line ∷ []) ≡ length lines + 1 = omega (arith, length-append lines (line ∷ [])) in
    let faults : ownertrust_fault (lines ++ line ∷ []) ≡ option_or (ownertrust_fault lines) (fault_at (length lines + 1) line) =
    fault_append 0 lines line ∙ ap (λ (k : ℕ). option_or (ownertrust_fault lines) (fault_at k line)) number in
    let entries : text_entries (lines ++ line ∷ []) ≡ with_line_entry (text_entries lines) (entry_of_line line) =
    fold-append (λ (kept : OwnertrustMap) (l : List ℕ). with_line_entry kept (entry_of_line l)) finmap.empty lines (line ∷ []) in
    ap (λ (o : Option (ℕ × OwnertrustFault)). so_far o (text_entries (lines ++ line ∷ [])) (capped (length (lines ++ line ∷ [])))) faults
    ∙ ap (λ (m : OwnertrustMap). so_far (option_or (ownertrust_fault lines) (fault_at (length lines + 1) line)) m (capped (length (lines ++ line ∷ [])))) entries
    ∙ ap (λ (k : ℕ). so_far (option_or (ownertrust_fault lines) (fault_at (length lines + 1) line)) (with_line_entry (text_entries lines) (entry_of_line line)) (capped k)) count
    ∙ one_more (ownertrust_fault lines) (entry_of_line line) (text_entries lines) (capped (length lines + 1))
    ∙ step_after (ownertrust_fault lines) line (text_entries lines) (length lines)

-- ---- the end

-- where nothing is faulty, the map is the one of the lines
pub whole : (m : OwnertrustMap) (k : ℕ) (lines : List (List ℕ)) → Ok (m, k) ≡ reading_of lines → (ownertrust_fault lines ≡ None) × (m ≡ text_entries lines)
whole m k lines h = go (ownertrust_fault lines) h
  where
    go : (o : Option (ℕ × OwnertrustFault)) → Ok (m, k) ≡ so_far o (text_entries lines) (capped (length lines)) → (o ≡ None) × (m ≡ text_entries lines)
    go (Some fault) h = absurd cc
    go None h = (refl, (let same : (m, k) ≡ (text_entries lines, capped (length lines)) = cc in ap (λ (p : OwnertrustMap × ℕ). p.0) same))

-- and where something is, it is the fault of the lines
pub faulty : (fault : ℕ × OwnertrustFault) (lines : List (List ℕ)) → Err fault ≡ reading_of lines → ownertrust_fault lines ≡ Some fault
faulty fault lines h = go (ownertrust_fault lines) h
  where
    go : (o : Option (ℕ × OwnertrustFault)) → Err fault ≡ so_far o (text_entries lines) (capped (length lines)) → o ≡ Some fault
    go (Some f) h = cc
    go None h = absurd cc

-- ---- entries that may be set

abbrev IsSet : List ℕ × Ownertrust → Type 0
IsSet e = is_unset e.1 ≡ false

line_set : (m : OwnertrustMap) (line : List ℕ) → All IsSet (finmap.entries m) → All IsSet (finmap.entries (with_line_entry m (entry_of_line line)))
line_set m line h = go (entry_of_line line) refl
  where
    go : (r : Result (Option Entry) OwnertrustFault) → entry_of_line line ≡ r → All IsSet (finmap.entries (with_line_entry m r))
    go (Err what) is = h
    go (Ok None) is = h
    go (Ok (Some e)) is = All-insert fpr_cmp_total fpr_cmp-IsAntisymmetric IsSet m e.fpr (kept_of e) h (line_sets line e is)

lines_set : (m : OwnertrustMap) (lines : List (List ℕ)) → All IsSet (finmap.entries m)
    → All IsSet (finmap.entries (fold (λ (kept : OwnertrustMap) (line : List ℕ). with_line_entry kept (entry_of_line line)) m lines))
lines_set m [] h = h
lines_set m (line ∷ lines) h = lines_set (with_line_entry m (entry_of_line line)) lines (line_set m line h)

rising : (es : List (List ℕ × Ownertrust)) → T (is_sorted fpr_cmp es) → IsRisingBy (λ a b. fpr_cmp a.fpr b.fpr) (map entry_of es)
rising [] h = tt
rising (e ∷ []) h = tt
rising (e ∷ f ∷ es) h =
    let rest = second_part (below_all fpr_cmp e.0 (f ∷ es)) (is_sorted fpr_cmp (f ∷ es)) h in
    let below = first_part (is_lt (fpr_cmp e.0 f.0)) (below_all fpr_cmp e.0 es) (first_part (below_all fpr_cmp e.0 (f ∷ es)) (is_sorted fpr_cmp (f ∷ es)) h) in
    (less_from (fpr_cmp e.0 f.0) below, rising (f ∷ es) rest)

none_unset : All IsSet (finmap.entries (finmap.empty {R = fpr_cmp}))
none_unset =
    let none : finmap.entries (finmap.empty {X = Ownertrust} {R = fpr_cmp}) ≡ [] = nil_from_length _ (sym (finmap.len-entries finmap.empty) ∙ finmap.len-empty fpr_cmp Ownertrust) in
    subst (All IsSet) (sym none) (All-nil IsSet)

-- the entries of a text may be set
pub settable : (lines : List (List ℕ)) → AreSettable (listed_entries lines)
settable lines = record {
  each = All-map (λ (e : Entry). is_unset (kept_of e) ≡ false) entry_of (finmap.entries (text_entries lines)) (lines_set finmap.empty lines none_unset);
  rising = rising (finmap.entries (text_entries lines)) (finmap.entries_sorted (text_entries lines));
}
