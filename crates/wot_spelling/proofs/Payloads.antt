-- Payloads: what is decoded was spelled so, and what was spelled so is decoded.
use Rattle.std.proofs.Common.{◌≡◌, ℕ, ◌^◌, ◌<◌, ◌≤◌, Bool, true, false, cond, List, [], ◌∷◌, ◌++◌, length, Option, Some, None, refl, sym, ap, subst, ◌∙◌, append_assoc, arith, inl, inr}
use Rattle.std.specs.Prelude.{All, IfSome, ◌==◌, ◌⊎◌}
use Rattle.std.specs.List.{AllByRecursion}
use Rattle.std.proofs.lemmas.Bool.{eqb-true}
use Rattle.std.proofs.lemmas.List.{append_cancel_right, append-nil, nil_from_length, length-append}
use Rattle.std.proofs.lemmas.List.Elements.{recursion_from_All}
use Rattle.std.proofs.lemmas.Option.{same_Some}
use Rattle.wot_types.specs.declared.cert.Form.{Form}
use Rattle.wot_types.specs.declared.cert.Form.TheVariants.{WithoutFpr, WithFpr}
use Rattle.wot_types.specs.declared.format.Format.{Format}
use Rattle.wot_types.specs.declared.ownertrust.Entry.{Entry}
use Rattle.wot_types.specs.declared.key.Key.{Key}
use Rattle.wot_types.specs.declared.edit.Edit.{Edit}
use Rattle.wot_types.specs.declared.edit.Edit.TheVariants.{Import, Set, Delete, Options as SetOptions, Ownertrust, Flag, Date, Sample}
use Rattle.wot_types.specs.Fingerprint.{IsFprLength}
use Rattle.wot_types.specs.Image.{RowFitsIn, row_bytes_in}
use Rattle.wot_types.specs.Spelling.{number_1, number_4, entry_bytes, EntryFits, list_bytes, key_bytes, options_bytes, CertFits, IssuerFprFits, KeyFits, UserFits, ListFits, OptionsFit}
use Rattle.wot_spelling.specs.Reading.{Read, made, number_1_at}
use Rattle.wot_spelling.specs.Checks.{are_importable, are_settable, is_in_range, is_sample_count}
use Rattle.wot_types.specs.Limits.{most_record, most_sample}
use Rattle.wot_types.specs.Payload.{AreSettable, EditFits, IsInRange, IsPayload, IsProper, payload, payload_in}
use Rattle.wot_types.specs.Accepted.{AreImportable}
use Rattle.wot_spelling.specs.Edits.{entries_at, flag_of, keys_at, range_at, sample_count_at, sample_of, set_of, edit_after, edit_at, edit_of}
use Rattle.wot_spelling.proofs.Parts.{IsBytes, Taken, IsPart, bind_some, both_part, part_of, flag_part, number_1_part, number_4_part, number_8_part}
use Rattle.wot_spelling.specs.Stored.{are_stored, rows_at}
use Rattle.wot_spelling.proofs.ValueParts.{kept_part, list_part, fpr_part, trust_part, entry_part, key_part, options_part, row_part}
use Rattle.wot_spelling.proofs.Lists.{few_parts}
use Rattle.wot_spelling.proofs.Rooms.{entry_some, key_some}
use Rattle.wot_spelling.proofs.CheckLaws.{AreStored, HasFpr, HasFprs, HasUserFprs, importable_tells, in_range_tells, sample_count_tells, settable_tells, stored_tells}

-- fingerprints that fit have their lengths
named_of : (form : Form) (o : Option (List ℕ)) → IssuerFprFits form o → IfSome o IsFprLength
named_of WithoutFpr o f = rw f tt
named_of WithFpr o f = f

weaker : {A : Type 0} (P Q : A → Type 0) → ((x : A) → P x → Q x) → (xs : List A) → AllByRecursion P xs → AllByRecursion Q xs
weaker P Q to [] h = tt
weaker P Q to (x ∷ xs) h = (to x h.0, weaker P Q to xs h.1)

each_fits : {A : Type 0} (P Q : A → Type 0) → ((x : A) → P x → Q x) → (xs : List A) → All P xs → AllByRecursion Q xs
each_fits P Q to xs f = weaker P Q to xs (recursion_from_All P xs f)

fprs_of : (form : Form) (keys : List Key) → All (KeyFits form) keys → AllByRecursion HasFprs keys
fprs_of form keys f = each_fits (KeyFits form) HasFprs (λ k h. (h.fpr, each_fits (UserFits form) HasUserFprs (λ u g. each_fits (CertFits form) HasFpr (λ c i. named_of form c.issuer_fpr i.issuer_fpr) u.certs g.certs.1) k.users h.users.1)) keys f

pub keys_part : (form : Form) → IsPart (list_bytes (key_bytes form)) (λ keys. ListFits (KeyFits form) keys × AreImportable keys) (keys_at form)
unfolding keys_at
keys_part form = part_of
    (λ keys f. (f.0, (importable_tells keys (fprs_of form keys f.0.1)).is f.1))
    (λ keys f. (f.0, (importable_tells keys (fprs_of form keys f.0.1)).yes f.1))
    (kept_part are_importable (list_part (key_part form)))

pub range_part : IsPart options_bytes (λ o. OptionsFit o × IsInRange o) range_at
unfolding range_at
range_part = part_of (λ o f. (f.0, (in_range_tells o).is f.1)) (λ o f. (f.0, (in_range_tells o).yes f.1)) (kept_part is_in_range options_part)

pub sample_count_part : IsPart number_4 (λ count. (count < 2 ^ 32) × ((1 ≤ count) × (count ≤ most_sample))) sample_count_at
unfolding sample_count_at
sample_count_part = part_of (λ n f. (f.0, (sample_count_tells n).is f.1)) (λ n f. (f.0, (sample_count_tells n).yes f.1)) (kept_part is_sample_count number_4_part)

pub entries_part : IsPart (list_bytes entry_bytes) (λ entries. ListFits EntryFits entries × AreSettable entries) entries_at
unfolding entries_at
entries_part = part_of (λ es f. (f.0, (settable_tells es).is f.1)) (λ es f. (f.0, (settable_tells es).yes f.1)) (kept_part are_settable (list_part entry_part))

pub rows_part : (format : Format) → IsPart (list_bytes (row_bytes_in format)) (λ rows. ListFits (RowFitsIn format) rows × AreStored rows) (rows_at format)
unfolding rows_at
rows_part format = part_of (λ rs f. (f.0, (stored_tells rs).is f.1)) (λ rs f. (f.0, (stored_tells rs).yes f.1)) (kept_part are_stored (list_part (row_part format)))

chosen : {A : Type 0} (b : Bool) (x y z : Option A) → cond b x y ≡ z → ((b ≡ true) × (x ≡ z)) ⊎ ((b ≡ false) × (y ≡ z))
chosen true x y z e = inl (refl, e)
chosen false x y z e = inr (refl, e)

-- what was read of an edit
record TakenEdit (bytes : List ℕ) (e : Edit) (rest : List ℕ) : Type 0 where
  pub text : List ℕ
  pub parts : bytes ≡ text ++ rest
  pub rest_fits : IsBytes rest
  pub spells : IsPayload text e

-- an edit behind its tag
variant_takes : {A : Type 0} {s : A → List ℕ} {F : A → Type 0} {a : Read A} → IsPart s F a → (tag k : ℕ) (f : A → Edit) → ((x : A) → F x → IsPayload (number_1 k ++ s x) (f x))
    → (bytes mid : List ℕ) (e : Edit) (rest : List ℕ) → Taken number_1 (λ n. Unit {0}) bytes tag mid → tag ≡ k → made f a mid ≡ Some (e, rest) → TakenEdit bytes e rest
variant_takes {A = A} {s = s} {F = F} {a = a} part tag k f spells bytes mid e rest one is h =
    let x = bind_some (a mid) (λ (x : A × List ℕ). Some (f x.0, x.1)) (e, rest) h in
    let two = part.takes mid x.0.0 x.0.1 one.rest_fits x.1 in
    let whole : TakenEdit bytes (f x.0.0) x.0.1 = record {
      text = number_1 k ++ s x.0.0;
      parts = one.parts ∙ ap (λ (n : ℕ). number_1 n ++ mid) is ∙ ap (λ (r : List ℕ). number_1 k ++ r) two.parts ∙ sym (append_assoc (number_1 k) (s x.0.0) x.0.1);
      rest_fits = two.rest_fits;
      spells = spells x.0.0 two.fits;
    } in
    subst (λ (q : Edit × List ℕ). TakenEdit bytes q.0 q.1) (same_Some (f x.0.0, x.0.1) (e, rest) x.2) whole

variant_again : {A : Type 0} {s : A → List ℕ} {F : A → Type 0} {a : Read A} → IsPart s F a → (k : ℕ) (f : A → Edit) (x : A) (rest : List ℕ) → F x
    → ((bytes : List ℕ) → edit_after k bytes ≡ made f a bytes) → edit_at ((number_1 k ++ s x) ++ rest) ≡ Some (f x, rest)
unfolding edit_at
variant_again {s = s} {a = a} part k f x rest fits after =
    ap edit_at (append_assoc (number_1 k) (s x) rest) ∙ rw (number_1_part.again k (s x ++ rest) tt, after (s x ++ rest), part.again x rest fits) refl

-- a spelling in a form
spelled : (form : Form) (e : Edit) (bytes : List ℕ) → EditFits form e → IsProper e → bytes ≡ payload_in form e → IsPayload bytes e
spelled form e bytes fits proper is = (form, record { fits = fits; proper = proper; is = is })

takes : (bytes : List ℕ) (e : Edit) (rest : List ℕ) → IsBytes bytes → edit_at bytes ≡ Some (e, rest) → TakenEdit bytes e rest
unfolding payload_in edit_at
takes bytes e rest fits h =
    let t = bind_some (number_1_at bytes) (λ (t : ℕ × List ℕ). edit_after t.0 t.1) (e, rest) h in
    let one = number_1_part.takes bytes t.0.0 t.0.1 fits t.1 in
    elim (chosen (t.0.0 == 1) _ _ _ t.2) [
      | inl a ↦ variant_takes (keys_part WithoutFpr) t.0.0 1 Import (λ x f. spelled WithoutFpr (Import x) _ f.0 f.1 refl) bytes t.0.1 e rest one (eqb-true t.0.0 1 a.0) a.1
      | inr a ↦ elim (chosen (t.0.0 == 2) _ _ _ a.1) [
        | inl b ↦ variant_takes entries_part t.0.0 2 Ownertrust (λ x f. spelled WithFpr (Ownertrust x) _ f.0 f.1 refl) bytes t.0.1 e rest one (eqb-true t.0.0 2 b.0) b.1
        | inr b ↦ elim (chosen (t.0.0 == 3) _ _ _ b.1) [
          | inl c ↦ variant_takes (both_part fpr_part trust_part) t.0.0 3 set_of (λ x f. spelled WithFpr (Set x.0 x.1) _ f.0 tt refl) bytes t.0.1 e rest one (eqb-true t.0.0 3 c.0) c.1
          | inr c ↦ elim (chosen (t.0.0 == 4) _ _ _ c.1) [
            | inl d ↦ variant_takes (both_part fpr_part flag_part) t.0.0 4 flag_of (λ x f. spelled WithFpr (Flag x.0 x.1) _ f.0 tt refl) bytes t.0.1 e rest one (eqb-true t.0.0 4 d.0) d.1
            | inr d ↦ elim (chosen (t.0.0 == 5) _ _ _ d.1) [
              | inl i ↦ variant_takes number_8_part t.0.0 5 Delete (λ x f. spelled WithFpr (Delete x) _ f tt refl) bytes t.0.1 e rest one (eqb-true t.0.0 5 i.0) i.1
              | inr i ↦ elim (chosen (t.0.0 == 6) _ _ _ i.1) [
                | inl f ↦ variant_takes number_4_part t.0.0 6 Date (λ x f. spelled WithFpr (Date x) _ f tt refl) bytes t.0.1 e rest one (eqb-true t.0.0 6 f.0) f.1
                | inr f ↦ elim (chosen (t.0.0 == 7) _ _ _ f.1) [
                  | inl g ↦ variant_takes range_part t.0.0 7 SetOptions (λ x f. spelled WithFpr (SetOptions x) _ f.0 f.1 refl) bytes t.0.1 e rest one (eqb-true t.0.0 7 g.0) g.1
                  | inr g ↦ elim (chosen (t.0.0 == 8) _ _ _ g.1) [
                    | inl j ↦ variant_takes (both_part number_8_part sample_count_part) t.0.0 8 sample_of (λ x f. spelled WithFpr (Sample x.0 x.1) _ (f.0, f.1.0) f.1.1 refl) bytes t.0.1 e rest one (eqb-true t.0.0 8 j.0) j.1
                    | inr j ↦ elim (chosen (t.0.0 == 9) _ _ _ j.1) [
                      | inl k ↦ variant_takes (keys_part WithFpr) t.0.0 9 Import (λ x f. spelled WithFpr (Import x) _ f.0 f.1 refl) bytes t.0.1 e rest one (eqb-true t.0.0 9 k.0) k.1
                      | inr k ↦ (let gone = k.1 in absurd cc)
                    ]
                  ]
                ]
              ]
            ]
          ]
        ]
      ]
    ]

import_again : (form : Form) (keys : List Key) (rest : List ℕ) → EditFits form (Import keys) → IsProper (Import keys) → edit_at (payload_in form (Import keys) ++ rest) ≡ Some (Import keys, rest)
unfolding payload_in
import_again WithoutFpr keys rest f p = variant_again (keys_part WithoutFpr) 1 Import keys rest (f, p) (λ bytes. refl)
import_again WithFpr keys rest f p = variant_again (keys_part WithFpr) 9 Import keys rest (f, p) (λ bytes. refl)

payload_again : (form : Form) (e : Edit) (rest : List ℕ) → EditFits form e → IsProper e → edit_at (payload_in form e ++ rest) ≡ Some (e, rest)
unfolding payload_in
payload_again form (Import keys) rest f p = import_again form keys rest f p
payload_again form (Ownertrust entries) rest f p = variant_again entries_part 2 Ownertrust entries rest (f, p) (λ bytes. refl)
payload_again form (Set fpr trust) rest f p = variant_again (both_part fpr_part trust_part) 3 set_of (fpr, trust) rest (f, tt) (λ bytes. refl)
payload_again form (Flag fpr disabled) rest f p = variant_again (both_part fpr_part flag_part) 4 flag_of (fpr, disabled) rest (f, tt) (λ bytes. refl)
payload_again form (Delete id) rest f p = variant_again number_8_part 5 Delete id rest f (λ bytes. refl)
payload_again form (Date date) rest f p = variant_again number_4_part 6 Date date rest f (λ bytes. refl)
payload_again form (SetOptions o) rest f p = variant_again range_part 7 SetOptions o rest (f, p) (λ bytes. refl)
payload_again form (Sample seed count) rest f p = variant_again (both_part number_8_part sample_count_part) 8 sample_of (seed, count) rest (f.0, (f.1, p)) (λ bytes. refl)

spelled_again : (text : List ℕ) (e : Edit) (rest : List ℕ) → IsPayload text e → edit_at (text ++ rest) ≡ Some (e, rest)
spelled_again text e rest h = ap (λ (t : List ℕ). edit_at (t ++ rest)) h.1.is ∙ payload_again h.0 e rest h.1.fits h.1.proper

pub found : (bytes : List ℕ) (e : Edit) → IsBytes bytes → edit_of bytes ≡ Some e → IsPayload bytes e
unfolding edit_of
found bytes e fits h =
    let x = bind_some (edit_at bytes) (λ (x : Edit × List ℕ). cond (length x.1 == 0) (Some x.0) None) e h in
    go x.0.0 x.0.1 (takes bytes x.0.0 x.0.1 fits x.1) (length x.0.1 == 0) refl x.2
  where
    go : (y : Edit) (rest : List ℕ) → TakenEdit bytes y rest → (b : Bool) → (length rest == 0) ≡ b → cond {A = Option Edit} b (Some y) None ≡ Some e → IsPayload bytes e
    go y rest t true is same =
        let nothing : rest ≡ [] = nil_from_length rest (eqb-true (length rest) 0 is) in
        let whole : bytes ≡ t.text = t.parts ∙ ap (λ (r : List ℕ). t.text ++ r) nothing ∙ append-nil t.text in
        let here : IsPayload bytes y = subst (λ (b : List ℕ). IsPayload b y) (sym whole) t.spells in
        subst (λ (z : Edit). IsPayload bytes z) (same_Some y e same) here
    go y rest t false is same = absurd cc

pub again : (bytes : List ℕ) (e : Edit) → IsPayload bytes e → edit_of bytes ≡ Some e
unfolding edit_of
again bytes e h =
    let read : edit_at bytes ≡ Some (e, []) = ap edit_at (sym (append-nil bytes)) ∙ spelled_again bytes e [] h in
    rw read refl

pub none : (bytes : List ℕ) → edit_of bytes ≡ None → (e : Edit) → IsPayload bytes e → ⊥
none bytes h e p = let some = again bytes e p in cc

-- no payload begins another, and each has one edit
pub one_payload : (a b r s : List ℕ) (x y : Edit) → IsPayload a x → IsPayload b y → a ++ r ≡ b ++ s → (a ≡ b) × (x ≡ y)
one_payload a b r s x y p q same =
    let e = same_Some (x, r) (y, s) (sym (spelled_again a x r p) ∙ ap edit_at same ∙ spelled_again b y s q) in
    let rests : r ≡ s = ap (λ (z : Edit × List ℕ). z.1) e in
    (append_cancel_right a b s (ap (λ (t : List ℕ). a ++ t) (sym rests) ∙ same), ap (λ (z : Edit × List ℕ). z.0) e)

-- ---- writing

room_of : (k : ℕ) (s : List ℕ) → length (number_1 k ++ s) ≤ most_record → length s < 2 ^ 32
room_of k s h = omega (arith, length-append (number_1 k) s)

pub keys_room : (keys : List Key) → length (payload (Import keys)) ≤ most_record → length (list_bytes (key_bytes WithFpr) keys) < 2 ^ 32
unfolding payload_in
keys_room keys h = room_of 9 (list_bytes (key_bytes WithFpr) keys) h

pub few_keys : (keys : List Key) → length (payload (Import keys)) ≤ most_record → length keys < 2 ^ 32
few_keys keys h = few_parts (key_bytes WithFpr) keys key_some (keys_room keys h)

pub entries_room : (entries : List Entry) → length (payload (Ownertrust entries)) ≤ most_record → length (list_bytes entry_bytes entries) < 2 ^ 32
unfolding payload_in
entries_room entries h = room_of 2 (list_bytes entry_bytes entries) h

pub few_entries : (entries : List Entry) → length (payload (Ownertrust entries)) ≤ most_record → length entries < 2 ^ 32
few_entries entries h = few_parts entry_bytes entries entry_some (entries_room entries h)
