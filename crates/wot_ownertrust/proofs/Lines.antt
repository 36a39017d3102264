-- The fields of a line of an ownertrust text, and what an entry of it sets.
use Rattle.std.proofs.Common.{◌≡◌, ℕ, zero, suc, ◌-◌, Bool, true, false, cond, List, [], ◌∷◌, length, Option, Some, None, Result, Ok, Err, refl, sym, ap, ◌∙◌, arith}
use Rattle.std.specs.Prelude.{◌==◌, ◌||◌, nat_lt, unwrap_or, slice_get}
use Rattle.std.proofs.lemmas.Bool.Decides.{nat_tests}
use Rattle.std.proofs.Math.Bool.{and-false}
use Rattle.wot_types.specs.declared.fault.OwnertrustFault.{OwnertrustFault}
use Rattle.wot_types.specs.declared.fault.OwnertrustFault.TheVariants.{BadShape}
use Rattle.wot_types.specs.declared.ownertrust.Entry.{Entry}
use Rattle.wot_types.specs.declared.ownertrust.Ownertrust.{Ownertrust}
use Rattle.wot_types.specs.declared.trust.Trust.{Trust}
use Rattle.wot_types.specs.declared.trust.Trust.TheVariants.{Unknown, Undefined, Never, Marginal, Full, Ultimate}
use Rattle.wot_types.specs.Fields.{fields}
use Rattle.wot_types.specs.Fingerprint.{fingerprint}
use Rattle.wot_types.specs.Lines.{is_blank, is_comment}
use Rattle.wot_types.specs.Numbers.{number}
use Rattle.wot_types.specs.Ownertrust.{is_unset, kept_of}
use Rattle.wot_types.specs.OwnertrustText.{entry_by, entry_of_fields, entry_of_line, entry_with, of_trust, ownertrust_of_number}
use Rattle.wot_types.specs.Trust.{is_unknown, trust_of_number}
use Rattle.wot_types.proofs.TrustNumbers.{no_trust, flagged}

-- the field at a place from 0; a missing one is empty
abbrev pub nth : List (List ℕ) → ℕ → List ℕ
nth fs i = unwrap_or (slice_get fs i) []

-- exactly two colons, the second at the end
pub three_fields : (fs : List (List ℕ)) → nat_lt (length fs) 3 ≡ false → nat_lt (length fs) 4 ≡ true → (length (nth fs 2) == 0) ≡ true
    → entry_of_fields fs ≡ entry_by (fingerprint (nth fs 0)) (number (nth fs 1))
three_fields [] few many last = absurd cc
three_fields (a ∷ []) few many last = absurd cc
three_fields (a ∷ b ∷ []) few many last = absurd cc
three_fields (a ∷ b ∷ [] ∷ []) few many last = refl
three_fields (a ∷ b ∷ (x ∷ c) ∷ []) few many last = (let none : (suc (length c) == 0) ≡ false = grind (arith, nat_tests) in absurd cc)
three_fields (a ∷ b ∷ c ∷ d ∷ fs) few many last = (let none : nat_lt (length (a ∷ b ∷ c ∷ d ∷ fs)) 4 ≡ false = grind (arith, nat_tests) in absurd cc)

pub too_few : (fs : List (List ℕ)) → nat_lt (length fs) 3 ≡ true → entry_of_fields fs ≡ Err BadShape
too_few [] few = refl
too_few (a ∷ []) few = refl
too_few (a ∷ b ∷ []) few = refl
too_few (a ∷ b ∷ c ∷ fs) few = (let none : nat_lt (length (a ∷ b ∷ c ∷ fs)) 3 ≡ false = grind (arith, nat_tests) in absurd cc)

pub too_many : (fs : List (List ℕ)) → nat_lt (length fs) 4 ≡ false → entry_of_fields fs ≡ Err BadShape
too_many [] many = absurd cc
too_many (a ∷ []) many = absurd cc
too_many (a ∷ b ∷ []) many = absurd cc
too_many (a ∷ b ∷ c ∷ []) many = absurd cc
too_many (a ∷ b ∷ [] ∷ d ∷ fs) many = refl
too_many (a ∷ b ∷ (x ∷ c) ∷ d ∷ fs) many = refl

pub not_at_end : (fs : List (List ℕ)) → (length (nth fs 2) == 0) ≡ false → entry_of_fields fs ≡ Err BadShape
not_at_end [] last = absurd cc
not_at_end (a ∷ []) last = absurd cc
not_at_end (a ∷ b ∷ []) last = absurd cc
not_at_end (a ∷ b ∷ [] ∷ fs) last = absurd cc
not_at_end (a ∷ b ∷ (x ∷ c) ∷ []) last = refl
not_at_end (a ∷ b ∷ (x ∷ c) ∷ d ∷ fs) last = refl

-- ---- what an entry sets

not_unknown : (n : ℕ) → (n == 0) ≡ false → trust_of_number n ≡ Some Unknown → ⊥
not_unknown zero other e = absurd cc
not_unknown (suc zero) other e = cc
not_unknown (suc (suc zero)) other e = cc
not_unknown (suc (suc (suc zero))) other e = cc
not_unknown (suc (suc (suc (suc zero)))) other e = cc
not_unknown (suc (suc (suc (suc (suc zero))))) other e = cc
not_unknown (suc (suc (suc (suc (suc (suc zero)))))) other e = cc
not_unknown (suc (suc (suc (suc (suc (suc (suc n))))))) other e = (let none = no_trust (suc (suc (suc (suc (suc (suc (suc n))))))) (omega arith) in cc)

known : (n : ℕ) (t : Trust) → (n == 0) ≡ false → trust_of_number n ≡ Some t → is_unknown t ≡ false
known n Unknown other e = absurd (not_unknown n other e)
known n Undefined other e = refl
known n Never other e = refl
known n Marginal other e = refl
known n Full other e = refl
known n Ultimate other e = refl

number_sets : (n : ℕ) (kept : Ownertrust) → (n == 0) ≡ false → ownertrust_of_number n ≡ Some kept → is_unset kept ≡ false
number_sets n kept other e = go (nat_lt n 128) e
  where
    go : (b : Bool) → cond {A = Option Ownertrust} b (of_trust false (trust_of_number n)) (of_trust true (trust_of_number (n - 128))) ≡ Some kept → is_unset kept ≡ false
    go true e = let f = flagged false (trust_of_number n) kept e in rw (known n kept.trust other f.0) refl
    go false e = let f = flagged true (trust_of_number (n - 128)) kept e in rw f.1 (and-false (is_unknown kept.trust))

by_sets : (fpr : Option (List ℕ)) (n : Option ℕ) (e : Entry) → entry_by fpr n ≡ Ok (Some e) → is_unset (kept_of e) ≡ false
by_sets None n e h = absurd cc
by_sets (Some fpr) None e h = absurd cc
by_sets (Some fpr) (Some n) e h = go (n == 0) refl h
  where
    with_sets : (o : Option Ownertrust) → ownertrust_of_number n ≡ o → (n == 0) ≡ false → entry_with fpr o ≡ Ok (Some e) → is_unset (kept_of e) ≡ false
    with_sets None is other h = absurd cc
    with_sets (Some kept) is other h =
        let same : record { fpr = fpr; trust = kept.trust; disabled = kept.disabled } ≡ e = cc in
        ap (λ (x : Entry). is_unset (kept_of x)) (sym same) ∙ number_sets n kept other is

    go : (b : Bool) → (n == 0) ≡ b → cond {A = Result (Option Entry) OwnertrustFault} b (Ok None) (entry_with fpr (ownertrust_of_number n)) ≡ Ok (Some e) → is_unset (kept_of e) ≡ false
    go true is h = absurd cc
    go false other h = with_sets (ownertrust_of_number n) refl other h

fields_set : (fs : List (List ℕ)) (e : Entry) → entry_of_fields fs ≡ Ok (Some e) → is_unset (kept_of e) ≡ false
fields_set [] e h = absurd cc
fields_set (a ∷ []) e h = absurd cc
fields_set (a ∷ b ∷ []) e h = absurd cc
fields_set (a ∷ b ∷ [] ∷ []) e h = by_sets (fingerprint a) (number b) e h
fields_set (a ∷ b ∷ [] ∷ d ∷ fs) e h = absurd cc
fields_set (a ∷ b ∷ (x ∷ c) ∷ []) e h = absurd cc
fields_set (a ∷ b ∷ (x ∷ c) ∷ d ∷ fs) e h = absurd cc

-- an entry of a line isn't unknown and not disabled
pub line_sets : (line : List ℕ) (e : Entry) → entry_of_line line ≡ Ok (Some e) → is_unset (kept_of e) ≡ false
line_sets line e h = go (is_blank line || is_comment line) h
  where
    go : (b : Bool) → cond {A = Result (Option Entry) OwnertrustFault} b (Ok None) (entry_of_fields (fields line)) ≡ Ok (Some e) → is_unset (kept_of e) ≡ false
    go true h = absurd cc
    go false h = fields_set (fields line) e h
