-- The values of the store as parts of a format.
use Rattle.std.proofs.Common.{◌≡◌, ℕ, zero, suc, ◌^◌, ◌<◌, ◌≤◌, Bool, true, false, cond, List, [], ◌∷◌, ◌++◌, length, Option, Some, None, refl, sym, ap, subst, ◌∙◌, append_assoc, arith}
use Rattle.std.specs.Prelude.{IfSome, nat_lt}
use Rattle.std.specs.List.{flat_map, AllByRecursion}
use Rattle.std.proofs.lemmas.List.{append-nil}
use Rattle.std.proofs.lemmas.List.Concat.{flat_map-cons}
use Rattle.std.proofs.lemmas.List.Elements.{All-from_recursion, recursion_from_All}
use Rattle.wot_types.specs.declared.cert.Cert.{Cert}
use Rattle.wot_types.specs.declared.cert.Form.{Form}
use Rattle.wot_types.specs.declared.cert.Form.TheVariants.{WithoutFpr, WithFpr}
use Rattle.wot_types.specs.declared.format.Format.{Format}
use Rattle.wot_types.specs.declared.format.Format.TheVariants.{First, Second, Third}
use Rattle.wot_types.specs.declared.user.User.{User}
use Rattle.wot_types.specs.declared.user.UserKind.{UserKind}
use Rattle.wot_types.specs.declared.user.UserKind.TheVariants.{Uid, Uat}
use Rattle.wot_types.specs.declared.key.Key.{Key}
use Rattle.wot_types.specs.declared.options.Options.{Options}
use Rattle.wot_types.specs.declared.row.Row.{Row}
use Rattle.wot_types.specs.declared.ownertrust.Entry.{Entry}
use Rattle.wot_types.specs.declared.ownertrust.Ownertrust.{Ownertrust}
use Rattle.wot_types.specs.Ownertrust.{entry_of, kept_of, ownertrust_number}
use Rattle.wot_types.specs.OwnertrustText.{of_trust, ownertrust_of_number}
use Rattle.std.proofs.lemmas.Bool.{ltb-false}
use Rattle.std.proofs.Common.{◌-◌}
use Rattle.std.proofs.lemmas.Option.{same_Some}
use Rattle.wot_types.specs.declared.trust.Trust.{Trust}
use Rattle.wot_types.specs.declared.trust.Trust.TheVariants.{Unknown, Undefined, Never, Marginal, Full, Ultimate}
use Rattle.wot_types.specs.Fingerprint.{IsFprLength}
use Rattle.wot_types.specs.Image.{RowFitsIn, row_bytes_in}
use Rattle.wot_types.specs.Trust.{trust_number, trust_of_number}
use Rattle.wot_types.specs.Spelling.{entry_bytes, EntryFits, IssuerFprFits, issuer_fpr_bytes, number_1, number_4, number_8, flag_bytes, scope_bytes, via_bytes, fpr_bytes, trust_bytes, kind_bytes, list_bytes, cert_bytes, user_bytes, key_bytes, options_bytes, CertFits, UserFits, KeyFits, ListFits, OptionsFit, row_bytes, RowFits, older_row_bytes, OlderRowFits}
use Rattle.wot_types.proofs.TrustNumbers.{no_trust, flagged}
use Rattle.wot_spelling.specs.Reading.{◌>>=◌, Read, ◌&◌, kept, made, bytes_at, number_1_at, number_4_at, number_8_at, flag_at, option_at, scope_at, via_at, is_fpr, fpr_at, or_none, coded_at, ownertrust_at, entry_at, trust_at, user_kind_at, many_at, list_at, CertParts, cert_of, issuer_fpr_at, cert_at, UserParts, user_of, user_at, KeyParts, key_of, key_at, OptionsParts, options_of, options_at, RowParts, row_of, row_at}
use Rattle.wot_spelling.proofs.Lengths.{fpr_yes, fpr_is}
use Rattle.wot_spelling.proofs.Parts.{IsBytes, Taken, IsPart, bind_some, both_part, made_part, part_of, spelled_as, bytes_take, bytes_again, number_1_part, number_4_part, number_8_part, flag_part, text_part}

-- a part that passes a test
pub kept_part : {A : Type 0} {s : A → List ℕ} {F : A → Type 0} {a : Read A} (test : A → Bool) → IsPart s F a → IsPart s (λ x. F x × (test x ≡ true)) (kept test a)
kept_part {A = A} {s = s} {F = F} {a = a} test part = record {
  takes = λ bytes x rest fits e.
      let y = bind_some (a bytes) (λ (y : A × List ℕ). cond (test y.0) (Some y) None) (x, rest) e in
      go bytes y.0 (x, rest) (part.takes bytes y.0.0 y.0.1 fits y.1) (test y.0.0) refl y.2;
  again = λ x rest fits. rw (part.again x rest fits.0, fits.1) refl;
}
  where
    go : (bytes : List ℕ) (y x : A × List ℕ) → Taken s F bytes y.0 y.1 → (b : Bool) → test y.0 ≡ b → cond {A = Option (A × List ℕ)} b (Some y) None ≡ Some x → Taken s (λ x. F x × (test x ≡ true)) bytes x.0 x.1
    go bytes y x taken true is e =
        subst (λ (q : A × List ℕ). Taken s (λ x. F x × (test x ≡ true)) bytes q.0 q.1) (same_Some y x e) (record { parts = taken.parts; rest_fits = taken.rest_fits; fits = (taken.fits, is) })
    go bytes y x taken false is e = absurd cc

-- ---- lists

many_take : {A : Type 0} (s : A → List ℕ) (F : A → Type 0) (a : Read A) → IsPart s F a → (n : ℕ) (bytes : List ℕ) (x : List A × List ℕ) → IsBytes bytes → many_at a n bytes ≡ Some x
    → Taken (flat_map s) (AllByRecursion F) bytes x.0 x.1 × (length x.0 ≡ n)
unfolding many_at
many_take {A = A} s F a part zero bytes x fits e =
    subst (λ (y : List A × List ℕ). Taken (flat_map s) (AllByRecursion F) bytes y.0 y.1 × (length y.0 ≡ 0)) (same_Some ([], bytes) x e) (record { parts = refl; rest_fits = fits; fits = tt }, refl)
many_take {A = A} s F a part (suc n) bytes x fits e =
    let p = bind_some (a bytes) (λ (p : A × List ℕ). many_at a n p.1 >>= λ q. Some (p.0 ∷ q.0, q.1)) x e in
    let q = bind_some (many_at a n p.0.1) (λ (q : List A × List ℕ). Some (p.0.0 ∷ q.0, q.1)) x p.2 in
    let one = part.takes bytes p.0.0 p.0.1 fits p.1 in
    let two = many_take s F a part n p.0.1 q.0 one.rest_fits q.1 in
    let whole : Taken (flat_map s) (AllByRecursion F) bytes (p.0.0 ∷ q.0.0) q.0.1 = record {
      parts = one.parts ∙ ap (λ (r : List ℕ). s p.0.0 ++ r) two.0.parts ∙ sym (append_assoc (s p.0.0) (flat_map s q.0.0) q.0.1) ∙ ap (λ (r : List ℕ). r ++ q.0.1) (sym (flat_map-cons s p.0.0 q.0.0));
      rest_fits = two.0.rest_fits;
      fits = (one.fits, two.0.fits);
    } in
    subst (λ (y : List A × List ℕ). Taken (flat_map s) (AllByRecursion F) bytes y.0 y.1 × (length y.0 ≡ suc n)) (same_Some (p.0.0 ∷ q.0.0, q.0.1) x q.2) (whole, ap suc two.1)

many_again : {A : Type 0} (s : A → List ℕ) (F : A → Type 0) (a : Read A) → IsPart s F a → (xs : List A) (rest : List ℕ) → AllByRecursion F xs → many_at a (length xs) (flat_map s xs ++ rest) ≡ Some (xs, rest)
unfolding many_at
many_again s F a part [] rest fits = refl
many_again s F a part (x ∷ xs) rest fits =
    let regrouped : flat_map s (x ∷ xs) ++ rest ≡ s x ++ (flat_map s xs ++ rest) = ap (λ (r : List ℕ). r ++ rest) (flat_map-cons s x xs) ∙ append_assoc (s x) (flat_map s xs) rest in
    ap (many_at a (suc (length xs))) regrouped ∙ rw (part.again x (flat_map s xs ++ rest) fits.0, many_again s F a part xs rest fits.1) refl

pub list_part : {A : Type 0} {s : A → List ℕ} {F : A → Type 0} {a : Read A} → IsPart s F a → IsPart (list_bytes s) (ListFits F) (list_at a)
unfolding list_bytes list_at
list_part {A = A} {s = s} {F = F} {a = a} part = record {
  takes = λ bytes xs rest fits e.
      let n = bind_some (number_4_at bytes) (λ (n : ℕ × List ℕ). many_at a n.0 n.1) (xs, rest) e in
      let one = number_4_part.takes bytes n.0.0 n.0.1 fits n.1 in
      let two = many_take s F a part n.0.0 n.0.1 (xs, rest) one.rest_fits n.2 in
      record {
        parts = one.parts ∙ ap (λ (r : List ℕ). number_4 n.0.0 ++ r) two.0.parts ∙ ap (λ (k : ℕ). number_4 k ++ (flat_map s xs ++ rest)) (sym two.1) ∙ sym (append_assoc (number_4 (length xs)) (flat_map s xs) rest);
        rest_fits = two.0.rest_fits;
        fits = (omega (arith, one.fits, two.1), All-from_recursion F xs two.0.fits);
      };
  again = λ xs rest fits.
      ap (list_at a) (append_assoc (number_4 (length xs)) (flat_map s xs) rest)
      ∙ rw (number_4_part.again (length xs) (flat_map s xs ++ rest) fits.0, many_again s F a part xs rest (recursion_from_All F xs fits.1)) refl;
}

-- ---- scopes, fingerprints, trust values, kinds of user IDs

-- a part behind a flag
module _ {A : Type 0} {s : A → List ℕ} {F : A → Type 0} {a : Read A} (f : Option A → List ℕ) (none : f None ≡ flag_bytes false) (some : (x : A) → f (Some x) ≡ flag_bytes true ++ s x) (part : IsPart s F a) where
  abbrev flagged_at : Read (Option A)
  flagged_at bytes = flag_at bytes >>= λ g. option_at a g.0 g.1

  abbrev Has : Option A → Type 0
  Has o = IfSome o F

  after : (bytes : List ℕ) (b : Bool) (mid : List ℕ) (o : Option A) (rest : List ℕ) → Taken flag_bytes (λ b. Unit {0}) bytes b mid → option_at a b mid ≡ Some (o, rest) → Taken f Has bytes o rest
  after bytes false mid o rest one e =
      subst (λ (q : Option A × List ℕ). Taken f Has bytes q.0 q.1) (same_Some (None, mid) (o, rest) e) (record {
        parts = one.parts ∙ ap (λ (r : List ℕ). r ++ mid) (sym none);
        rest_fits = one.rest_fits;
        fits = tt;
      })
  after bytes true mid o rest one e =
      let t = bind_some (a mid) (λ (t : A × List ℕ). Some (Some t.0, t.1)) (o, rest) e in
      let two = part.takes mid t.0.0 t.0.1 one.rest_fits t.1 in
      let whole : Taken f Has bytes (Some t.0.0) t.0.1 = record {
        parts = one.parts ∙ ap (λ (r : List ℕ). flag_bytes true ++ r) two.parts ∙ sym (append_assoc (flag_bytes true) (s t.0.0) t.0.1) ∙ ap (λ (r : List ℕ). r ++ t.0.1) (sym (some t.0.0));
        rest_fits = two.rest_fits;
        fits = two.fits;
      } in
      subst (λ (q : Option A × List ℕ). Taken f Has bytes q.0 q.1) (same_Some (Some t.0.0, t.0.1) (o, rest) t.2) whole

  takes : (bytes : List ℕ) (o : Option A) (rest : List ℕ) → IsBytes bytes → flagged_at bytes ≡ Some (o, rest) → Taken f Has bytes o rest
  takes bytes o rest fits e =
      let g = bind_some (flag_at bytes) (λ (g : Bool × List ℕ). option_at a g.0 g.1) (o, rest) e in
      after bytes g.0.0 g.0.1 o rest (flag_part.takes bytes g.0.0 g.0.1 fits g.1) g.2

  again : (o : Option A) (rest : List ℕ) → Has o → flagged_at (f o ++ rest) ≡ Some (o, rest)
  again None rest fits = ap (λ (r : List ℕ). flagged_at (r ++ rest)) none ∙ rw (flag_part.again false rest tt) refl
  again (Some x) rest fits =
      ap (λ (r : List ℕ). flagged_at (r ++ rest)) (some x) ∙ ap flagged_at (append_assoc (flag_bytes true) (s x) rest)
      ∙ rw (flag_part.again true (s x ++ rest) tt, part.again x rest fits) refl

  pub flagged_part : IsPart f Has flagged_at
  flagged_part = record { takes = takes; again = again }

pub scope_part : IsPart scope_bytes (λ o. IfSome o (λ t. length t < 2 ^ 32)) scope_at
unfolding scope_bytes scope_at
scope_part = flagged_part scope_bytes refl (λ _. refl) text_part

delegator_part : (rules : ℕ) → IsPart via_bytes (λ o. IfSome o (λ id. id < 2 ^ 64)) (via_at (Third rules))
unfolding via_bytes via_at
delegator_part rules = flagged_part via_bytes refl (λ _. refl) number_8_part

-- a part of which nothing is written
abbrev absent_at : {A : Type 0} → Read (Option A)
absent_at bytes = Some (None, bytes)

absent_part : {A : Type 0} → IsPart {A = Option A} (λ o. []) (λ o. o ≡ None) absent_at
absent_part {A = A} = record {
  takes = λ bytes o rest fits e.
      subst (λ (q : Option A × List ℕ). Taken {A = Option A} (λ o. []) (λ o. o ≡ None) bytes q.0 q.1) (same_Some (None, bytes) (o, rest) e) (record { parts = refl; rest_fits = fits; fits = refl });
  again = λ o rest fits. rw fits refl;
}

pub fpr_part : IsPart fpr_bytes IsFprLength fpr_at
unfolding fpr_bytes fpr_at number_1_at
fpr_part = record { takes = takes; again = again }
  where
    go : (n : ℕ) (mid : List ℕ) (f y : List ℕ) (rest after : List ℕ) → IsBytes mid → (mid ≡ y ++ after) × IsBytes after × IsBytes y × (length y ≡ n) → (b : Bool) → is_fpr y ≡ b
        → cond {A = Option (List ℕ × List ℕ)} b (Some (y, after)) None ≡ Some (f, rest) → Taken fpr_bytes IsFprLength (n ∷ mid) f rest
    go n mid f y rest after fits t true is e =
        let whole : Taken fpr_bytes IsFprLength (n ∷ mid) y after = record { parts = ap (λ (k : ℕ). k ∷ mid) (sym t.3) ∙ ap (λ (r : List ℕ). length y ∷ r) t.0; rest_fits = t.1; fits = fpr_is y is } in
        subst (λ (q : List ℕ × List ℕ). Taken fpr_bytes IsFprLength (n ∷ mid) q.0 q.1) (same_Some (y, after) (f, rest) e) whole
    go n mid f y rest after fits t false is e = absurd cc

    takes : (bytes : List ℕ) (f : List ℕ) (rest : List ℕ) → IsBytes bytes → fpr_at bytes ≡ Some (f, rest) → Taken fpr_bytes IsFprLength bytes f rest
    takes [] f rest fits e = absurd cc
    takes (n ∷ mid) f rest fits e =
        let y = bind_some (bytes_at n mid) (λ (y : List ℕ × List ℕ). cond (is_fpr y.0) (Some y) None) (f, rest) e in
        let mid_fits : IsBytes mid = λ i. fits (suc i) in
        go n mid f y.0.0 rest y.0.1 mid_fits (bytes_take n mid y.0.0 y.0.1 mid_fits y.1) (is_fpr y.0.0) refl y.2

    again : (f : List ℕ) (rest : List ℕ) → IsFprLength f → fpr_at (fpr_bytes f ++ rest) ≡ Some (f, rest)
    again f rest fits = rw (bytes_again (length f) f rest refl, fpr_yes f fits) refl

-- a value that one byte stands for
pub coded_part : {A : Type 0} (code : A → ℕ) (of : ℕ → Option A) → ((n : ℕ) (x : A) → of n ≡ Some x → n ≡ code x) → ((x : A) → of (code x) ≡ Some x) → IsPart {A = A} (λ x. number_1 (code x)) (λ x. Unit {0}) (coded_at of)
coded_part {A = A} code of back there = record {
  takes = λ bytes x rest fits e.
      let n = bind_some (number_1_at bytes) (λ (n : ℕ × List ℕ). or_none (of n.0) n.1) (x, rest) e in
      let one = number_1_part.takes bytes n.0.0 n.0.1 fits n.1 in
      go bytes x rest n.0.0 n.0.1 one (of n.0.0) refl n.2;
  again = λ x rest fits. rw (number_1_part.again (code x) rest tt, there x) refl;
}
  where
    go : (bytes : List ℕ) (x : A) (rest : List ℕ) (n : ℕ) (mid : List ℕ) → Taken number_1 (λ n. Unit {0}) bytes n mid → (o : Option A) → of n ≡ o → or_none o mid ≡ Some (x, rest) → Taken (λ y. number_1 (code y)) (λ y. Unit {0}) bytes x rest
    go bytes x rest n mid one None is e = absurd cc
    go bytes x rest n mid one (Some y) is e =
        let whole : Taken (λ y. number_1 (code y)) (λ y. Unit {0}) bytes y mid = record { parts = one.parts ∙ ap (λ (k : ℕ). number_1 k ++ mid) (back n y is); rest_fits = one.rest_fits; fits = tt } in
        subst (λ (q : A × List ℕ). Taken (λ y. number_1 (code y)) (λ y. Unit {0}) bytes q.0 q.1) (same_Some (y, mid) (x, rest) e) whole

trust_is : (n : ℕ) (t : Trust) → trust_of_number n ≡ Some t → n ≡ trust_number t
trust_is zero t e = ap trust_number (same_Some Unknown t e)
trust_is (suc zero) t e = absurd cc
trust_is (suc (suc zero)) t e = ap trust_number (same_Some Undefined t e)
trust_is (suc (suc (suc zero))) t e = ap trust_number (same_Some Never t e)
trust_is (suc (suc (suc (suc zero)))) t e = ap trust_number (same_Some Marginal t e)
trust_is (suc (suc (suc (suc (suc zero))))) t e = ap trust_number (same_Some Full t e)
trust_is (suc (suc (suc (suc (suc (suc zero)))))) t e = ap trust_number (same_Some Ultimate t e)
trust_is (suc (suc (suc (suc (suc (suc (suc n))))))) t e = (let none = no_trust (suc (suc (suc (suc (suc (suc (suc n))))))) (omega arith) in absurd cc)

trust_there : (t : Trust) → trust_of_number (trust_number t) ≡ Some t
trust_there Unknown = refl
trust_there Undefined = refl
trust_there Never = refl
trust_there Marginal = refl
trust_there Full = refl
trust_there Ultimate = refl

pub trust_part : IsPart trust_bytes (λ t. Unit {0}) trust_at
unfolding trust_bytes trust_at number_1
trust_part = coded_part trust_number trust_of_number trust_is trust_there

ownertrust_is : (n : ℕ) (v : Ownertrust) → ownertrust_of_number n ≡ Some v → n ≡ ownertrust_number v
ownertrust_is n v e = go (nat_lt n 128) refl e
  where
    go : (b : Bool) → nat_lt n 128 ≡ b → cond {A = Option Ownertrust} b (of_trust false (trust_of_number n)) (of_trust true (trust_of_number (n - 128))) ≡ Some v → n ≡ ownertrust_number v
    go true is e =
        let f = flagged false (trust_of_number n) v e in
        let t = trust_is n v.trust f.0 in
        rw f.1 t
    go false is e =
        let f = flagged true (trust_of_number (n - 128)) v e in
        let t = trust_is (n - 128) v.trust f.0 in
        let most : 128 ≤ n = ltb-false n 128 is in
        rw f.1 (omega arith)

ownertrust_there : (v : Ownertrust) → ownertrust_of_number (ownertrust_number v) ≡ Some v
ownertrust_there v = go v.trust v.disabled
  where
    go : (t : Trust) (b : Bool) → ownertrust_of_number (ownertrust_number (record { trust = t; disabled = b })) ≡ Some (record { trust = t; disabled = b })
    go Unknown false = refl
    go Undefined false = refl
    go Never false = refl
    go Marginal false = refl
    go Full false = refl
    go Ultimate false = refl
    go Unknown true = refl
    go Undefined true = refl
    go Never true = refl
    go Marginal true = refl
    go Full true = refl
    go Ultimate true = refl

pub ownertrust_part : IsPart {A = Ownertrust} (λ v. number_1 (ownertrust_number v)) (λ v. Unit {0}) ownertrust_at
unfolding ownertrust_at
ownertrust_part = coded_part ownertrust_number ownertrust_of_number ownertrust_is ownertrust_there

entry_parts : Entry → List ℕ × Ownertrust
entry_parts e = (e.fpr, kept_of e)

pub entry_part : IsPart entry_bytes EntryFits entry_at
unfolding entry_bytes entry_at entry_parts
entry_part = part_of (λ e f. record { fpr = f.0 }) (λ e f. (f.fpr, tt)) (made_part entry_of entry_parts (λ p. refl) (λ e. refl) (both_part fpr_part ownertrust_part))

flag_of_kind : UserKind → Bool
unfolding kind_bytes
flag_of_kind Uid = false
flag_of_kind Uat = true

pub user_kind_part : IsPart kind_bytes (λ k. Unit {0}) user_kind_at
unfolding kind_bytes user_kind_at flag_bytes flag_at
user_kind_part = record { takes = takes; again = again }
  where
    takes : (bytes : List ℕ) (k : UserKind) (rest : List ℕ) → IsBytes bytes → user_kind_at bytes ≡ Some (k, rest) → Taken kind_bytes (λ k. Unit {0}) bytes k rest
    takes [] k rest fits e = absurd cc
    takes (zero ∷ bytes) k rest fits e = subst (λ (q : UserKind × List ℕ). Taken kind_bytes (λ k. Unit {0}) (0 ∷ bytes) q.0 q.1) (same_Some (Uid, bytes) (k, rest) e) (record { parts = refl; rest_fits = λ i. fits (suc i); fits = tt })
    takes (suc zero ∷ bytes) k rest fits e = subst (λ (q : UserKind × List ℕ). Taken kind_bytes (λ k. Unit {0}) (1 ∷ bytes) q.0 q.1) (same_Some (Uat, bytes) (k, rest) e) (record { parts = refl; rest_fits = λ i. fits (suc i); fits = tt })
    takes (suc (suc n) ∷ bytes) k rest fits e = absurd cc

    again : (k : UserKind) (rest : List ℕ) → Unit {0} → user_kind_at (kind_bytes k ++ rest) ≡ Some (k, rest)
    again Uid rest fits = refl
    again Uat rest fits = refl

-- ---- certifications, user IDs, keys and options

cert_parts : Cert → CertParts
cert_parts c = (c.issuer, (c.class, (c.local, (c.made, (c.expires, (c.depth, (c.amount, (c.scope, c.issuer_fpr))))))))

-- a fingerprint that may be named
named_part : IsPart (issuer_fpr_bytes WithFpr) (λ named. IfSome named IsFprLength) (issuer_fpr_at WithFpr)
unfolding issuer_fpr_bytes issuer_fpr_at
named_part = flagged_part (issuer_fpr_bytes WithFpr) refl (λ _. refl) fpr_part

-- the first form names none, and takes no bytes for it
unnamed_part : IsPart (issuer_fpr_bytes WithoutFpr) (λ named. named ≡ None) (issuer_fpr_at WithoutFpr)
unfolding issuer_fpr_bytes issuer_fpr_at
unnamed_part = absent_part

issuer_fpr_part : (form : Form) → IsPart (issuer_fpr_bytes form) (IssuerFprFits form) (issuer_fpr_at form)
issuer_fpr_part WithoutFpr = unnamed_part
issuer_fpr_part WithFpr = named_part

pub cert_part : (form : Form) → IsPart (cert_bytes form) (CertFits form) (cert_at form)
unfolding cert_bytes cert_at cert_parts
cert_part form =
    part_of (λ c f. record { issuer = f.0; made = f.1.1.1.0; expires = f.1.1.1.1.0; scope = f.1.1.1.1.1.1.1.0; issuer_fpr = f.1.1.1.1.1.1.1.1 })
    (λ c f. (f.issuer, (tt, (tt, (f.made, (f.expires, (tt, (tt, (f.scope, f.issuer_fpr)))))))))
    (made_part cert_of cert_parts (λ p. refl) (λ c. refl)
    (both_part number_8_part (both_part number_1_part (both_part flag_part (both_part number_4_part (both_part number_4_part (both_part number_1_part (both_part number_1_part (both_part scope_part (issuer_fpr_part form))))))))))

user_parts : User → UserParts
user_parts u = (u.kind, (u.text, (u.hash, (u.made, (u.expires, (u.revoked, u.certs))))))

pub user_part : (form : Form) → IsPart (user_bytes form) (UserFits form) (user_at form)
unfolding user_bytes user_at user_parts
user_part form =
    part_of (λ u f. record { text = f.1.0; hash = f.1.1.0; made = f.1.1.1.0; expires = f.1.1.1.1.0; certs = f.1.1.1.1.1.1 }) (λ u f. (tt, (f.text, (f.hash, (f.made, (f.expires, (tt, f.certs)))))))
    (made_part user_of user_parts (λ p. refl) (λ u. refl)
    (both_part user_kind_part (both_part text_part (both_part text_part (both_part number_4_part (both_part number_4_part (both_part flag_part (list_part (cert_part form)))))))))

key_parts : Key → KeyParts
key_parts k = (k.fpr, (k.bits, (k.algo, (k.made, (k.expires, (k.revoked, (k.caps, k.users)))))))

pub key_part : (form : Form) → IsPart (key_bytes form) (KeyFits form) (key_at form)
unfolding key_bytes key_at key_parts
key_part form =
    part_of (λ k f. record { fpr = f.0; bits = f.1.0; algo = f.1.1.0; made = f.1.1.1.0; expires = f.1.1.1.1.0; caps = f.1.1.1.1.1.1.0; users = f.1.1.1.1.1.1.1 })
    (λ k f. (f.fpr, (f.bits, (f.algo, (f.made, (f.expires, (tt, (f.caps, f.users))))))))
    (made_part key_of key_parts (λ p. refl) (λ k. refl)
    (both_part fpr_part (both_part number_4_part (both_part number_4_part (both_part number_4_part (both_part number_4_part (both_part flag_part (both_part text_part (list_part (user_part form))))))))))

options_parts : Options → OptionsParts
options_parts o = (o.pgp, (o.completes, (o.marginals, (o.depth, o.level))))

pub options_part : IsPart options_bytes OptionsFit options_at
unfolding options_bytes options_at options_parts
options_part =
    part_of (λ o f. record { completes = f.1.0; marginals = f.1.1.0 }) (λ o f. (tt, (f.completes, (f.marginals, (tt, tt)))))
    (made_part options_of options_parts (λ p. refl) (λ o. refl)
    (both_part flag_part (both_part number_4_part (both_part number_4_part (both_part number_1_part number_1_part)))))

row_parts : Row → RowParts
row_parts r = (r.key, (r.level, (r.trust, (r.left, (r.scope, r.via)))))

newer_row_part : (rules : ℕ) → IsPart row_bytes RowFits (row_at (Third rules))
unfolding row_bytes row_at row_parts
newer_row_part rules =
    part_of (λ r f. record { key = f.0; scope = f.1.1.1.1.0; via = f.1.1.1.1.1 }) (λ r f. (f.key, (tt, (tt, (tt, (f.scope, f.via))))))
    (made_part row_of row_parts (λ p. refl) (λ r. refl)
    (both_part number_8_part (both_part number_1_part (both_part trust_part (both_part number_1_part (both_part scope_part (delegator_part rules)))))))

-- rows of the formats that don't tell who delegated
older_row_part : IsPart older_row_bytes OlderRowFits (made row_of (number_8_at & number_1_at & trust_at & number_1_at & scope_at & absent_at))
unfolding older_row_bytes row_parts
older_row_part =
    spelled_as (λ r. ap (λ (b : List ℕ). number_8 r.key ++ (number_1 r.level ++ (trust_bytes r.trust ++ (number_1 r.left ++ b)))) (append-nil (scope_bytes r.scope)))
    (part_of (λ r f. record { key = f.0; scope = f.1.1.1.1.0; via = f.1.1.1.1.1 }) (λ r f. (f.key, (tt, (tt, (tt, (f.scope, f.via))))))
    (made_part row_of row_parts (λ p. refl) (λ r. refl)
    (both_part number_8_part (both_part number_1_part (both_part trust_part (both_part number_1_part (both_part scope_part absent_part)))))))

pub row_part : (format : Format) → IsPart (row_bytes_in format) (RowFitsIn format) (row_at format)
unfolding row_at via_at
row_part First = older_row_part
row_part Second = older_row_part
row_part (Third rules) = newer_row_part rules
