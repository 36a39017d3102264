-- A signature's record, in its block.
use Rattle.std.proofs.Common.{◌≡◌, ℕ, ◌≤◌, ◌==◌, Bool, true, false, cond, not, ◌&&◌, [], ◌∷◌, ◌++◌, Some, None, Err, is_none, refl, ap, ◌∙◌}
use Rattle.std.specs.Prelude.{nat_le, unwrap_or, if◌then◌else◌}
use Rattle.std.proofs.lemmas.Bool.{le-leb}
use Rattle.wot_types.specs.declared.cert.Cert.{Cert}
use Rattle.wot_types.specs.declared.limit.Limit.TheVariants.{Certs as CertsLimit}
use Rattle.wot_types.specs.declared.fault.ListingWhat.TheVariants.{BadHex, LimitReached, ShortRecord}
use Rattle.wot_types.specs.Fields.{field, has_fewer}
use Rattle.wot_types.specs.Listing.{Line, cert_checks, certifies, first_failing, sig_checks}
use Rattle.wot_types.specs.Limits.{most_certs}
use Rattle.wot_types.specs.Records.{class_at, class_of, is_good, is_kept_class, key_id, key_id_at}
use Rattle.wot_types.proofs.LineChecks.{passes_more}
use Rattle.wot_listing.specs.declared.error.LineError.{LineError}
use Rattle.wot_listing.specs.Answer.{Answers}
use Rattle.wot_listing.proofs.AnswerLemmas.{error_at, error_more}

-- a signature that is kept, where what comes before its values passes
module _ (id certs : ℕ) (line : Line) (class issuer : ℕ) (long : has_fewer 11 line ≡ false) (classed : class_of (field 11 line) ≡ Some class) (kept : is_kept_class class ≡ true) (issued : key_id (field 5 line) ≡ Some issuer) (other : (issuer == id) ≡ false) where
  checks_left : first_failing (sig_checks id certs line) ≡ first_failing (cert_checks line ++ (nat_le most_certs certs, LimitReached CertsLimit) ∷ [])
  checks_left =
      let counts : is_kept_class (class_at line) ≡ true = ap (λ o. is_kept_class (unwrap_or o 0)) classed ∙ kept in
      let another : (key_id_at line == id) ≡ false = ap (λ o. unwrap_or o 0 == id) issued ∙ other in
      λ i. first_failing ((long i, ShortRecord) ∷ (is_none (classed i), BadHex)
      ∷ (if counts i then (is_none (issued i), BadHex) ∷ (if another i then [] else cert_checks line ++ (nat_le most_certs certs, LimitReached CertsLimit) ∷ []) else []))

  pub values_fail : {X Y : Type 0} (e : LineError) (P : X → Type 0) (Q : Y → Type 0) → Answers (Err e) (first_failing (cert_checks line)) P → Answers (Err e) (first_failing (sig_checks id certs line)) Q
  values_fail e P Q h = error_at e _ _ Q Q checks_left (error_more e (cert_checks line) ((nat_le most_certs certs, LimitReached CertsLimit) ∷ []) P Q h)

  pub certs_full : first_failing (cert_checks line) ≡ None → most_certs ≤ certs → first_failing (sig_checks id certs line) ≡ Some (LimitReached CertsLimit)
  certs_full passes full =
      checks_left ∙ passes_more (cert_checks line) ((nat_le most_certs certs, LimitReached CertsLimit) ∷ []) passes
      ∙ ap (λ t. cond t (Some (LimitReached CertsLimit)) None) (le-leb most_certs certs full)

-- a good signature
module _ (id certs : ℕ) (line : Line) (good : is_good line ≡ true) where
  pub counts_is : certifies id line ≡ (is_kept_class (class_at line) && not (key_id_at line == id))
  counts_is = λ i. good i && is_kept_class (class_at line) && not (key_id_at line == id)

  pub checks_at : first_failing (if is_good line then sig_checks id certs line else []) ≡ first_failing (sig_checks id certs line)
  checks_at = λ i. first_failing (if good i then sig_checks id certs line else [])

-- a certification is given where the line certifies
pub chosen : (t : Bool) (x y : Cert) → Some x ≡ cond t (Some y) None → (t ≡ true) × (x ≡ y)
chosen true x y e = (refl, cc)
chosen false x y e = cc

pub not_chosen : (t : Bool) (y : Cert) → None ≡ cond t (Some y) None → t ≡ false
not_chosen true y e = cc
not_chosen false y e = refl
