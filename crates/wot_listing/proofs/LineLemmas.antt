-- A `pub`, after what is kept.
use Rattle.std.proofs.Common.{◌≡◌, Bool, true, false, cond, List, [], ◌∷◌, ◌++◌, Some, None, Err, refl, sym, ap, ◌∙◌}
use Rattle.std.specs.FinMap as finmap
use Rattle.wot_types.specs.declared.fault.ListingWhat.{ListingWhat}
use Rattle.wot_types.specs.declared.fault.ListingWhat.TheVariants.{NoFingerprint, RepeatedKey}
use Rattle.wot_types.specs.declared.record.RecordKind.TheVariants.{Primary}
use Rattle.wot_types.specs.Listing.{Check, Line, first_failing, pub_checks}
use Rattle.wot_types.specs.Records.{key_id_at}
use Rattle.wot_types.proofs.LineChecks.{passes_more}
use Rattle.wot_listing.specs.declared.error.LineError.{LineError}
use Rattle.wot_listing.specs.declared.primary.Primary.{Primary as PrimaryRecord}
use Rattle.wot_listing.specs.declared.so_far.SoFar.{SoFar}
use Rattle.wot_listing.specs.Answer.{Answers}
use Rattle.wot_listing.specs.Machine.{after_block, checks_in, is_unnamed, primary_of}
use Rattle.wot_listing.proofs.AnswerLemmas.{error_after, error_more}

pub passed_one : (b : Bool) (w : ListingWhat) → cond b (Some w) None ≡ None → b ≡ false
passed_one true w e = cc
passed_one false w e = refl

-- what follows the fields of a `pub`
abbrev pub key_checks : SoFar → Line → List Check
key_checks s line = (finmap.contains_key (after_block s).keys (key_id_at line), RepeatedKey) ∷ []

pub primary_fails : {X Y : Type 0} (s : SoFar) (line : Line) (e : LineError) (P : X → Type 0) (Q : Y → Type 0) → first_failing ((is_unnamed s.block, NoFingerprint) ∷ []) ≡ None
    → Answers (Err e) (first_failing (pub_checks line)) P → Answers (Err e) (first_failing (checks_in Primary s line)) Q
primary_fails s line e P Q named h =
    error_after e (is_unnamed s.block) NoFingerprint (first_failing (pub_checks line ++ key_checks s line)) Q Q (passed_one (is_unnamed s.block) NoFingerprint named)
    (error_more e (pub_checks line) (key_checks s line) P Q h)

pub repeated_key_fails : (s t : SoFar) (line : Line) (primary : PrimaryRecord) → first_failing ((is_unnamed s.block, NoFingerprint) ∷ []) ≡ None → t ≡ after_block s
    → first_failing (pub_checks line) ≡ None → primary ≡ primary_of line → finmap.contains_key t.keys primary.id ≡ true → first_failing (checks_in Primary s line) ≡ Some RepeatedKey
repeated_key_fails s t line primary named closes passes e there =
    let found : finmap.contains_key (after_block s).keys (key_id_at line) ≡ true = (λ i. finmap.contains_key (sym closes i).keys (sym e i).id) ∙ there in
    ap (λ b. cond b (Some NoFingerprint) (first_failing (pub_checks line ++ key_checks s line))) (passed_one (is_unnamed s.block) NoFingerprint named)
    ∙ passes_more (pub_checks line) (key_checks s line) passes
    ∙ ap (λ b. cond b (Some RepeatedKey) None) found
