-- What the reader is after one more line, and what it answers at the end.
use Rattle.std.proofs.Common.{◌≡◌, Bool, true, false, cond, ◌+◌, List, [], ◌∷◌, ◌++◌, Option, Some, None, Result, Ok, Err, refl, sym, ap, ◌∙◌, inl, inr}
use Rattle.std.specs.Option.{option_map_or}
use Rattle.std.specs.FinMap as finmap
use Rattle.wot_types.specs.declared.fault.ListingWhat.{ListingWhat}
use Rattle.wot_types.specs.declared.fault.ListingWhat.TheVariants.{NoFingerprint}
use Rattle.wot_types.specs.Listing.{Line, fault_at, first_failing}
use Rattle.wot_types.specs.Numbers.{capped}
use Rattle.wot_listing.specs.declared.blocks.Blocks.{Blocks}
use Rattle.wot_listing.specs.declared.error.LineError.{LineError}
use Rattle.wot_listing.specs.declared.error.LineError.TheVariants as line_error
use Rattle.wot_listing.specs.declared.error.ListingError.{ListingError}
use Rattle.wot_listing.specs.declared.error.ListingError.TheVariants.{Fault, Memory}
use Rattle.wot_listing.specs.declared.so_far.SoFar.{SoFar}
use Rattle.wot_listing.specs.Answer.{Answers}
use Rattle.wot_listing.specs.Machine.{after_block, failing_in, is_unnamed, after_line}
use Rattle.wot_listing.specs.Reading.{Finishes, HasRead, stop_of}
use Rattle.wot_listing.proofs.LineLemmas.{passed_one}
use Rattle.wot_types.specs.Accepted.{AreImportable}
use Rattle.wot_listing.proofs.SoundKeys.{listed}
use Rattle.wot_listing.proofs.Failing.{finish_fails, finish_spells, finish_stopped, reads_on, still_stopped, stops}

-- the reader, as it is seen, with what stops it and with nothing
pub stopped_view : (r : Result SoFar ListingError) (stop : Option ListingError) (s : SoFar) (e : ListingError) → option_map_or (λ e. Err e) stop (Ok s) ≡ r → stop ≡ Some e → r ≡ Err e
stopped_view r stop s e view is = sym view ∙ ap (λ o. option_map_or (λ e. Err e) o (Ok s)) is

pub open_view : (r : Result SoFar ListingError) (stop : Option ListingError) (s : SoFar) → option_map_or (λ e. Err e) stop (Ok s) ≡ r → stop ≡ None → r ≡ Ok s
open_view r stop s view is = sym view ∙ ap (λ o. option_map_or (λ e. Err e) o (Ok s)) is

-- one more line, after a fault or want of memory
pub stopped_line : (r : Result SoFar ListingError) (e : ListingError) (lines : List Line) (line : Line) → r ≡ Err e → HasRead r lines → HasRead r (lines ++ line ∷ [])
stopped_line r e lines line is (inl p) = inl (is ∙ sym (still_stopped lines line e (sym p ∙ is)))
stopped_line r e lines line is (inr m) = inr m

-- a line that is read
pub read_line : (r : Result SoFar ListingError) (s t : SoFar) (lines : List Line) (line : Line) → r ≡ Ok s → failing_in s line ≡ None → t ≡ after_line s line
    → HasRead r lines → HasRead (Ok t) (lines ++ line ∷ [])
read_line r s t lines line is none e (inl p) = inl (ap Ok e ∙ sym (reads_on lines line s (sym p ∙ is) none))
read_line r s t lines line is none e (inr m) = absurd (let f : ◌≡◌ {A = Result SoFar ListingError} (Ok s) (Err Memory) = sym is ∙ m in cc)

-- a line that stops the reader
pub stopping_line : (r : Result SoFar ListingError) (s : SoFar) (e : LineError) (P : Unit {0} → Type 0) (lines : List Line) (line : Line) → r ≡ Ok s → Answers (Err e) (failing_in s line) P
    → HasRead r lines → HasRead (Err (stop_of (capped (s.lines + 1)) e)) (lines ++ line ∷ [])
stopping_line r s (line_error.Failed what) P lines line is h (inl p) = inl (sym (stops lines line s what (sym p ∙ is) h))
stopping_line r s line_error.Memory P lines line is h (inl p) = inr refl
stopping_line r s e P lines line is h (inr m) = absurd (let f : ◌≡◌ {A = Result SoFar ListingError} (Ok s) (Err Memory) = sym is ∙ m in cc)

-- the end after a fault
pub end_stopped : (r : Result SoFar ListingError) (e : ListingError) (lines : List Line) → r ≡ Err e → HasRead r lines → Finishes lines (Err e)
end_stopped r (Fault f) lines is (inl p) = finish_stopped lines f (sym p ∙ is)
end_stopped r (Fault f) lines is (inr m) = absurd (let g : ◌≡◌ {A = Result SoFar ListingError} (Err (Fault f)) (Err Memory) = sym is ∙ m in cc)
end_stopped r Memory lines is h = tt

-- the end of a listing with no fault
pub end_spells : (r : Result SoFar ListingError) (s : SoFar) (blocks : Blocks) (lines : List Line) → r ≡ Ok s → first_failing ((is_unnamed s.block, NoFingerprint) ∷ []) ≡ None
    → blocks.keys ≡ finmap.values (after_block s).keys → blocks.kept ≡ s.kept → blocks.passed ≡ s.passed → HasRead r lines → Finishes lines (Ok blocks)
end_spells r s blocks lines is named keys kept passed (inl p) =
    let spells = finish_spells lines s (sym p ∙ is) (passed_one (is_unnamed s.block) NoFingerprint named) in
    record { faultless = spells.faultless; keys_are = keys ∙ spells.keys_are; kept_is = kept ∙ spells.kept_is; passed_is = passed ∙ spells.passed_is }
end_spells r s blocks lines is named keys kept passed (inr m) = absurd (let f : ◌≡◌ {A = Result SoFar ListingError} (Ok s) (Err Memory) = sym is ∙ m in cc)

unnamed_at : (b : Bool) (what : ListingWhat) → cond b (Some NoFingerprint) None ≡ Some what → (b ≡ true) × (NoFingerprint ≡ what)
unnamed_at true what e = (refl, cc)
unnamed_at false what e = cc

-- the end of a listing whose last block lacks its fingerprint
pub end_fails : (r : Result SoFar ListingError) (s : SoFar) (e : LineError) (P : Blocks → Type 0) (lines : List Line) → r ≡ Ok s
    → Answers (Err e) (first_failing ((is_unnamed s.block, NoFingerprint) ∷ [])) P → HasRead r lines → Finishes lines (Err (stop_of (capped (s.lines + 1)) e))
end_fails r s (line_error.Failed what) P lines is h (inl p) =
    let unnamed = unnamed_at (is_unnamed s.block) what h in
    finish_fails lines s (sym p ∙ is) unnamed.0 ∙ ap (λ w. Some (fault_at (s.lines + 1) w)) unnamed.1
end_fails r s (line_error.Failed what) P lines is h (inr m) = absurd (let f : ◌≡◌ {A = Result SoFar ListingError} (Ok s) (Err Memory) = sym is ∙ m in cc)
end_fails r s line_error.Memory P lines is h read = tt

-- the keys of a listing with no fault
pub end_keys : (r : Result SoFar ListingError) (s : SoFar) (blocks : Blocks) (lines : List Line) → r ≡ Ok s → first_failing ((is_unnamed s.block, NoFingerprint) ∷ []) ≡ None
    → blocks.keys ≡ finmap.values (after_block s).keys → blocks.kept ≡ s.kept → blocks.passed ≡ s.passed → HasRead r lines → AreImportable blocks.keys
end_keys r s blocks lines is named keys kept passed read = listed lines blocks.keys blocks.kept blocks.passed (end_spells r s blocks lines is named keys kept passed read)
