-- The first fault of a list of lines that grows at its end.
use Rattle.std.proofs.Common.{◌≡◌, true, false, cond, ◌+◌, ◌-◌, count_by, List, [], ◌∷◌, ◌++◌, length, Option, Some, None, Ok, Err, refl, sym, ap, ◌∙◌, append_assoc}
use Rattle.std.specs.Prelude.{option_map}
use Rattle.std.specs.Option.{option_or}
use Rattle.std.specs.FinMap as finmap
use Rattle.std.proofs.lemmas.List.{append-nil}
use Rattle.wot_types.specs.declared.fault.ListingFault.{ListingFault}
use Rattle.wot_types.specs.declared.fault.ListingWhat.{ListingWhat}
use Rattle.wot_types.specs.declared.fault.ListingWhat.TheVariants.{NoFingerprint}
use Rattle.wot_types.specs.Listing.{Line, Spells, failed_check, fault, fault_after, fault_at, fault_at_end, is_sig, kept_count, lacks_fingerprint, open_block}
use Rattle.wot_types.specs.Numbers.{capped}
use Rattle.wot_types.proofs.Optionals.{or_none, or_assoc}
use Rattle.wot_types.proofs.Capped.{capped_add}
use Rattle.wot_listing.specs.declared.error.ListingError.{ListingError}
use Rattle.wot_listing.specs.declared.error.ListingError.TheVariants.{Fault}
use Rattle.wot_listing.specs.declared.so_far.SoFar.{SoFar}
use Rattle.wot_listing.specs.Machine.{after_block, failing_in, is_unnamed, after_line, progress_of}
use Rattle.wot_listing.specs.Reading.{reading_of, unless_fault}
use Rattle.wot_listing.proofs.Checking.{all_keys_are, failing_is, unnamed_is}
use Rattle.wot_listing.proofs.Stepping.{progress_next}

-- the fault of a line after these
abbrev fault_of : List Line → Line → Option ListingFault
fault_of lines line = option_map (fault_at (length lines + 1)) (failed_check lines line)

fault_after_more : (before lines : List Line) (line : Line)
    → fault_after before (lines ++ line ∷ []) ≡ option_or (fault_after before lines) (fault_of (before ++ lines) line)
fault_after_more before [] line = or_none (fault_of before line) ∙ ap (λ l. fault_of l line) (sym (append-nil before))
fault_after_more before (first ∷ lines) line =
    ap (option_or (fault_of before first)) (fault_after_more (before ++ first ∷ []) lines line)
    ∙ or_assoc (fault_of before first) (fault_after (before ++ first ∷ []) lines) (fault_of ((before ++ first ∷ []) ++ lines) line)
    ∙ ap (λ l. option_or (fault_after before (first ∷ lines)) (fault_of l line)) (append_assoc before (first ∷ []) lines)

-- one more line adds its fault, where no line before has one
pub fault_more : (lines : List Line) (line : Line) → fault (lines ++ line ∷ []) ≡ option_or (fault lines) (fault_of lines line)
fault_more lines line = fault_after_more [] lines line

line_number : (lines : List Line) → capped (length lines + 1) ≡ capped ((progress_of lines).lines + 1)
unfolding progress_of
line_number lines = sym (capped_add (length lines) 1)

-- a reader that has read these lines without a fault
pub record Reads (lines : List Line) (s : SoFar) : Type 0 where
  pub faultless : fault lines ≡ None
  pub kept : progress_of lines ≡ s

reads_at : (f : Option ListingFault) (lines : List Line) (s : SoFar) → fault lines ≡ f → unless_fault f (progress_of lines) ≡ Ok s → Reads lines s
reads_at None lines s p e = record { faultless = p; kept = cc }
reads_at (Some f) lines s p e = cc

pub reads_of : (lines : List Line) (s : SoFar) → reading_of lines ≡ Ok s → Reads lines s
unfolding reading_of
reads_of lines s e = reads_at (fault lines) lines s refl e

stopped_at : (o : Option ListingFault) (lines : List Line) (e : ListingError) → fault lines ≡ o → unless_fault o (progress_of lines) ≡ Err e
    → (f : ListingFault) × (fault lines ≡ Some f) × (e ≡ Fault f)
stopped_at None lines e p h = cc
stopped_at (Some f) lines e p h = (f, p, cc)

-- a reader that has stopped stands at the first fault
pub stopped_of : (lines : List Line) (e : ListingError) → reading_of lines ≡ Err e → (f : ListingFault) × (fault lines ≡ Some f) × (e ≡ Fault f)
unfolding reading_of
stopped_of lines e h = stopped_at (fault lines) lines e refl h

failing_at : (lines : List Line) (line : Line) (s : SoFar) → Reads lines s → failed_check lines line ≡ failing_in s line
failing_at lines line s r = failing_is lines line ∙ ap (λ t. failing_in t line) r.kept

fault_number : (lines : List Line) (s : SoFar) (what : ListingWhat) → Reads lines s → fault_at (length lines + 1) what ≡ fault_at (s.lines + 1) what
fault_number lines s what r = let n = line_number lines ∙ ap (λ (t : SoFar). capped (t.lines + 1)) r.kept in λ i. record { line = n i; what = what }

-- after a fault further lines change nothing
pub still_stopped : (lines : List Line) (line : Line) (e : ListingError) → reading_of lines ≡ Err e → reading_of (lines ++ line ∷ []) ≡ Err e
unfolding reading_of
still_stopped lines line e h =
    let stopped = stopped_of lines e h in
    let same = fault_more lines line ∙ ap (λ o. option_or o (fault_of lines line)) stopped.1 in
    ap (λ o. unless_fault o (progress_of (lines ++ line ∷ []))) same ∙ ap Err (sym stopped.2)

-- a line with no fault is read
pub reads_on : (lines : List Line) (line : Line) (s : SoFar) → reading_of lines ≡ Ok s → failing_in s line ≡ None → reading_of (lines ++ line ∷ []) ≡ Ok (after_line s line)
unfolding reading_of
reads_on lines line s h none =
    let r = reads_of lines s h in
    let faultless = fault_more lines line ∙ ap (λ o. option_or o (fault_of lines line)) r.faultless ∙ ap (option_map (fault_at (length lines + 1))) (failing_at lines line s r ∙ none) in
    ap (λ o. unless_fault o (progress_of (lines ++ line ∷ []))) faultless ∙ ap Ok (progress_next lines line ∙ ap (λ t. after_line t line) r.kept)

-- a line's fault stops the reader
pub stops : (lines : List Line) (line : Line) (s : SoFar) (what : ListingWhat) → reading_of lines ≡ Ok s → failing_in s line ≡ Some what
    → reading_of (lines ++ line ∷ []) ≡ Err (Fault (fault_at (s.lines + 1) what))
unfolding reading_of
stops lines line s what h fails =
    let r = reads_of lines s h in
    let faulty = fault_more lines line ∙ ap (λ o. option_or o (fault_of lines line)) r.faultless ∙ ap (option_map (fault_at (length lines + 1))) (failing_at lines line s r ∙ fails) in
    ap (λ o. unless_fault o (progress_of (lines ++ line ∷ []))) faulty ∙ ap (λ f. Err (Fault f)) (fault_number lines s what r)

at_end : (lines : List Line) (s : SoFar) → Reads lines s → fault_at_end lines ≡ cond (is_unnamed s.block) (Some (fault_at (length lines + 1) NoFingerprint)) None
at_end lines s r = ap (λ o. option_or o (cond (lacks_fingerprint (open_block lines)) (Some (fault_at (length lines + 1) NoFingerprint)) None)) r.faultless
    ∙ ap (λ b. cond b (Some (fault_at (length lines + 1) NoFingerprint)) None) (unnamed_is lines ∙ ap (λ (t : SoFar). is_unnamed t.block) r.kept)

-- at the end the last block may lack its fingerprint
pub finish_fails : (lines : List Line) (s : SoFar) → reading_of lines ≡ Ok s → is_unnamed s.block ≡ true → fault_at_end lines ≡ Some (fault_at (s.lines + 1) NoFingerprint)
finish_fails lines s h unnamed =
    let r = reads_of lines s h in
    at_end lines s r ∙ ap (λ b. cond b (Some (fault_at (length lines + 1) NoFingerprint)) None) unnamed ∙ ap Some (fault_number lines s NoFingerprint r)

kept_is : (lines : List Line) → (progress_of lines).kept ≡ capped (kept_count lines)
unfolding progress_of
kept_is lines = refl

passed_is : (lines : List Line) → (progress_of lines).passed ≡ capped (count_by is_sig lines - kept_count lines)
unfolding progress_of
passed_is lines = refl

-- and else the lines spell the keys of their blocks
pub finish_spells : (lines : List Line) (s : SoFar) → reading_of lines ≡ Ok s → is_unnamed s.block ≡ false → Spells lines (finmap.values (after_block s).keys) s.kept s.passed
finish_spells lines s h named =
    let r = reads_of lines s h in record {
      faultless = at_end lines s r ∙ ap (λ b. cond b (Some (fault_at (length lines + 1) NoFingerprint)) None) named;
      keys_are = ap finmap.values (sym (all_keys_are lines ∙ ap (λ (t : SoFar). (after_block t).keys) r.kept));
      kept_is = ap (λ (t : SoFar). t.kept) (sym r.kept) ∙ kept_is lines;
      passed_is = ap (λ (t : SoFar). t.passed) (sym r.kept) ∙ passed_is lines;
    }

-- a reader that has stopped answers the first fault
pub finish_stopped : (lines : List Line) (f : ListingFault) → reading_of lines ≡ Err (Fault f) → fault_at_end lines ≡ Some f
finish_stopped lines f h =
    let stopped = stopped_of lines (Fault f) h in
    ap (λ o. option_or o (cond (lacks_fingerprint (open_block lines)) (Some (fault_at (length lines + 1) NoFingerprint)) None)) stopped.1 ∙ cc

pub reading_none : (s : SoFar) → progress_of [] ≡ s → reading_of [] ≡ Ok s
unfolding reading_of
reading_none s e = ap Ok e
