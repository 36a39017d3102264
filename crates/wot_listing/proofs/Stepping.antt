-- What is kept of a listing that has one more line.
use Rattle.std.proofs.Common.{◌≡◌, ℕ, Bool, true, false, cond, not, ◌+◌, ◌-◌, ◌≤◌, ◌&&◌, List, [], ◌∷◌, ◌++◌, map, length, sum_by, count_by, Option, Some, None, refl, sym, ap, ◌∙◌, subst, arith, append_assoc, zero-add, add-zero}
use Rattle.std.specs.Prelude.{option_map, option_to_list, unwrap_or}
use Rattle.std.specs.Option.{option_map_or}
use Rattle.std.specs.FinMap as finmap
use Rattle.std.proofs.lemmas.List.{map-append, append-nil, length-append}
use Rattle.std.proofs.lemmas.List.Sums.{fold_push, sum_by-append}
use Rattle.wot_types.specs.declared.record.RecordKind.{RecordKind}
use Rattle.wot_types.specs.declared.record.RecordKind.TheVariants.{Primary, Fingerprint, UserId, Signature, Subkey, Foreign, Other}
use Rattle.wot_types.specs.Listing.{Line, begins_keyblock, begins_user, cert_count, ends_keyblock, ends_user, fpr_record, is_sig, kept_count, key_of, keys_of, open_block, open_user, user_of, user_runs, with_keyblock}
use Rattle.wot_types.specs.Numbers.{capped}
use Rattle.wot_types.specs.Records as record_of
use Rattle.wot_types.specs.Records.{cert_of, fingerprint_at, is_primary, is_signature, kind_of}
use Rattle.wot_types.specs.Runs.{Run, alone}
use Rattle.wot_types.proofs.RunEnds.{block_ends, user_ends}
use Rattle.wot_types.proofs.Capped.{capped_add}
use Rattle.wot_listing.specs.declared.key_block.KeyBlock.{KeyBlock}
use Rattle.wot_listing.specs.declared.so_far.SoFar.{SoFar}
use Rattle.wot_listing.specs.EndedRuns.{ended_runs}
use Rattle.wot_listing.specs.Machine.{keyblock_of, after_kind, key_at_end, at_primary, primary_of, is_kept_in, after_line, progress_of, users_of, with_block, with_cert, with_sig}
use Rattle.wot_listing.proofs.RunsLemmas.{ended_more, longer, open_more, runs_split}
use Rattle.wot_listing.proofs.Growing.{block_fed, block_more, cert_count_more, map_cond, map_to_list, some_of_map}

-- an induction over lists that grow at their end
from_front : (P : List Line → Type 0) → ((lines : List Line) (line : Line) → P lines → P (lines ++ line ∷ []))
    → (front back : List Line) → P front → P (front ++ back)
from_front P step front [] h = subst P (sym (append-nil front)) h
from_front P step front (line ∷ back) h = subst P (append_assoc front (line ∷ []) back) (from_front P step (front ++ line ∷ []) back (step front line h))

pub by_lines : (P : List Line → Type 0) → P [] → ((lines : List Line) (line : Line) → P lines → P (lines ++ line ∷ [])) → (lines : List Line) → P lines
by_lines P none step lines = from_front P step [] lines none

fpr_is : (o : Option Line) → option_map_or fingerprint_at o [] ≡ unwrap_or (option_map fingerprint_at o) []
fpr_is None = refl
fpr_is (Some line) = refl

pub users_are : (block : Run Line) → map (user_of block) (user_runs block) ≡ users_of (keyblock_of block)
users_are block = ap (map (user_of block)) (runs_split begins_user ends_user user_ends block.rest)
    ∙ map-append (user_of block) (ended_runs begins_user ends_user block.rest) (option_to_list (open_user block))
    ∙ ap (λ l. (keyblock_of block).users ++ l) (map_to_list (user_of block) (open_user block))

-- a block's key is what is kept of the block
pub finished_is : (block : Run Line) → key_of block ≡ key_at_end (keyblock_of block)
finished_is block = λ i. record (key_at_end (keyblock_of block)) { fpr = fpr_is (fpr_record block) i; users = users_are block i }

-- the keys of ended blocks, and that of the open one
pub with_block_is : (ended : List (Run Line)) (o : Option (Run Line)) → keys_of (ended ++ option_to_list o) ≡ with_block (keys_of ended) (option_map keyblock_of o)
with_block_is ended None = ap keys_of (append-nil ended)
with_block_is ended (Some block) = fold_push with_keyblock finmap.empty ended block ∙ ap (finmap.insert (keys_of ended) (keyblock_of block).primary.id) (finished_is block)

keys_more : (lines : List Line) (line : Line)
    → keys_of (ended_runs begins_keyblock ends_keyblock (lines ++ line ∷ []))
    ≡ cond (ends_keyblock line) (with_block (keys_of (ended_runs begins_keyblock ends_keyblock lines)) (option_map keyblock_of (open_block lines))) (keys_of (ended_runs begins_keyblock ends_keyblock lines))
keys_more lines line = ap keys_of (ended_more begins_keyblock ends_keyblock block_ends lines line)
    ∙ map_cond keys_of (ends_keyblock line) _ _
    ∙ ap (λ m. cond (ends_keyblock line) m (keys_of (ended_runs begins_keyblock ends_keyblock lines))) (with_block_is (ended_runs begins_keyblock ends_keyblock lines) (open_block lines))

-- the open block after a line of this kind
abbrev block_next : RecordKind → Option KeyBlock → Line → Option KeyBlock
block_next Primary o line = Some (at_primary (primary_of line))
block_next Foreign o line = None
block_next k o line = option_map (λ b. block_fed k b line) o

grown : (line : Line) (k : RecordKind) → kind_of line ≡ k → record_of.ends_keyblock k ≡ false → (o : Option (Run Line))
    → option_map keyblock_of (option_map (longer line) o) ≡ option_map (λ b. block_fed k b line) (option_map keyblock_of o)
grown line k e h None = refl
grown line k e h (Some block) = ap Some (block_more line block k e h)

block_at : (lines : List Line) (line : Line) (k : RecordKind) → kind_of line ≡ k
    → option_map keyblock_of (open_block (lines ++ line ∷ [])) ≡ block_next k (option_map keyblock_of (open_block lines)) line
block_at lines line Primary e = ap (option_map keyblock_of) (open_more begins_keyblock ends_keyblock block_ends lines line) ∙ rw e refl
block_at lines line Foreign e = ap (option_map keyblock_of) (open_more begins_keyblock ends_keyblock block_ends lines line) ∙ rw e refl
block_at lines line Fingerprint e = ap (option_map keyblock_of) (open_more begins_keyblock ends_keyblock block_ends lines line) ∙ rw e (grown line Fingerprint e refl (open_block lines))
block_at lines line (UserId kind) e = ap (option_map keyblock_of) (open_more begins_keyblock ends_keyblock block_ends lines line) ∙ rw e (grown line (UserId kind) e refl (open_block lines))
block_at lines line Subkey e = ap (option_map keyblock_of) (open_more begins_keyblock ends_keyblock block_ends lines line) ∙ rw e (grown line Subkey e refl (open_block lines))
block_at lines line Signature e = ap (option_map keyblock_of) (open_more begins_keyblock ends_keyblock block_ends lines line) ∙ rw e (grown line Signature e refl (open_block lines))
block_at lines line Other e = ap (option_map keyblock_of) (open_more begins_keyblock ends_keyblock block_ends lines line) ∙ rw e (grown line Other e refl (open_block lines))

none_added : (n : ℕ) (a : Bool) → n + cond (a && false) 1 0 ≡ n + 0
none_added n true = refl
none_added n false = refl

block_count : (line : Line) (block : Run Line) (k : RecordKind) → kind_of line ≡ k → record_of.ends_keyblock k ≡ false
    → cert_count (longer line block) ≡ cert_count block + cond (is_signature k && is_kept_in (Some (keyblock_of block)) line) 1 0
block_count line block Primary e h = cc
block_count line block Foreign h e = cc
block_count line block Fingerprint e h = cert_count_more line block ∙ rw e (none_added _ _)
block_count line block (UserId kind) e h = cert_count_more line block ∙ rw e (omega arith)
block_count line block Subkey e h = cert_count_more line block ∙ rw e (omega arith)
block_count line block Signature e h = cert_count_more line block ∙ rw (e, some_of_map (user_of block) (open_user block)) refl
block_count line block Other e h = cert_count_more line block ∙ rw e (none_added _ _)

no_certs : (line : Line) (b : Bool) → sum_by cert_count (option_to_list (cond b (Some (alone line)) None)) ≡ 0
no_certs line true = refl
no_certs line false = refl

kept_is : (lines : List Line) → kept_count lines ≡ sum_by cert_count (ended_runs begins_keyblock ends_keyblock lines) + sum_by cert_count (option_to_list (open_block lines))
kept_is lines = ap (sum_by cert_count) (runs_split begins_keyblock ends_keyblock block_ends lines)
    ∙ sum_by-append cert_count (ended_runs begins_keyblock ends_keyblock lines) (option_to_list (open_block lines))

open_count : (line : Line) (k : RecordKind) → kind_of line ≡ k → record_of.ends_keyblock k ≡ false → (o : Option (Run Line))
    → sum_by cert_count (option_to_list (option_map (longer line) o))
    ≡ sum_by cert_count (option_to_list o) + cond (is_signature k && is_kept_in (option_map keyblock_of o) line) 1 0
open_count line k e h None = sym (none_added 0 (is_signature k))
open_count line k e h (Some block) = omega (arith, block_count line block k e h)

kept_at_end : (lines : List Line) (line : Line) → ends_keyblock line ≡ true → kept_count (lines ++ line ∷ []) ≡ kept_count lines
kept_at_end lines line h =
    let ended = ended_more begins_keyblock ends_keyblock block_ends lines line in
    let open' = open_more begins_keyblock ends_keyblock block_ends lines line in
    kept_is (lines ++ line ∷ [])
    ∙ (λ i. sum_by cert_count (ended i) + sum_by cert_count (option_to_list (open' i)))
    ∙ rw h (ap (λ n. sum_by cert_count (ended_runs begins_keyblock ends_keyblock lines ++ option_to_list (open_block lines)) + n) (no_certs line (begins_keyblock line))
    ∙ omega (arith, sum_by-append cert_count (ended_runs begins_keyblock ends_keyblock lines) (option_to_list (open_block lines)), kept_is lines))

kept_inside : (lines : List Line) (line : Line) (k : RecordKind) → kind_of line ≡ k → record_of.ends_keyblock k ≡ false
    → kept_count (lines ++ line ∷ []) ≡ kept_count lines + cond (is_signature k && is_kept_in (option_map keyblock_of (open_block lines)) line) 1 0
kept_inside lines line k e h =
    let ended = ended_more begins_keyblock ends_keyblock block_ends lines line in
    let open' = open_more begins_keyblock ends_keyblock block_ends lines line in
    let stays : ends_keyblock line ≡ false = ap record_of.ends_keyblock e ∙ h in
    kept_is (lines ++ line ∷ [])
    ∙ (λ i. sum_by cert_count (ended i) + sum_by cert_count (option_to_list (open' i)))
    ∙ rw stays (omega (arith, open_count line k e h (open_block lines), kept_is lines))

-- the kept signatures of a longer list
pub kept_more : (lines : List Line) (line : Line) (k : RecordKind) → kind_of line ≡ k
    → kept_count (lines ++ line ∷ []) ≡ kept_count lines + cond (is_signature k && is_kept_in (option_map keyblock_of (open_block lines)) line) 1 0
kept_more lines line Primary e = kept_at_end lines line (ap record_of.ends_keyblock e) ∙ omega arith
kept_more lines line Foreign e = kept_at_end lines line (ap record_of.ends_keyblock e) ∙ omega arith
kept_more lines line Fingerprint e = kept_inside lines line Fingerprint e refl
kept_more lines line (UserId kind) e = kept_inside lines line (UserId kind) e refl
kept_more lines line Subkey e = kept_inside lines line Subkey e refl
kept_more lines line Signature e = kept_inside lines line Signature e refl
kept_more lines line Other e = kept_inside lines line Other e refl

pub sigs_more : (lines : List Line) (line : Line) (k : RecordKind) → kind_of line ≡ k → count_by is_sig (lines ++ line ∷ []) ≡ count_by is_sig lines + cond (is_signature k) 1 0
sigs_more lines line k e = sum_by-append (λ l. cond (is_sig l) 1 0) lines (line ∷ []) ∙ ap (λ n. count_by is_sig lines + n) (zero-add _) ∙ ap (λ t. count_by is_sig lines + cond (is_signature t) 1 0) e

part_le : (a b : Bool) (m n : ℕ) → m ≤ n → m + cond (a && b) 1 0 ≤ n + cond a 1 0
part_le true true m n h = omega arith
part_le true false m n h = omega arith
part_le false b m n h = omega arith

kept_le_more : (lines : List Line) (line : Line) → kept_count lines ≤ count_by is_sig lines → kept_count (lines ++ line ∷ []) ≤ count_by is_sig (lines ++ line ∷ [])
kept_le_more lines line h = rw (kept_more lines line _ refl, sigs_more lines line _ refl) (part_le (is_sig line) (is_kept_in (option_map keyblock_of (open_block lines)) line) _ _ h)

pub kept_le : (lines : List Line) → kept_count lines ≤ count_by is_sig lines
kept_le = by_lines (λ lines. kept_count lines ≤ count_by is_sig lines) (omega arith) kept_le_more

stands : (n : ℕ) → capped n ≡ n → capped (n + 0) ≡ n
stands n h = ap capped (add-zero n) ∙ h

passed_add : (a b : Bool) (m n : ℕ) → m ≤ n → capped ((n + cond a 1 0) - (m + cond (a && b) 1 0)) ≡ capped (capped (n - m) + cond (a && not b) 1 0)
passed_add true true m n h = omega arith
passed_add true false m n h = omega arith
passed_add false b m n h = omega arith

-- what is kept after one more line, by the tests of its kind
abbrev next_by : RecordKind → SoFar → Line → SoFar
next_by k s line = record {
  lines = capped (s.lines + 1);
  keys = cond (record_of.ends_keyblock k) (with_block s.keys s.block) s.keys;
  block = block_next k s.block line;
  kept = capped (s.kept + cond (is_signature k && is_kept_in s.block line) 1 0);
  passed = capped (s.passed + cond (is_signature k && not (is_kept_in s.block line)) 1 0);
}

progress_by : (lines : List Line) (line : Line) (k : RecordKind) → kind_of line ≡ k → progress_of (lines ++ line ∷ []) ≡ next_by k (progress_of lines) line
unfolding progress_of
progress_by lines line k e =
    let o = option_map keyblock_of (open_block lines) in
    let count = ap capped (length-append lines (line ∷ [])) ∙ sym (capped_add (length lines) 1) in
    let keys = keys_more lines line ∙ ap (λ t. cond (record_of.ends_keyblock t) (with_block (keys_of (ended_runs begins_keyblock ends_keyblock lines)) o) (keys_of (ended_runs begins_keyblock ends_keyblock lines))) e in
    let block = block_at lines line k e in
    let kept = ap capped (kept_more lines line k e) ∙ sym (capped_add (kept_count lines) (cond (is_signature k && is_kept_in o line) 1 0)) in
    let passed = (λ i. capped (sigs_more lines line k e i - kept_more lines line k e i)) ∙ passed_add (is_signature k) (is_kept_in o line) (kept_count lines) (count_by is_sig lines) (kept_le lines) in
    λ i. record { lines = count i; keys = keys i; block = block i; kept = kept i; passed = passed i }

unchanged : {A : Type 0} (o : Option A) → option_map (λ x. x) o ≡ o
unchanged None = refl
unchanged (Some x) = refl

signed_block : (o : Option KeyBlock) (line : Line) (t : Bool) → is_kept_in o line ≡ t
    → option_map (λ b. block_fed Signature b line) o ≡ cond t (option_map (with_cert (cert_of line)) o) o
signed_block None line true h = refl
signed_block None line false h = refl
signed_block (Some b) line true h = rw h refl
signed_block (Some b) line false h = rw h refl

abbrev step_of : RecordKind → SoFar → Line → SoFar
step_of k s line = record (after_kind k s line) { lines = capped (s.lines + 1) }

signed : (s : SoFar) (line : Line) (t : Bool) → is_kept_in s.block line ≡ t → capped s.kept ≡ s.kept → capped s.passed ≡ s.passed
    → next_by Signature s line ≡ step_of Signature s line
signed s line true h p q = ap (λ o. record (next_by Signature s line) { block = o }) (signed_block s.block line true h)
    ∙ rw h (λ i. record (with_sig s line true) { lines = capped (s.lines + 1); passed = stands s.passed q i })
signed s line false h p q = ap (λ o. record (next_by Signature s line) { block = o }) (signed_block s.block line false h)
    ∙ rw h (λ i. record (with_sig s line false) { lines = capped (s.lines + 1); kept = stands s.kept p i })

next_is : (s : SoFar) (line : Line) (k : RecordKind) → capped s.kept ≡ s.kept → capped s.passed ≡ s.passed → next_by k s line ≡ step_of k s line
next_is s line Signature p q = signed s line _ refl p q
next_is s line Other p q = λ i. record s { lines = capped (s.lines + 1); block = unchanged s.block i; kept = stands s.kept p i; passed = stands s.passed q i }
next_is s line Primary p q = λ i. record (step_of Primary s line) { kept = stands s.kept p i; passed = stands s.passed q i }
next_is s line Foreign p q = λ i. record (step_of Foreign s line) { kept = stands s.kept p i; passed = stands s.passed q i }
next_is s line Fingerprint p q = λ i. record (step_of Fingerprint s line) { kept = stands s.kept p i; passed = stands s.passed q i }
next_is s line (UserId kind) p q = λ i. record (step_of (UserId kind) s line) { kept = stands s.kept p i; passed = stands s.passed q i }
next_is s line Subkey p q = λ i. record (step_of Subkey s line) { kept = stands s.kept p i; passed = stands s.passed q i }

capped_twice : (n : ℕ) → capped (capped n) ≡ capped n
capped_twice n = omega arith

-- the step is what one more line makes of what is kept
pub progress_next : (lines : List Line) (line : Line) → progress_of (lines ++ line ∷ []) ≡ after_line (progress_of lines) line
unfolding progress_of
progress_next lines line = progress_by lines line _ refl ∙ next_is (progress_of lines) line (kind_of line) (capped_twice (kept_count lines)) (capped_twice (count_by is_sig lines - kept_count lines))
