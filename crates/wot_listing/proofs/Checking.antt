-- A line's checks, asked of what is kept, are those asked of the lines before it.
use Rattle.std.proofs.Common.{◌≡◌, ℕ, Bool, true, false, cond, not, ◌||◌, ◌&&◌, List, [], ◌∷◌, ◌++◌, map, fold, length, Option, Some, None, is_some, refl, sym, ap, ◌∙◌}
use Rattle.std.specs.Prelude.{◌==◌, nat_le, option_map, if◌then◌else◌}
use Rattle.std.specs.List.{list_any}
use Rattle.std.specs.Cmp.{unsigned_tied}
use Rattle.std.specs.FinMap as finmap
use Rattle.std.specs.Ordering.{eq_by_cmp, nat_cmp}
use Rattle.std.proofs.lemmas.Cmp.{nat_cmp_total}
use Rattle.std.proofs.lemmas.List.{length-map}
use Rattle.std.proofs.Math.Bool.{or-false}
use Rattle.wot_types.specs.declared.key.Key.{Key}
use Rattle.wot_types.specs.declared.user.UserKind.{UserKind}
use Rattle.wot_types.specs.declared.limit.Limit.TheVariants.{Users as UsersLimit}
use Rattle.wot_types.specs.declared.fault.ListingWhat.TheVariants.{LimitReached, NoFingerprint, RepeatedKey, RepeatedUser}
use Rattle.wot_types.specs.declared.record.RecordKind.{RecordKind}
use Rattle.wot_types.specs.declared.record.RecordKind.TheVariants.{Primary, Fingerprint, UserId, Signature, Subkey, Foreign, Other}
use Rattle.wot_types.specs.Keyring.{Keyring}
use Rattle.wot_types.specs.Listing.{Line, begins_keyblock, block_id, blocks, cert_count, checks_of, ends_keyblock, failed_check, first_failing, fpr_checks, fpr_record, in_block, is_repeated_key, is_repeated_user, is_same_user, keys_of, lacks_fingerprint, open_block, open_user, pub_checks, sig_checks, user_at, user_checks, user_kind, user_of, user_runs, wants_fpr, with_keyblock}
use Rattle.wot_types.specs.Limits.{most_users}
use Rattle.wot_types.specs.Records.{fingerprint_at, is_good, is_revoked_at, key_id_at, kind_of}
use Rattle.wot_types.specs.Runs.{Run, alone}
use Rattle.wot_types.proofs.RunEnds.{block_ends}
use Rattle.wot_listing.specs.EndedRuns.{ended_runs}
use Rattle.wot_listing.specs.Machine.{keyblock_of, checks_in, failing_in, in_open, is_unnamed, repeats_user, progress_of, users_of, with_block}
use Rattle.wot_listing.proofs.RunsLemmas.{runs_split}
use Rattle.wot_listing.proofs.Growing.{some_of_map}
use Rattle.wot_listing.proofs.Stepping.{users_are, with_block_is}

or_turned : (a b c : Bool) → ((a || b) || c) ≡ (b || (a || c))
or_turned true true c = refl
or_turned true false c = refl
or_turned false b c = refl

some_or : {A : Type 0} (b : Bool) (x : A) (o : Option A) → is_some (cond b (Some x) o) ≡ (b || is_some o)
some_or true x o = refl
some_or false x o = refl

contains_insert : (m : Keyring) (k : ℕ) (v : Key) (q : ℕ) → finmap.contains_key (finmap.insert m k v) q ≡ ((q == k) || finmap.contains_key m q)
contains_insert m k v q = ap is_some (finmap.get-insert nat_cmp_total m k v q) ∙ some_or (eq_by_cmp nat_cmp q k) v (finmap.get m q) ∙ ap (λ b. b || finmap.contains_key m q) (unsigned_tied q k)

-- a key ID is among the keys where a block has it
has_keys : (bs : List (Run Line)) (m : Keyring) (q : ℕ) → finmap.contains_key (fold with_keyblock m bs) q ≡ (finmap.contains_key m q || list_any (λ block. q == block_id block) bs)
has_keys [] m q = sym (or-false (finmap.contains_key m q))
has_keys (block ∷ bs) m q = has_keys bs (with_keyblock m block) q
    ∙ ap (λ b. b || list_any (λ block. q == block_id block) bs) (contains_insert m (block_id block) _ q)
    ∙ or_turned (q == block_id block) (finmap.contains_key m q) (list_any (λ block. q == block_id block) bs)

none_yet : (q : ℕ) → finmap.contains_key (keys_of []) q ≡ false
none_yet q = ap is_some (finmap.get-empty nat_cmp q)

repeated_key_is : (lines : List Line) (line : Line)
    → is_repeated_key lines line ≡ finmap.contains_key (with_block (keys_of (ended_runs begins_keyblock ends_keyblock lines)) (option_map keyblock_of (open_block lines))) (key_id_at line)
repeated_key_is lines line =
    sym (ap (λ b. b || list_any (λ block. key_id_at line == block_id block) (blocks lines)) (none_yet (key_id_at line)))
    ∙ sym (has_keys (blocks lines) finmap.empty (key_id_at line))
    ∙ ap (λ bs. finmap.contains_key (keys_of bs) (key_id_at line)) (runs_split begins_keyblock ends_keyblock block_ends lines)
    ∙ ap (λ m. finmap.contains_key m (key_id_at line)) (with_block_is (ended_runs begins_keyblock ends_keyblock lines) (open_block lines))

lacks_is : (o : Option (Run Line)) → lacks_fingerprint o ≡ is_unnamed (option_map keyblock_of o)
lacks_is None = refl
lacks_is (Some block) = ap not (sym (some_of_map fingerprint_at (fpr_record block)))

any_map : {A B : Type 0} (p : B → Bool) (f : A → B) (l : List A) → list_any (λ x. p (f x)) l ≡ list_any p (map f l)
any_map p f [] = refl
any_map p f (x ∷ l) = ap (λ b. p (f x) || b) (any_map p f l)

repeated_user_is : (block : Run Line) (kind : UserKind) (line : Line) → kind_of line ≡ UserId kind
    → is_repeated_user block line ≡ repeats_user (keyblock_of block) (user_at kind (is_revoked_at block.first) line)
repeated_user_is block kind line e =
    let new : user_of block (alone line) ≡ user_at kind (is_revoked_at block.first) line = λ i. record (user_at kind (is_revoked_at block.first) line) { kind = user_kind (e i) } in
    any_map (λ user. is_same_user user (user_of block (alone line))) (user_of block) (user_runs block)
    ∙ ap (list_any (λ user. is_same_user user (user_of block (alone line)))) (users_are block)
    ∙ ap (repeats_user (keyblock_of block)) new

user_count_is : (block : Run Line) → length (user_runs block) ≡ length (users_of (keyblock_of block))
user_count_is block = sym (length-map (user_runs block) (user_of block)) ∙ ap length (users_are block)

fingerprint_checks : (o : Option (Run Line)) (line : Line)
    → in_block o (λ block. if wants_fpr block then fpr_checks (block_id block) line else [])
    ≡ in_open (option_map keyblock_of o) (λ b. if b.wants_fpr then fpr_checks b.primary.id line else [])
fingerprint_checks None line = refl
fingerprint_checks (Some block) line = refl

user_id_checks : (o : Option (Run Line)) (kind : UserKind) (line : Line) → kind_of line ≡ UserId kind
    → in_block o (λ block. user_checks line ++ (is_repeated_user block line, RepeatedUser) ∷ (nat_le most_users (length (user_runs block)), LimitReached UsersLimit) ∷ [])
    ≡ in_open (option_map keyblock_of o) (λ b. user_checks line ++ (repeats_user b (user_at kind b.primary.revoked line), RepeatedUser) ∷ (nat_le most_users (length (users_of b)), LimitReached UsersLimit) ∷ [])
user_id_checks None kind line e = refl
user_id_checks (Some block) kind line e =
    λ i. user_checks line ++ (repeated_user_is block kind line e i, RepeatedUser) ∷ (nat_le most_users (user_count_is block i), LimitReached UsersLimit) ∷ []

signature_checks : (o : Option (Run Line)) (line : Line)
    → in_block o (λ block. if is_some (open_user block) && is_good line then sig_checks (block_id block) (cert_count block) line else [])
    ≡ in_open (option_map keyblock_of o) (λ b. if is_some b.user && is_good line then sig_checks b.primary.id b.certs line else [])
signature_checks None line = refl
signature_checks (Some block) line = ap (λ t. if t && is_good line then sig_checks (block_id block) (cert_count block) line else []) (sym (some_of_map (user_of block) (open_user block)))

pub checks_are : (lines : List Line) (line : Line) (k : RecordKind) → kind_of line ≡ k → checks_of k lines line ≡ checks_in k (progress_of lines) line
unfolding progress_of
checks_are lines line Primary e = λ i. (lacks_is (open_block lines) i, NoFingerprint) ∷ pub_checks line ++ (repeated_key_is lines line i, RepeatedKey) ∷ []
checks_are lines line Foreign e = λ i. (lacks_is (open_block lines) i, NoFingerprint) ∷ []
checks_are lines line Fingerprint e = fingerprint_checks (open_block lines) line
checks_are lines line (UserId kind) e = user_id_checks (open_block lines) kind line e
checks_are lines line Signature e = signature_checks (open_block lines) line
checks_are lines line Subkey e = refl
checks_are lines line Other e = refl

-- the first check that fails
pub failing_is : (lines : List Line) (line : Line) → failed_check lines line ≡ failing_in (progress_of lines) line
failing_is lines line = ap first_failing (checks_are lines line (kind_of line) refl)

-- the open block lacks its fingerprint
pub unnamed_is : (lines : List Line) → lacks_fingerprint (open_block lines) ≡ is_unnamed (progress_of lines).block
unfolding progress_of
unnamed_is lines = lacks_is (open_block lines)

-- the keys of all blocks
pub all_keys_are : (lines : List Line) → keys_of (blocks lines) ≡ with_block (progress_of lines).keys (progress_of lines).block
unfolding progress_of
all_keys_are lines = ap keys_of (runs_split begins_keyblock ends_keyblock block_ends lines) ∙ with_block_is (ended_runs begins_keyblock ends_keyblock lines) (open_block lines)
