-- What is kept of a block that has one more line.
use Rattle.std.proofs.Common.{◌≡◌, ℕ, Bool, true, false, cond, not, ◌+◌, ◌||◌, ◌&&◌, [], ◌∷◌, ◌++◌, map, length, sum_by, Option, Some, None, is_some, is_none, refl, sym, ap, ◌∙◌, arith}
use Rattle.std.specs.Prelude.{option_map, option_to_list}
use Rattle.std.specs.Option.{option_or}
use Rattle.std.specs.List.{list_any}
use Rattle.std.proofs.lemmas.List.{map-append, append-nil, length-append}
use Rattle.std.proofs.lemmas.List.Elements.{filter-append}
use Rattle.std.proofs.lemmas.List.Folds.{find-append}
use Rattle.std.proofs.lemmas.List.Sums.{sum_by-append}
use Rattle.wot_types.specs.declared.cert.Cert.{Cert}
use Rattle.wot_types.specs.declared.user.User.{User}
use Rattle.wot_types.specs.declared.record.RecordKind.{RecordKind}
use Rattle.wot_types.specs.declared.record.RecordKind.TheVariants.{Primary, Fingerprint, UserId, Signature, Subkey, Foreign, Other}
use Rattle.wot_types.specs.Listing.{Line, begins_user, cert_count, certifies, certifications, ends_user, fpr_record, is_certification, is_fpr, is_sub, open_user, user_at, user_kind, user_of, wants_fpr}
use Rattle.wot_types.specs.Records as record_of
use Rattle.wot_types.specs.Records.{cert_of, class_at, fingerprint_at, is_fingerprint_record, is_good, is_kept_class, is_signature, is_subkey, is_user_id, key_id_at, kind_of}
use Rattle.wot_types.specs.Runs.{Run, alone, up_to}
use Rattle.wot_types.proofs.RunEnds.{user_ends}
use Rattle.wot_listing.specs.declared.key_block.KeyBlock.{KeyBlock}
use Rattle.wot_listing.specs.EndedRuns.{ended_runs}
use Rattle.wot_listing.specs.Machine.{and_cert, at_sub, keyblock_of, users_of, with_cert, with_fpr, with_user}
use Rattle.wot_listing.proofs.RunsLemmas.{any_more, ended_more, longer, open_more, runs_split, up_to_more}

-- the fingerprint's record of a longer block
found_more : (X : Option Line) (line : Line) (f : Bool) → option_or X (cond f (Some line) None) ≡ cond (is_none X && f) (Some line) X
found_more None line true = refl
found_more None line false = refl
found_more (Some x) line true = refl
found_more (Some x) line false = refl

pub same_cond : {A : Type 0} (b : Bool) (x : A) → x ≡ cond b x x
same_cond true x = refl
same_cond false x = refl

or_both : (a b : Bool) → a ≡ true → (a || b) ≡ true
or_both true b h = refl
or_both false b h = cc

fpr_line_at : (block : Run Line) (line : Line) (any sub : Bool) → list_any is_sub block.rest ≡ any → is_sub line ≡ sub
    → fpr_record (longer line block) ≡ cond (is_sub line) (fpr_record block) (cond (wants_fpr block && is_fpr line) (Some line) (fpr_record block))
fpr_line_at block line true true p q = rw (up_to_more is_sub block.rest line, p, q) refl
fpr_line_at block line false true p q = rw (up_to_more is_sub block.rest line, p, q) refl
fpr_line_at block line true false p q = rw (up_to_more is_sub block.rest line, p, q) refl
fpr_line_at block line false false p q = rw (up_to_more is_sub block.rest line, p, q)
    (find-append is_fpr (up_to is_sub block.rest) (line ∷ []) ∙ found_more (fpr_record block) line (is_fpr line))

pub fpr_line_more : (line : Line) (block : Run Line)
    → fpr_record (longer line block) ≡ cond (is_sub line) (fpr_record block) (cond (wants_fpr block && is_fpr line) (Some line) (fpr_record block))
fpr_line_more line block = fpr_line_at block line _ _ refl refl

none_of_cond : (any : Bool) (X : Option Line) (line : Line) (sub f : Bool)
    → (not (any || sub) && is_none (cond sub X (cond ((not any && is_none X) && f) (Some line) X))) ≡ ((not any && is_none X) && not sub && not f)
none_of_cond true X line sub f = refl
none_of_cond false None line true true = refl
none_of_cond false None line true false = refl
none_of_cond false None line false true = refl
none_of_cond false None line false false = refl
none_of_cond false (Some x) line true f = refl
none_of_cond false (Some x) line false f = refl

pub wants_fpr_more : (line : Line) (block : Run Line) → wants_fpr (longer line block) ≡ (wants_fpr block && not (is_sub line) && not (is_fpr line))
wants_fpr_more line block = rw (any_more is_sub block.rest line, fpr_line_more line block)
    (none_of_cond (list_any is_sub block.rest) (fpr_record block) line (is_sub line) (is_fpr line))

pub map_to_list : {A B : Type 0} (f : A → B) (o : Option A) → map f (option_to_list o) ≡ option_to_list (option_map f o)
map_to_list f None = refl
map_to_list f (Some x) = refl

pub map_cond : {A B : Type 0} (f : A → B) (b : Bool) (x y : A) → f (cond b x y) ≡ cond b (f x) (f y)
map_cond f true x y = refl
map_cond f false x y = refl

-- the user IDs that a line has ended
pub ended_users_more : (line : Line) (block : Run Line)
    → map (user_of block) (ended_runs begins_user ends_user (block.rest ++ line ∷ []))
    ≡ cond (ends_user line) (users_of (keyblock_of block)) (keyblock_of block).users
ended_users_more line block =
    ap (map (user_of block)) (ended_more begins_user ends_user user_ends block.rest line)
    ∙ map_cond (map (user_of block)) (ends_user line) _ _
    ∙ ap (λ l. cond (ends_user line) l (keyblock_of block).users)
    (map-append (user_of block) (ended_runs begins_user ends_user block.rest) (option_to_list (open_user block))
    ∙ ap (λ l. (keyblock_of block).users ++ l) (map_to_list (user_of block) (open_user block)))

-- a signature that is kept is one more certification
certs_at : (block : Run Line) (run : Run Line) (line : Line) (b : Bool) → is_certification block line ≡ b
    → certifications block (longer line run) ≡ certifications block run ++ cond b (line ∷ []) []
certs_at block run line b h = filter-append (is_certification block) run.rest (line ∷ []) ∙ ap (λ t. certifications block run ++ cond t (line ∷ []) []) h

user_longer : (block : Run Line) (run : Run Line) (line : Line) (b : Bool) → is_certification block line ≡ b
    → user_of block (longer line run) ≡ cond b (and_cert (cert_of line) (user_of block run)) (user_of block run)
user_longer block run line true h =
    let certs = ap (map cert_of) (certs_at block run line true h) ∙ map-append cert_of (certifications block run) (line ∷ []) in
    λ i. record (user_of block run) { certs = certs i }
user_longer block run line false h =
    let certs = ap (map cert_of) (certs_at block run line false h ∙ append-nil _) in
    λ i. record (user_of block run) { certs = certs i }

count_at : (block : Run Line) (run : Run Line) (line : Line) (b : Bool) → is_certification block line ≡ b
    → length (certifications block (longer line run)) ≡ length (certifications block run) + cond b 1 0
count_at block run line true h = ap length (certs_at block run line true h) ∙ length-append (certifications block run) (line ∷ [])
count_at block run line false h = ap length (certs_at block run line false h ∙ append-nil _) ∙ omega arith

open_user_at : (block : Run Line) (line : Line) (o : Option (Run Line))
    → option_map (user_of block) (option_map (longer line) o)
    ≡ cond (is_certification block line) (option_map (and_cert (cert_of line)) (option_map (user_of block) o)) (option_map (user_of block) o)
open_user_at block line None = same_cond (is_certification block line) None
open_user_at block line (Some run) = ap Some (user_longer block run line _ refl) ∙ map_cond Some (is_certification block line) _ _

-- the user ID that no line has ended
pub open_user_more : (line : Line) (block : Run Line)
    → option_map (user_of block) (open_user (longer line block))
    ≡ cond (ends_user line) (cond (begins_user line) (Some (user_of block (alone line))) None)
    (cond (is_certification block line) (option_map (and_cert (cert_of line)) (keyblock_of block).user) (keyblock_of block).user)
open_user_more line block =
    ap (option_map (user_of block)) (open_more begins_user ends_user user_ends block.rest line)
    ∙ map_cond (option_map (user_of block)) (ends_user line) _ _
    ∙ (λ i. cond (ends_user line) (map_cond (option_map (user_of block)) (begins_user line) (Some (alone line)) None i) (open_user_at block line (open_user block) i))

-- the certifications of a user ID
abbrev count_of : Run Line → Run Line → ℕ
count_of block user = length (certifications block user)

cert_count_is : (block : Run Line)
    → cert_count block ≡ sum_by (count_of block) (ended_runs begins_user ends_user block.rest) + sum_by (count_of block) (option_to_list (open_user block))
cert_count_is block = ap (sum_by (count_of block)) (runs_split begins_user ends_user user_ends block.rest)
    ∙ sum_by-append (count_of block) (ended_runs begins_user ends_user block.rest) (option_to_list (open_user block))

open_count_more : (block : Run Line) (line : Line) (o : Option (Run Line))
    → sum_by (count_of block) (option_to_list (option_map (longer line) o)) ≡ sum_by (count_of block) (option_to_list o) + cond (is_some o && is_certification block line) 1 0
open_count_more block line None = refl
open_count_more block line (Some run) = omega (arith, count_at block run line _ refl)

fresh_count : (block : Run Line) (line : Line) (b : Bool) → sum_by (count_of block) (option_to_list (cond b (Some (alone line)) None)) ≡ 0
fresh_count block line true = refl
fresh_count block line false = refl

cert_count_at : (line : Line) (block : Run Line) (t : Bool) → ends_user line ≡ t
    → cert_count (longer line block) ≡ cond t (cert_count block) (cert_count block + cond (is_some (open_user block) && is_certification block line) 1 0)
cert_count_at line block true h =
    let count = count_of block in
    let ended = ended_more begins_user ends_user user_ends block.rest line in
    let open' = open_more begins_user ends_user user_ends block.rest line in
    cert_count_is (longer line block)
    ∙ (λ i. sum_by count (ended i) + sum_by count (option_to_list (open' i)))
    ∙ rw h (ap (λ n. sum_by count (ended_runs begins_user ends_user block.rest ++ option_to_list (open_user block)) + n) (fresh_count block line (begins_user line))
    ∙ omega (arith, sum_by-append count (ended_runs begins_user ends_user block.rest) (option_to_list (open_user block)), cert_count_is block))
cert_count_at line block false h =
    let count = count_of block in
    let ended = ended_more begins_user ends_user user_ends block.rest line in
    let open' = open_more begins_user ends_user user_ends block.rest line in
    cert_count_is (longer line block)
    ∙ (λ i. sum_by count (ended i) + sum_by count (option_to_list (open' i)))
    ∙ rw h (omega (arith, open_count_more block line (open_user block), cert_count_is block))

pub cert_count_more : (line : Line) (block : Run Line)
    → cert_count (longer line block) ≡ cond (ends_user line) (cert_count block) (cert_count block + cond (is_some (open_user block) && is_certification block line) 1 0)
cert_count_more line block = cert_count_at line block _ refl

-- a signature that would be a certification of the block
abbrev adds : RecordKind → ℕ → Line → Bool
adds k id line = is_signature k && certifies id line

-- the block after one more line, by the tests of the line's kind
abbrev block_after : KeyBlock → Line → RecordKind → KeyBlock
block_after b line k = record {
  primary = b.primary;
  fpr = cond (is_subkey k) b.fpr (cond (b.wants_fpr && is_fingerprint_record k) (Some (fingerprint_at line)) b.fpr);
  wants_fpr = b.wants_fpr && not (is_subkey k) && not (is_fingerprint_record k);
  users = cond (record_of.ends_user k) (users_of b) b.users;
  user = cond (record_of.ends_user k) (cond (is_user_id k) (Some (user_at (user_kind k) b.primary.revoked line)) None)
      (cond (adds k b.primary.id line) (option_map (and_cert (cert_of line)) b.user) b.user);
  certs = cond (record_of.ends_user k) b.certs (b.certs + cond (is_some b.user && adds k b.primary.id line) 1 0);
}

pub some_of_map : {A B : Type 0} (f : A → B) (o : Option A) → is_some (option_map f o) ≡ is_some o
some_of_map f None = refl
some_of_map f (Some x) = refl

after_by_tests : (line : Line) (block : Run Line) → keyblock_of (longer line block) ≡ block_after (keyblock_of block) line (kind_of line)
after_by_tests line block =
    let fpr = ap (option_map fingerprint_at) (fpr_line_more line block)
    ∙ map_cond (option_map fingerprint_at) (is_sub line) _ _
    ∙ ap (cond (is_sub line) (option_map fingerprint_at (fpr_record block))) (map_cond (option_map fingerprint_at) (wants_fpr block && is_fpr line) _ _) in
    let wants = wants_fpr_more line block in
    let users = ended_users_more line block in
    let user = open_user_more line block in
    let certs = cert_count_more line block
    ∙ ap (λ t. cond (ends_user line) (cert_count block) (cert_count block + cond (t && is_certification block line) 1 0)) (sym (some_of_map (user_of block) (open_user block))) in
    λ i. record { primary = (keyblock_of block).primary; fpr = fpr i; wants_fpr = wants i; users = users i; user = user i; certs = certs i }

-- the block after one more line that belongs to it
abbrev pub block_fed : RecordKind → KeyBlock → Line → KeyBlock
block_fed Fingerprint b line = with_fpr line b
block_fed (UserId kind) b line = with_user kind line b
block_fed Subkey b line = at_sub b
block_fed Signature b line = cond (is_some b.user && certifies b.primary.id line) (with_cert (cert_of line) b) b
block_fed _ b line = b

and_false : (a b : Bool) → (a && false && b) ≡ false
and_false true b = refl
and_false false b = refl

and_true : (a : Bool) → (a && true) ≡ a
and_true true = refl
and_true false = refl

-- only a signature adds a certification
not_certified : (b : KeyBlock) → b.certs + cond (is_some b.user && false) 1 0 ≡ b.certs
not_certified b = elim (is_some b.user) as (λ t. b.certs + cond (t && false) 1 0 ≡ b.certs) [ true ↦ omega arith | false ↦ omega arith ]

wants_fpr_at : (b : Bool) → (b && true && true) ≡ b
wants_fpr_at true = refl
wants_fpr_at false = refl

kept_fpr : {A : Type 0} (w : Bool) (x y : A) → cond (w && false) x y ≡ y
kept_fpr true x y = refl
kept_fpr false x y = refl

ended_fpr : (w : Bool) → (w && true && false) ≡ false
ended_fpr true = refl
ended_fpr false = refl

abbrev with_signature : KeyBlock → Cert → Option User → Bool → KeyBlock
with_signature b cert user t = record b { user = cond t (option_map (and_cert cert) user) user; certs = b.certs + cond (is_some user && t) 1 0 }

signature_is : (b : KeyBlock) (cert : Cert) (user : Option User) (t : Bool)
    → with_signature b cert user t ≡ cond (is_some user && t) (with_cert cert (record b { user = user })) (record b { user = user })
signature_is b cert None true = let e : b.certs + 0 ≡ b.certs = omega arith in λ i. record b { user = None; certs = e i }
signature_is b cert None false = let e : b.certs + 0 ≡ b.certs = omega arith in λ i. record b { user = None; certs = e i }
signature_is b cert (Some user) true = refl
signature_is b cert (Some user) false = let e : b.certs + 0 ≡ b.certs = omega arith in λ i. record b { user = Some user; certs = e i }

after_is : (b : KeyBlock) (line : Line) (k : RecordKind) → record_of.ends_keyblock k ≡ false → block_after b line k ≡ block_fed k b line
after_is b line Primary h = cc
after_is b line Foreign h = cc
after_is b line Fingerprint h = λ i. record b { fpr = cond (and_true b.wants_fpr i) (Some (fingerprint_at line)) b.fpr; wants_fpr = ended_fpr b.wants_fpr i; certs = not_certified b i }
after_is b line (UserId kind) h = λ i. record (with_user kind line b) { fpr = kept_fpr b.wants_fpr (Some (fingerprint_at line)) b.fpr i; wants_fpr = wants_fpr_at b.wants_fpr i }
after_is b line Subkey h = λ i. record (at_sub b) { wants_fpr = and_false b.wants_fpr true i }
after_is b line Signature h =
    (λ i. record (with_signature b (cert_of line) b.user (certifies b.primary.id line)) {
      fpr = kept_fpr b.wants_fpr (Some (fingerprint_at line)) b.fpr i;
      wants_fpr = wants_fpr_at b.wants_fpr i;
    })
    ∙ signature_is b (cert_of line) b.user (certifies b.primary.id line)
after_is b line Other h = λ i. record b { fpr = kept_fpr b.wants_fpr (Some (fingerprint_at line)) b.fpr i; wants_fpr = wants_fpr_at b.wants_fpr i; certs = not_certified b i }

pub block_more : (line : Line) (block : Run Line) (k : RecordKind) → kind_of line ≡ k → record_of.ends_keyblock k ≡ false
    → keyblock_of (longer line block) ≡ block_fed k (keyblock_of block) line
block_more line block k e h = after_by_tests line block ∙ ap (block_after (keyblock_of block) line) e ∙ after_is (keyblock_of block) line k h
