-- What the reader keeps of the lines so far, and its step at one more line.
use Rattle.std.specs.Prelude.{Bool, true, false, ◌+◌, ◌-◌, ◌&&◌, nat_le, List, [], ◌∷◌, ◌++◌, length, map, count_by, option_to_list, if◌then◌else◌, Option, Some, None, is_some, is_none, unwrap_or, option_map}
use Rattle.std.specs.List.{list_any}
use Rattle.std.specs.FinMap as finmap
use Rattle.wot_types.specs.declared.cert.Cert.{Cert}
use Rattle.wot_types.specs.declared.key.Key.{Key}
use Rattle.wot_types.specs.declared.user.User.{User}
use Rattle.wot_types.specs.declared.user.UserKind.{UserKind}
use Rattle.wot_types.specs.declared.limit.Limit.TheVariants.{Users as UsersLimit}
use Rattle.wot_types.specs.declared.fault.ListingWhat.{ListingWhat}
use Rattle.wot_types.specs.declared.fault.ListingWhat.TheVariants.{LimitReached, NoFingerprint, RepeatedKey, RepeatedUser}
use Rattle.wot_types.specs.declared.record.RecordKind.{RecordKind}
use Rattle.wot_types.specs.declared.record.RecordKind.TheVariants.{Primary, Fingerprint, UserId, Signature, Subkey, Foreign, Other}
use Rattle.wot_types.specs.Keyring.{Keyring}
use Rattle.wot_types.specs.Listing.{Check, Line, begins_keyblock, begins_user, cert_count, certifies, ends_keyblock, ends_user, first_failing, fpr_checks, fpr_record, is_same_user, is_sig, kept_count, keys_of, open_block, open_user, pub_checks, sig_checks, user_at, user_checks, user_of, wants_fpr}
use Rattle.wot_types.specs.Limits.{most_users}
use Rattle.wot_types.specs.Numbers.{capped}
use Rattle.wot_types.specs.Records.{capabilities_at, cert_of, date_at, fingerprint_at, is_good, is_revoked_at, key_id_at, kind_of, number_at}
use Rattle.wot_types.specs.Runs.{Run}
use Rattle.wot_listing.specs.declared.primary.Primary.{Primary as PrimaryRecord}
use Rattle.wot_listing.specs.declared.key_block.KeyBlock.{KeyBlock}
use Rattle.wot_listing.specs.declared.so_far.SoFar.{SoFar}
use Rattle.wot_listing.specs.EndedRuns.{ended_runs}

-- the values of a `pub`
abbrev pub primary_of : Line → PrimaryRecord
primary_of line = record {
  id = key_id_at line;
  bits = number_at 3 line;
  algo = number_at 4 line;
  made = date_at 6 line;
  expires = date_at 7 line;
  revoked = is_revoked_at line;
  caps = capabilities_at line;
}

-- what is kept of a block that no line has ended
abbrev pub keyblock_of : Run Line → KeyBlock
keyblock_of block = record {
  primary = primary_of block.first;
  fpr = option_map fingerprint_at (fpr_record block);
  wants_fpr = wants_fpr block;
  users = map (user_of block) (ended_runs begins_user ends_user block.rest);
  user = option_map (user_of block) (open_user block);
  certs = cert_count block;
}

-- what is kept of these lines
unfoldable pub progress_of : List Line → SoFar
progress_of lines = record {
  lines = capped (length lines);
  keys = keys_of (ended_runs begins_keyblock ends_keyblock lines);
  block = option_map keyblock_of (open_block lines);
  kept = capped (kept_count lines);
  passed = capped (count_by is_sig lines - kept_count lines);
}

-- a block at its `pub`
abbrev pub at_primary : PrimaryRecord → KeyBlock
at_primary primary = record { primary = primary; fpr = None; wants_fpr = true; users = []; user = None; certs = 0 }

-- the user IDs of a block so far
abbrev pub users_of : KeyBlock → List User
users_of b = b.users ++ option_to_list b.user

-- the key of a block that ends
abbrev pub key_at_end : KeyBlock → Key
key_at_end b = record {
  fpr = unwrap_or b.fpr [];
  bits = b.primary.bits;
  algo = b.primary.algo;
  made = b.primary.made;
  expires = b.primary.expires;
  revoked = b.primary.revoked;
  caps = b.primary.caps;
  users = users_of b;
}

abbrev pub with_block : Keyring → Option KeyBlock → Keyring
with_block keys None = keys
with_block keys (Some b) = finmap.insert keys b.primary.id (key_at_end b)

-- the open block has ended
abbrev pub after_block : SoFar → SoFar
after_block s = record s { keys = with_block s.keys s.block; block = None }

-- an `fpr` is the key's own where none has come
abbrev pub with_fpr : Line → KeyBlock → KeyBlock
with_fpr line b = record b { fpr = if b.wants_fpr then Some (fingerprint_at line) else b.fpr; wants_fpr = false }

-- the open user ID has ended
abbrev pub after_user : KeyBlock → KeyBlock
after_user b = record b { users = users_of b; user = None }

abbrev pub with_user : UserKind → Line → KeyBlock → KeyBlock
with_user kind line b = record (after_user b) { user = Some (user_at kind b.primary.revoked line) }

-- a `sub` ends the user ID and the primary part
abbrev pub at_sub : KeyBlock → KeyBlock
at_sub b = record (after_user b) { wants_fpr = false }

-- a signature is kept where it stands in a user ID and counts
abbrev pub is_kept_in : Option KeyBlock → Line → Bool
is_kept_in None line = false
is_kept_in (Some b) line = is_some b.user && certifies b.primary.id line

abbrev pub and_cert : Cert → User → User
and_cert cert user = record user { certs = user.certs ++ cert ∷ [] }

abbrev pub with_cert : Cert → KeyBlock → KeyBlock
with_cert cert b = record b { user = option_map (and_cert cert) b.user; certs = b.certs + 1 }

-- one more signature is kept or passed
abbrev pub with_count : Bool → SoFar → SoFar
with_count true s = record s { kept = capped (s.kept + 1) }
with_count false s = record s { passed = capped (s.passed + 1) }

abbrev pub with_sig : SoFar → Line → Bool → SoFar
with_sig s line true = with_count true (record s { block = option_map (with_cert (cert_of line)) s.block })
with_sig s line false = with_count false s

-- what a line of this kind adds
abbrev pub after_kind : RecordKind → SoFar → Line → SoFar
after_kind Primary s line = record (after_block s) { block = Some (at_primary (primary_of line)) }
after_kind Foreign s line = after_block s
after_kind Fingerprint s line = record s { block = option_map (with_fpr line) s.block }
after_kind (UserId kind) s line = record s { block = option_map (with_user kind line) s.block }
after_kind Subkey s line = record s { block = option_map at_sub s.block }
after_kind Signature s line = with_sig s line (is_kept_in s.block line)
after_kind Other s line = s

-- what is kept after one more line
abbrev pub after_line : SoFar → Line → SoFar
after_line s line = record (after_kind (kind_of line) s line) { lines = capped (s.lines + 1) }

abbrev pub in_open : Option KeyBlock → (KeyBlock → List Check) → List Check
in_open None checks = []
in_open (Some b) checks = checks b

-- the open block has no fingerprint yet
abbrev pub is_unnamed : Option KeyBlock → Bool
is_unnamed None = false
is_unnamed (Some b) = is_none b.fpr

abbrev pub repeats_user : KeyBlock → User → Bool
repeats_user b user = list_any (λ earlier. is_same_user earlier user) (users_of b)

-- the checks of a line of this kind, asked of what is kept
abbrev pub checks_in : RecordKind → SoFar → Line → List Check
checks_in Primary s line = (is_unnamed s.block, NoFingerprint) ∷ pub_checks line ++ (finmap.contains_key (after_block s).keys (key_id_at line), RepeatedKey) ∷ []
checks_in Foreign s line = (is_unnamed s.block, NoFingerprint) ∷ []
checks_in Fingerprint s line = in_open s.block (λ b. if b.wants_fpr then fpr_checks b.primary.id line else [])
checks_in (UserId kind) s line = in_open s.block (λ b.
    user_checks line ++ (repeats_user b (user_at kind b.primary.revoked line), RepeatedUser) ∷ (nat_le most_users (length (users_of b)), LimitReached UsersLimit) ∷ [])
checks_in Signature s line = in_open s.block (λ b.
    if is_some b.user && is_good line then sig_checks b.primary.id b.certs line else [])
checks_in _ s line = []

-- the first check of a line that fails, asked of what is kept
abbrev pub failing_in : SoFar → Line → Option ListingWhat
failing_in s line = first_failing (checks_in (kind_of line) s line)
