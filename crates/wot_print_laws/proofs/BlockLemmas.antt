-- A block that is written as a key is printed has that key.
use Rattle.std.proofs.Common.{◌≡◌, ℕ, ◌==◌, Bool, true, false, not, ◌||◌, ◌&&◌, List, [], ◌∷◌, ◌++◌, map, All, Some, filter, find, refl, sym, ap, ◌∙◌}
use Rattle.std.specs.Prelude.{unwrap_or}
use Rattle.std.specs.List.{list_any}
use Rattle.std.specs.Option.{option_map_or}
use Rattle.std.proofs.lemmas.Bool.{and_from, cond-false, cond-true, or_from, or_parts, ne_eqb}
use Rattle.std.proofs.lemmas.List.Elements.{All-head, All-tail}
use Rattle.std.proofs.lemmas.List.Folds.{list_any-append}
use Rattle.wot_types.specs.declared.cert.Cert.{Cert}
use Rattle.wot_types.specs.declared.key.Key.{Key}
use Rattle.wot_types.specs.declared.user.User.{User}
use Rattle.wot_types.specs.declared.user.UserKind.{UserKind}
use Rattle.wot_types.specs.declared.record.RecordKind.{RecordKind}
use Rattle.wot_types.specs.declared.record.RecordKind.TheVariants.{Fingerprint, UserId, Signature}
use Rattle.wot_types.specs.Listing.{Line, begins_user, ends_user, fpr_record, is_certification, is_fpr, is_sub, key_of, user_kind, user_of, user_runs}
use Rattle.wot_types.specs.Records as record_of
use Rattle.wot_types.specs.Records.{cert_of, class_at, is_fingerprint_record, is_kept_class, is_primary, is_signature, is_subkey, is_user_id, key_id_at, kind_of, fingerprint_at}
use Rattle.wot_types.specs.Runs.{Run, up_to}
use Rattle.wot_types.specs.WellFormed.{IsCert, IsUser}
use Rattle.wot_types.proofs.RunEnds.{user_ends}
use Rattle.wot_print_laws.proofs.PrintedLines.{IsFpr, IsPub, IsSig, IsUid}
use Rattle.wot_print_laws.proofs.RunLemmas.{AreRuns, pieces, runs_pieces}

-- ---- the lines of user IDs and certifications, one by one

abbrev pub AreSigs : List Cert → List Line → Type 0
AreSigs [] [] = Unit {0}
AreSigs (cert ∷ certs) (line ∷ lines) = IsSig cert line × AreSigs certs lines
AreSigs _ _ = ⊥

abbrev pub AreUsers : Bool → List User → List (Run Line) → Type 0
AreUsers marked [] [] = Unit {0}
AreUsers marked (user ∷ users) (r ∷ rs) = IsUid (marked || user.revoked) user r.first × AreSigs user.certs r.rest × AreUsers marked users rs
AreUsers marked _ _ = ⊥

abbrev pub block_of : Line → Line → List (Run Line) → Run Line
block_of p f rs = record { first = p; rest = f ∷ pieces rs }

-- ---- which tests pass on them

module _ (t : RecordKind → Bool) where
  pub of_kind : {k : RecordKind} (line : Line) → kind_of line ≡ k → t k ≡ false → t (kind_of line) ≡ false
  of_kind line e h = ap t e ∙ h

  pub sigs_free : t Signature ≡ false → (certs : List Cert) (lines : List Line) → AreSigs certs lines → list_any (λ line. t (kind_of line)) lines ≡ false
  sigs_free h [] [] p = refl
  sigs_free h [] (line ∷ lines) p = absurd p
  sigs_free h (cert ∷ certs) [] p = absurd p
  sigs_free h (cert ∷ certs) (line ∷ lines) p = or_from (t (kind_of line)) (list_any (λ line. t (kind_of line)) lines) (of_kind line p.0.kind h) (sigs_free h certs lines p.1)

  pub users_free : t Signature ≡ false → ((kind : UserKind) → t (UserId kind) ≡ false) → (marked : Bool) (users : List User) (rs : List (Run Line)) → AreUsers marked users rs
      → list_any (λ line. t (kind_of line)) (pieces rs) ≡ false
  users_free h u marked [] [] p = refl
  users_free h u marked [] (r ∷ rs) p = absurd p
  users_free h u marked (user ∷ users) [] p = absurd p
  users_free h u marked (user ∷ users) (r ∷ rs) p =
      or_from (t (kind_of r.first)) (list_any (λ line. t (kind_of line)) (r.rest ++ pieces rs)) (of_kind r.first p.0.kind (u user.kind))
      (list_any-append (λ line. t (kind_of line)) r.rest (pieces rs)
      ∙ or_from (list_any (λ line. t (kind_of line)) r.rest) (list_any (λ line. t (kind_of line)) (pieces rs)) (sigs_free h user.certs r.rest p.1) (users_free h u marked users rs p.2))

-- ---- runs

pub users_are_runs : (marked : Bool) (users : List User) (rs : List (Run Line)) → AreUsers marked users rs → AreRuns begins_user ends_user rs
users_are_runs marked [] [] p = tt
users_are_runs marked [] (r ∷ rs) p = absurd p
users_are_runs marked (user ∷ users) [] p = absurd p
users_are_runs marked (user ∷ users) (r ∷ rs) p =
    (record { begun = ap is_user_id p.0.kind; goes_on = sigs_free record_of.ends_user refl user.certs r.rest p.1 }, users_are_runs marked users rs p.2)

pub user_runs_are : (p f : Line) (marked : Bool) (users : List User) (rs : List (Run Line)) → kind_of f ≡ Fingerprint → AreUsers marked users rs
    → user_runs (block_of p f rs) ≡ rs
user_runs_are p f marked users rs k us =
    runs_pieces begins_user ends_user user_ends (f ∷ []) (or_from (ends_user f) false (of_kind record_of.ends_user f k refl) refl) rs (users_are_runs marked users rs us)

up_to_free : (ends : Line → Bool) (lines : List Line) → list_any ends lines ≡ false → up_to ends lines ≡ lines
up_to_free ends [] h = refl
up_to_free ends (line ∷ lines) h =
    let both = or_parts (ends line) (list_any ends lines) h in
    cond-false (ends line) [] (line ∷ up_to ends lines) both.0 ∙ ap (λ l. line ∷ l) (up_to_free ends lines both.1)

pub fpr_line_is : (p f : Line) (marked : Bool) (users : List User) (rs : List (Run Line)) → kind_of f ≡ Fingerprint → AreUsers marked users rs
    → fpr_record (block_of p f rs) ≡ Some f
fpr_line_is p f marked users rs k us =
    ap (find is_fpr) (up_to_free is_sub (f ∷ pieces rs) (or_from (is_sub f) (list_any is_sub (pieces rs)) (of_kind is_subkey f k refl) (users_free is_subkey refl (λ kind. refl) marked users rs us)))
    ∙ cond-true (is_fpr f) (Some f) (find is_fpr (pieces rs)) (ap is_fingerprint_record k)

-- ---- values

module _ (id : ℕ) (p : Line) (own : key_id_at p ≡ id) where
  pub is_kept_line : (rest : List Line) (cert : Cert) (line : Line) → IsSig cert line → IsCert id cert → is_certification (record { first = p; rest = rest }) line ≡ true
  is_kept_line rest cert line s w =
      (λ i. is_signature (s.kind i) && ((s.good i && is_kept_class (unwrap_or (s.class i) 0)) && not (unwrap_or (s.issuer i) 0 == own i)))
      ∙ and_from (is_kept_class cert.class) (not (cert.issuer == id)) w.class (ap not (ne_eqb cert.issuer id w.by_another))

  pub kept_lines : (rest : List Line) (certs : List Cert) (lines : List Line) → AreSigs certs lines → All (IsCert id) certs
      → map cert_of (filter (is_certification (record { first = p; rest = rest })) lines) ≡ certs
  kept_lines rest [] [] s w = refl
  kept_lines rest [] (line ∷ lines) s w = absurd s
  kept_lines rest (cert ∷ certs) [] s w = absurd s
  kept_lines rest (cert ∷ certs) (line ∷ lines) s w =
      ap (map cert_of) (cond-true (is_certification (record { first = p; rest = rest }) line) (line ∷ filter (is_certification (record { first = p; rest = rest })) lines) (filter (is_certification (record { first = p; rest = rest })) lines)
      (is_kept_line rest cert line s.0 (All-head (IsCert id) cert certs w)))
      ∙ (λ i. s.0.value i ∷ kept_lines rest certs lines s.1 (All-tail (IsCert id) cert certs w) i)

own_mark : (key user : Bool) → (key ≡ true → user ≡ false) → ((key || user) && not key) ≡ user
own_mark true user h = sym (h refl)
own_mark false true h = refl
own_mark false false h = refl

pub user_is : (id : ℕ) (p : Line) (rest : List Line) (key : Key) (user : User) (r : Run Line) → IsPub id key p → IsUid (key.revoked || user.revoked) user r.first → AreSigs user.certs r.rest
    → All (IsCert id) user.certs → (key.revoked ≡ true → user.revoked ≡ false) → user_of (record { first = p; rest = rest }) r ≡ user
user_is id p rest key user r h u s w marks = λ i. record {
  kind = user_kind (u.kind i);
  text = u.text i;
  hash = u.hash i;
  made = u.made i;
  expires = u.expires i;
  revoked = ((λ j. u.revoked j && not (h.revoked j)) ∙ own_mark key.revoked user.revoked marks) i;
  certs = kept_lines id p h.own_id rest user.certs r.rest s w i;
}

pub users_are : (id : ℕ) (p : Line) (rest : List Line) (key : Key) (users : List User) (rs : List (Run Line)) → IsPub id key p → AreUsers key.revoked users rs
    → All (IsUser id) users → (key.revoked ≡ true → All (λ user. user.revoked ≡ false) users) → map (user_of (record { first = p; rest = rest })) rs ≡ users
users_are id p rest key [] [] h us w marks = refl
users_are id p rest key [] (r ∷ rs) h us w marks = absurd us
users_are id p rest key (user ∷ users) [] h us w marks = absurd us
users_are id p rest key (user ∷ users) (r ∷ rs) h us w marks = λ i.
    user_is id p rest key user r h us.0 us.1 (All-head (IsUser id) user users w).certs (λ e. All-head (λ user. user.revoked ≡ false) user users (marks e)) i
    ∷ users_are id p rest key users rs h us.2 (All-tail (IsUser id) user users w) (λ e. All-tail (λ user. user.revoked ≡ false) user users (marks e)) i

-- the key of a block that is written as a key
pub key_is : (id : ℕ) (p f : Line) (key : Key) (rs : List (Run Line)) → IsPub id key p → IsFpr key f → AreUsers key.revoked key.users rs
    → All (IsUser id) key.users → (key.revoked ≡ true → All (λ user. user.revoked ≡ false) key.users) → key_of (block_of p f rs) ≡ key
key_is id p f key rs h g us w marks = λ i. record {
  fpr = (ap (λ o. option_map_or fingerprint_at o []) (fpr_line_is p f key.revoked key.users rs g.kind us) ∙ g.fpr) i;
  bits = h.bits i;
  algo = h.algo i;
  made = h.made i;
  expires = h.expires i;
  revoked = h.revoked i;
  caps = h.caps i;
  users = (ap (map (user_of (block_of p f rs))) (user_runs_are p f key.revoked key.users rs g.kind us) ∙ users_are id p (f ∷ pieces rs) key key.users rs h us w marks) i;
}
