-- The keys of a listing without a fault are well formed, each under the key ID of its fingerprint.
use Rattle.std.proofs.Common.{◌≡◌, ℕ, Bool, true, false, cond, not, ◌+◌, ◌&&◌, List, [], ◌∷◌, ◌++◌, map, length, Option, Some, None, is_some, is_none, refl, sym, ap, ◌∙◌, subst, arith}
use Rattle.std.specs.Prelude.{◌==◌, All, nat_le, option_map, unwrap_or, if◌then◌else◌}
use Rattle.std.specs.Cmp.{unsigned_tied}
use Rattle.std.specs.FinMap as finmap
use Rattle.std.specs.FinMap.Entries.{below_all, find, is_sorted}
use Rattle.std.specs.declared.cmp.Ordering.{Ordering}
use Rattle.std.specs.declared.cmp.Ordering.TheVariants.{Less, Equal, Greater}
use Rattle.std.specs.List.{AllByRecursion}
use Rattle.std.specs.List.Sorted.{IsStrictlyIncreasing, IsStrictlySortedBy}
use Rattle.std.specs.Ordering.{eq_by_cmp, is_eq, is_lt, nat_cmp}
use Rattle.std.proofs.lemmas.Bool.Decides.{Decides-eqb}
use Rattle.std.proofs.lemmas.Cmp.{nat_cmp_total}
use Rattle.std.proofs.lemmas.List.Elements.{All-cons, All-head, All-map, All-nil, All-tail}
use Rattle.std.proofs.lemmas.Map.Keys.{IsStrictlyIncreasing-from_sorted}
use Rattle.std.proofs.lemmas.Bool.{and_parts}
use Rattle.wot_types.specs.declared.key.Key.{Key}
use Rattle.wot_types.specs.declared.user.UserKind.{UserKind}
use Rattle.wot_types.specs.declared.fault.ListingFault.{ListingFault}
use Rattle.wot_types.specs.declared.fault.ListingWhat.TheVariants.{NoFingerprint, RepeatedUser, LimitReached}
use Rattle.wot_types.specs.declared.limit.Limit.TheVariants.{Users as UsersLimit}
use Rattle.wot_types.specs.declared.record.RecordKind.{RecordKind}
use Rattle.wot_types.specs.declared.record.RecordKind.TheVariants.{Primary, Fingerprint, UserId, Signature, Subkey, Foreign, Other}
use Rattle.wot_types.specs.Fields.{has_fewer}
use Rattle.wot_types.specs.Fingerprint.{IsFprLength, key_id_of}
use Rattle.wot_types.specs.Keyring.{Keyring}
use Rattle.wot_types.specs.Listing.{Line, Spells, blocks, certifies, failed_check, fault, fault_at, fault_at_end, first_failing, fpr_checks, is_bad_date, is_bad_quote, keys_of, lacks_fingerprint, open_block, sig_checks, user_at, user_checks}
use Rattle.wot_types.specs.Limits.{most_users}
use Rattle.wot_types.specs.Records.{cert_of, class_at, is_good, is_kept_class, key_id_at, kind_of}
use Rattle.wot_types.specs.Accepted.{AreImportable}
use Rattle.wot_types.specs.WellFormed.{IsUser, IsWellFormed}
use Rattle.wot_types.proofs.Optionals.{both_none, map_none}
use Rattle.wot_types.proofs.Tests.{true_from_T}
use Rattle.wot_listing.specs.declared.key_block.KeyBlock.{KeyBlock}
use Rattle.wot_listing.specs.declared.so_far.SoFar.{SoFar}
use Rattle.wot_listing.specs.Machine.{at_sub, checks_in, after_kind, key_at_end, in_open, is_kept_in, is_unnamed, after_line, repeats_user, progress_of, users_of, with_block, with_cert, with_fpr, with_sig, with_user}
use Rattle.wot_listing.proofs.Checking.{all_keys_are, failing_is, unnamed_is}
use Rattle.wot_listing.proofs.Failing.{fault_more}
use Rattle.wot_listing.proofs.Sound.{IsFpr, IsSoundBlock, cert_added, cert_sound, fresh_sound, holds, sub_sound, user_sound, with_fpr_sound}
use Rattle.wot_listing.proofs.Stepping.{by_lines, progress_next}

-- a key in its place
abbrev pub IsSoundKey : ℕ → Key → Type 0
IsSoundKey id key = IsWellFormed key × (key_id_of key.fpr ≡ id)

abbrev pub AreSoundKeys : Keyring → Type 0
AreSoundKeys keys = (q : ℕ) (key : Key) → finmap.get keys q ≡ Some key → IsSoundKey q key

abbrev IsSoundOpen : Option KeyBlock → Type 0
IsSoundOpen None = Unit {0}
IsSoundOpen (Some b) = IsSoundBlock b

-- what is kept of a listing without a fault
pub record IsSound (s : SoFar) : Type 0 where
  pub keys : AreSoundKeys s.keys
  pub block : IsSoundOpen s.block

named_fpr : (id : ℕ) (o : Option (List ℕ)) → IsFpr id o → is_none o ≡ false → IsFprLength (unwrap_or o []) × (key_id_of (unwrap_or o []) ≡ id)
named_fpr id None h e = cc
named_fpr id (Some fpr) h e = h

finished_sound : (b : KeyBlock) → IsSoundBlock b → is_none b.fpr ≡ false → IsSoundKey b.primary.id (key_at_end b)
finished_sound b h named =
    let fpr = named_fpr b.primary.id b.fpr h.fpr named in (
      record {
        fpr = fpr.0;
        caps = h.caps;
        few_users = h.users.few;
        few_certs = omega (arith, h.counted, h.few_certs);
        distinct = h.users.distinct;
        each = subst (λ id. All (IsUser id) (users_of b)) (sym fpr.1) h.users.each;
        marks = h.users.marks;
      },
      fpr.1,
    )

inserted_at : (t : Bool) (q id : ℕ) (key new : Key) (o : Option Key) → (q == id) ≡ t → IsSoundKey id new → ((k : Key) → o ≡ Some k → IsSoundKey q k) → cond t (Some new) o ≡ Some key → IsSoundKey q key
inserted_at true q id key new o is sound h e =
    let same : q ≡ id = (Decides-eqb q id).0 is in
    let k : new ≡ key = cc in
    subst (λ n. IsSoundKey n key) (sym same) (subst (IsSoundKey id) k sound)
inserted_at false q id key new o is sound h e = h key e

-- the keys with the open block's
pub closed_sound : (keys : Keyring) (o : Option KeyBlock) → AreSoundKeys keys → IsSoundOpen o → is_unnamed o ≡ false → AreSoundKeys (with_block keys o)
closed_sound keys None h b named = h
closed_sound keys (Some b) h sound named = λ q key e.
    inserted_at (q == b.primary.id) q b.primary.id key (key_at_end b) (finmap.get keys q) refl (finished_sound b sound named) (h q)
    (ap (λ t. cond t (Some (key_at_end b)) (finmap.get keys q)) (sym (unsigned_tied q b.primary.id)) ∙ sym (finmap.get-insert nat_cmp_total keys b.primary.id (key_at_end b) q) ∙ e)

fpr_fed : (o : Option KeyBlock) (line : Line) → IsSoundOpen o → first_failing (in_open o (λ b. if b.wants_fpr then fpr_checks b.primary.id line else [])) ≡ None → IsSoundOpen (option_map (with_fpr line) o)
fpr_fed None line h passes = tt
fpr_fed (Some b) line h passes = with_fpr_sound line b h passes

user_fed : (o : Option KeyBlock) (kind : UserKind) (line : Line) → IsSoundOpen o
    → first_failing (in_open o (λ b. user_checks line ++ (repeats_user b (user_at kind b.primary.revoked line), RepeatedUser) ∷ (nat_le most_users (length (users_of b)), LimitReached UsersLimit) ∷ [])) ≡ None
    → IsSoundOpen (option_map (with_user kind line) o)
user_fed None kind line h passes = tt
user_fed (Some b) kind line h passes =
    let long = holds (has_fewer 10 line) _ _ passes in
    let made = holds (is_bad_date 6 line) _ _ long.1 in
    let expires = holds (is_bad_date 7 line) _ _ made.1 in
    let quote = holds (is_bad_quote 10 line) _ _ expires.1 in
    let new_one = holds (repeats_user b (user_at kind b.primary.revoked line)) _ _ quote.1 in
    let room = holds (nat_le most_users (length (users_of b))) _ _ new_one.1 in
    user_sound kind line b h new_one.0 room.0

sub_fed : (o : Option KeyBlock) → IsSoundOpen o → IsSoundOpen (option_map at_sub o)
sub_fed None h = tt
sub_fed (Some b) h = sub_sound b h

sig_fed : (s : SoFar) (line : Line) (o : Option KeyBlock) (t : Bool) → s.block ≡ o → is_kept_in o line ≡ t → IsSound s
    → first_failing (in_open o (λ b. if is_some b.user && is_good line then sig_checks b.primary.id b.certs line else [])) ≡ None → IsSound (with_sig s line t)
sig_fed s line o false e k h passes = record { keys = h.keys; block = h.block }
sig_fed s line None true e k h passes = cc
sig_fed s line (Some b) true e k h passes =
    let kept = and_parts (is_some b.user) (certifies b.primary.id line) k in
    let good = (and_parts (is_good line) (is_kept_class (class_at line)) (and_parts (is_good line && is_kept_class (class_at line)) (not (key_id_at line == b.primary.id)) kept.1).0).0 in
    let checks : first_failing (if is_some b.user && is_good line then sig_checks b.primary.id b.certs line else []) ≡ first_failing (sig_checks b.primary.id b.certs line) = (λ i. first_failing (if kept.0 i && good i then sig_checks b.primary.id b.certs line else [])) in
    let cert = cert_sound line b.primary.id b.certs kept.1 (sym checks ∙ passes) in
    record {
      keys = h.keys;
      block = subst (λ o. IsSoundOpen (option_map (with_cert (cert_of line)) o)) (sym e) (cert_added b (cert_of line) kept.0 cert.0 cert.1 (subst IsSoundOpen e h.block));
    }

fed_sound : (k : RecordKind) (s : SoFar) (line : Line) → IsSound s → first_failing (checks_in k s line) ≡ None → IsSound (after_kind k s line)
fed_sound Primary s line h passes = let named = holds (is_unnamed s.block) _ _ passes in record { keys = closed_sound s.keys s.block h.keys h.block named.0; block = fresh_sound line }
fed_sound Foreign s line h passes = let named = holds (is_unnamed s.block) _ _ passes in record { keys = closed_sound s.keys s.block h.keys h.block named.0; block = tt }
fed_sound Fingerprint s line h passes = record { keys = h.keys; block = fpr_fed s.block line h.block passes }
fed_sound (UserId kind) s line h passes = record { keys = h.keys; block = user_fed s.block kind line h.block passes }
fed_sound Subkey s line h passes = record { keys = h.keys; block = sub_fed s.block h.block }
fed_sound Signature s line h passes = sig_fed s line s.block (is_kept_in s.block line) refl refl h passes
fed_sound Other s line h passes = h

nothing_kept : IsSound (progress_of [])
unfolding progress_of
nothing_kept = record { keys = λ q key e. absurd (let f : ◌≡◌ {A = Option Key} None (Some key) = sym (finmap.get-empty nat_cmp q) ∙ e in cc); block = tt }

line_sound : (lines : List Line) (line : Line) → (fault lines ≡ None → IsSound (progress_of lines)) → fault (lines ++ line ∷ []) ≡ None → IsSound (progress_of (lines ++ line ∷ []))
line_sound lines line ih e =
    let parts = both_none (fault lines) (option_map (fault_at (length lines + 1)) (failed_check lines line)) (sym (fault_more lines line) ∙ e) in
    let passes = sym (failing_is lines line) ∙ map_none (fault_at (length lines + 1)) (failed_check lines line) parts.1 in
    let after_kind = fed_sound (kind_of line) (progress_of lines) line (ih parts.0) passes in
    let after : IsSound (after_line (progress_of lines) line) = record { keys = after_kind.keys; block = after_kind.block } in
    subst IsSound (sym (progress_next lines line)) after

pub sound : (lines : List Line) → fault lines ≡ None → IsSound (progress_of lines)
sound = by_lines (λ lines. fault lines ≡ None → IsSound (progress_of lines)) (λ _. nothing_kept) line_sound

-- the keys of a listing that spells
at_end : (b : Bool) (f : ListingFault) → (if b then Some f else None) ≡ None → cond b (Some NoFingerprint) None ≡ None
at_end true f e = cc
at_end false f e = refl

all_sound : (lines : List Line) → fault_at_end lines ≡ None → AreSoundKeys (keys_of (blocks lines))
all_sound lines e =
    let parts = both_none (fault lines) (if lacks_fingerprint (open_block lines) then Some (fault_at (length lines + 1) NoFingerprint) else None) e in
    let named = sym (unnamed_is lines) ∙ (holds (lacks_fingerprint (open_block lines)) NoFingerprint None (at_end (lacks_fingerprint (open_block lines)) (fault_at (length lines + 1) NoFingerprint) parts.1)).0 in
    let s = sound lines parts.0 in
    subst AreSoundKeys (sym (all_keys_are lines)) (closed_sound (progress_of lines).keys (progress_of lines).block s.keys s.block named)

-- an entry is found at its key, where keys rise
less_at : (o : Ordering) → is_lt o ≡ true → o ≡ Less
less_at Less e = refl
less_at Equal e = cc
less_at Greater e = cc

differs : (x y : ℕ) → is_lt (nat_cmp x y) ≡ true → eq_by_cmp nat_cmp x y ≡ false
differs x y e = ap is_eq (less_at (nat_cmp x y) e)

not_below : (x : ℕ) (es : List (ℕ × Key)) → below_all nat_cmp x es ≡ true → find nat_cmp x es ≡ None
not_below x [] h = refl
not_below x (e ∷ es) h =
    let parts = and_parts (is_lt (nat_cmp x e.0)) (below_all nat_cmp x es) h in
    ap (λ t. cond t (Some e.1) (find nat_cmp x es)) (differs x e.0 parts.0) ∙ not_below x es parts.1

later : (t : Bool) (q x : ℕ) (v key : Key) (o p : Option Key) → eq_by_cmp nat_cmp q x ≡ t → (q ≡ x → o ≡ p) → p ≡ None → o ≡ Some key → cond t (Some v) o ≡ Some key
later true q x v key o p e same none found = absurd (let is = (Decides-eqb q x).0 (sym (unsigned_tied q x) ∙ e) in let f : ◌≡◌ {A = Option Key} None (Some key) = sym (same is ∙ none) ∙ found in cc)
later false q x v key o p e same none found = found

each_sound : (es : List (ℕ × Key)) → is_sorted nat_cmp es ≡ true → ((q : ℕ) (key : Key) → find nat_cmp q es ≡ Some key → IsSoundKey q key) → All (λ e. IsSoundKey e.0 e.1) es
each_sound [] h f = All-nil _
each_sound (e ∷ es) h f =
    let parts = and_parts (below_all nat_cmp e.0 es) (is_sorted nat_cmp es) h in
    let self = unsigned_tied e.0 e.0 ∙ (Decides-eqb e.0 e.0).1 refl in
    All-cons (λ e. IsSoundKey e.0 e.1) e es
    (f e.0 e.1 (ap (λ t. cond t (Some e.1) (find nat_cmp e.0 es)) self))
    (each_sound es parts.1 (λ q key found. f q key (later (eq_by_cmp nat_cmp q e.0) q e.0 e.1 key (find nat_cmp q es) (find nat_cmp e.0 es) refl (λ is. ap (λ n. find nat_cmp n es) is) (not_below e.0 es parts.0) found)))

all_less : (x : ℕ) (es : List (ℕ × Key)) → below_all nat_cmp x es ≡ true → AllByRecursion (λ y. nat_cmp x y ≡ Less) (map (λ e. e.0) es)
all_less x [] h = tt
all_less x (e ∷ es) h = let parts = and_parts (is_lt (nat_cmp x e.0)) (below_all nat_cmp x es) h in (less_at (nat_cmp x e.0) parts.0, all_less x es parts.1)

strictly : (es : List (ℕ × Key)) → is_sorted nat_cmp es ≡ true → IsStrictlySortedBy nat_cmp (map (λ e. e.0) es)
unfolding IsStrictlySortedBy
strictly [] h = tt
strictly (e ∷ es) h = let parts = and_parts (below_all nat_cmp e.0 es) (is_sorted nat_cmp es) h in (all_less e.0 es parts.0, strictly es parts.1)

ids_are : (es : List (ℕ × Key)) → All (λ e. IsSoundKey e.0 e.1) es → map (λ key. key_id_of key.fpr) (map (λ e. e.1) es) ≡ map (λ e. e.0) es
ids_are [] h = refl
ids_are (e ∷ es) h =
    let id = (All-head (λ e. IsSoundKey e.0 e.1) e es h).1 in
    let rest = ids_are es (All-tail (λ e. IsSoundKey e.0 e.1) e es h) in
    λ i. id i ∷ rest i

good_values : (m : Keyring) → AreSoundKeys m → AreImportable (finmap.values m)
good_values m h =
    let es = finmap.entries m in
    let sorted = true_from_T (is_sorted nat_cmp es) (finmap.entries_sorted m) in
    let each = each_sound es sorted (λ q key found. h q key (finmap.get-entries m q ∙ found)) in
    record {
      each = All-map IsWellFormed (λ e. e.1) es (λ k d below. (each k d below).0);
      rising = subst IsStrictlyIncreasing (sym (ids_are es each)) (IsStrictlyIncreasing-from_sorted (map (λ e. e.0) es) (strictly es sorted));
    }

-- what a listing spells may be imported
pub listed : (lines : List Line) (keys : List Key) (kept passed : ℕ) → Spells lines keys kept passed → AreImportable keys
listed lines keys kept passed h = subst AreImportable (sym h.keys_are) (good_values (keys_of (blocks lines)) (all_sound lines h.faultless))
