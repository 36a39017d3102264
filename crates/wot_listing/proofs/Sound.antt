-- Keys of a listing without a fault are well formed: what is kept of its lines is sound.
use Rattle.std.proofs.Common.{◌≡◌, ℕ, Bool, true, false, cond, not, ◌+◌, ◌*◌, ◌<◌, ◌≤◌, ◌||◌, ◌&&◌, List, [], ◌∷◌, ◌++◌, filter, length, Option, Some, None, Result, Ok, Err, is_some, is_none, refl, sym, ap, ◌∙◌, subst, arith, inl, inr}
use Rattle.std.specs.Prelude.{◌==◌, All, IfSome, nat_le, nat_lt, option_map, option_to_list, unwrap_or, if◌then◌else◌}
use Rattle.std.specs.List.{list_all, list_any}
use Rattle.std.specs.Result.{result_ok}
use Rattle.std.proofs.lemmas.Bool.{false≢true, and_parts, not-true, or_parts}
use Rattle.std.proofs.lemmas.Bool.Decides.{Decides-eqb, nat_tests}
use Rattle.std.proofs.lemmas.List.{append-nil, length-append}
use Rattle.std.proofs.lemmas.List.Elements.{All-cons, All-head, All-nil, All-push, All-tail}
use Rattle.std.proofs.lemmas.List.Sums.{sum_by-append}
use Rattle.hex.specs.Hex.{decode_of}
use Rattle.hex.specs.declared.error.FromHexError.{FromHexError}
use Rattle.hex.proofs.HexLemmas.{decode_of-ok}
use Rattle.wot_types.specs.declared.cert.Cert.{Cert}
use Rattle.wot_types.specs.declared.user.User.{User}
use Rattle.wot_types.specs.declared.user.UserKind.{UserKind}
use Rattle.wot_types.specs.declared.limit.Limit.TheVariants.{Certs as CertsLimit}
use Rattle.wot_types.specs.declared.fault.ListingWhat.{ListingWhat}
use Rattle.wot_types.specs.declared.fault.ListingWhat.TheVariants.{BadHex, LimitReached}
use Rattle.wot_types.specs.Fingerprint.{IsFprLength, fingerprint, key_id_of}
use Rattle.wot_types.specs.Fields.{field, has_fewer}
use Rattle.wot_types.specs.Listing.{Line, cert_checks, certifies, first_failing, fpr_checks, is_bad_date, is_bad_quote, is_same_user, issued_checks, sig_checks, user_at}
use Rattle.wot_types.specs.Limits.{longest_scope, most_certs, most_users}
use Rattle.wot_types.specs.Numbers.{depth_and_amount}
use Rattle.wot_types.specs.Records.{cert_of, class_at, class_of, fingerprint_at, is_capability, is_good, is_hash_byte, is_kept_class, is_revoked_at, key_id, key_id_at, text_at}
use Rattle.wot_types.specs.Keyring.{user_certs}
use Rattle.wot_types.specs.WellFormed.{AreDistinctUsers, IsCert, IsScope, IsUser}
use Rattle.wot_listing.specs.declared.key_block.KeyBlock.{KeyBlock}
use Rattle.wot_listing.specs.Machine.{and_cert, at_sub, at_primary, primary_of, repeats_user, users_of, with_cert, with_fpr, with_user}

-- the fingerprint of a block, where it has come
abbrev pub IsFpr : ℕ → Option (List ℕ) → Type 0
IsFpr id None = Unit {0}
IsFpr id (Some fpr) = IsFprLength fpr × (key_id_of fpr ≡ id)

-- user IDs that a key with this key ID may have
pub record AreSound (id : ℕ) (revoked : Bool) (users : List User) : Type 0 where
  pub few : length users ≤ most_users
  pub distinct : AreDistinctUsers users
  pub each : All (IsUser id) users
  pub marks : revoked ≡ true → All (λ user. user.revoked ≡ false) users

-- what is kept of a block may become a key
pub record IsSoundBlock (b : KeyBlock) : Type 0 where
  pub fpr : IsFpr b.primary.id b.fpr
  pub caps : list_all is_capability b.primary.caps ≡ true
  pub users : AreSound b.primary.id b.primary.revoked (users_of b)
  pub counted : user_certs (users_of b) ≡ b.certs
  pub few_certs : b.certs ≤ most_certs

not_false : (b : Bool) → not b ≡ false → b ≡ true
not_false true h = refl
not_false false h = cc

-- the tests of a check that passes, and of those after it
pub holds : (b : Bool) (w : ListingWhat) (rest : Option ListingWhat) → cond b (Some w) rest ≡ None → (b ≡ false) × (rest ≡ None)
holds true w rest e = cc
holds false w rest e = (refl, e)

pub filtered : (p : ℕ → Bool) (f : List ℕ) → list_all p (filter p f) ≡ true
filtered p [] = refl
filtered p (b ∷ f) = elim (p b) as (λ t. p b ≡ t → list_all p (cond t (b ∷ filter p f) (filter p f)) ≡ true) [
  | true ↦ λ e. ap (λ t. t && list_all p (filter p f)) e ∙ filtered p f
  | false ↦ λ e. filtered p f
] refl

-- a block at its `pub`
pub fresh_sound : (line : Line) → IsSoundBlock (at_primary (primary_of line))
fresh_sound line = record {
  fpr = tt;
  caps = filtered is_capability (field 12 line);
  users = record { few = omega arith; distinct = tt; each = All-nil _; marks = λ _. All-nil _ };
  counted = refl;
  few_certs = omega arith;
}

ok_of : (d : Result (List ℕ) FromHexError) (bytes : List ℕ) → result_ok d ≡ Some bytes → d ≡ Ok bytes
ok_of (Ok b) bytes e = cc
ok_of (Err x) bytes e = cc

length_of : (text bytes : List ℕ) → result_ok (decode_of text) ≡ Some bytes → length text ≡ 2 * length bytes
length_of text bytes e = (decode_of-ok text bytes (ok_of (decode_of text) bytes e)).2

fpr_at : (a b : Bool) (text bytes : List ℕ) → (length text == 40) ≡ a → (length text == 64) ≡ b → cond (a || b) (result_ok (decode_of text)) None ≡ Some bytes → IsFprLength bytes
fpr_at true b text bytes p q e = inl (let n : length text ≡ 40 = (Decides-eqb (length text) 40).0 p in omega (arith, length_of text bytes e))
fpr_at false true text bytes p q e = inr (let n : length text ≡ 64 = (Decides-eqb (length text) 64).0 q in omega (arith, length_of text bytes e))
fpr_at false false text bytes p q e = cc

fpr_length : (text bytes : List ℕ) → fingerprint text ≡ Some bytes → IsFprLength bytes
fpr_length text bytes e = fpr_at _ _ text bytes refl refl e

some_of : (o : Option (List ℕ)) → is_none o ≡ false → o ≡ Some (unwrap_or o [])
some_of None e = cc
some_of (Some x) e = refl

-- an `fpr` whose checks pass
pub fpr_sound : (line : Line) (id : ℕ) → first_failing (fpr_checks id line) ≡ None → IsFpr id (Some (fingerprint_at line))
fpr_sound line id passes =
    let long = holds (has_fewer 10 line) _ _ passes in
    let read = holds (is_none (fingerprint (field 10 line))) _ _ long.1 in
    let same = holds (not (key_id_of (fingerprint_at line) == id)) _ _ read.1 in
    (fpr_length (field 10 line) (fingerprint_at line) (some_of (fingerprint (field 10 line)) read.0), (Decides-eqb (key_id_of (fingerprint_at line)) id).0 (not_false _ same.0))

fpr_taken : (line : Line) (id : ℕ) (w : Bool) (o : Option (List ℕ)) → IsFpr id o → first_failing (if w then fpr_checks id line else []) ≡ None → IsFpr id (if w then Some (fingerprint_at line) else o)
fpr_taken line id true o h passes = fpr_sound line id passes
fpr_taken line id false o h passes = h

pub with_fpr_sound : (line : Line) (b : KeyBlock) → IsSoundBlock b → first_failing (if b.wants_fpr then fpr_checks b.primary.id line else []) ≡ None → IsSoundBlock (with_fpr line b)
with_fpr_sound line b h passes =
    record { fpr = fpr_taken line b.primary.id b.wants_fpr b.fpr h.fpr passes; caps = h.caps; users = h.users; counted = h.counted; few_certs = h.few_certs }

distinct_push : (users : List User) (new : User) → AreDistinctUsers users → list_any (λ earlier. is_same_user earlier new) users ≡ false → AreDistinctUsers (users ++ new ∷ [])
distinct_push [] new h e = (All-nil _, tt)
distinct_push (user ∷ users) new h e = (
  All-push (λ other. is_same_user user other ≡ false) users new h.0 (or_parts (is_same_user user new) (list_any (λ earlier. is_same_user earlier new) users) e).0,
  distinct_push users new h.1 (or_parts (is_same_user user new) (list_any (λ earlier. is_same_user earlier new) users) e).1,
)

below : (a b : ℕ) → nat_le a b ≡ false → b < a
below a b h = grind (arith, nat_tests)

up_to : (a b : ℕ) → nat_lt a b ≡ false → b ≤ a
up_to a b h = grind (arith, nat_tests)

no_mark : (a revoked : Bool) → revoked ≡ true → (a && not revoked) ≡ false
no_mark true revoked e = ap not e
no_mark false revoked e = refl

-- a user ID whose checks pass
pub user_sound : (kind : UserKind) (line : Line) (b : KeyBlock) → IsSoundBlock b → repeats_user b (user_at kind b.primary.revoked line) ≡ false → nat_le most_users (length (users_of b)) ≡ false
    → IsSoundBlock (with_user kind line b)
user_sound kind line b h new_one room =
    let new = user_at kind b.primary.revoked line in
    let known : IsUser b.primary.id new = record { hash = filtered is_hash_byte (field 8 line); certs = All-nil _ } in
    record {
      fpr = h.fpr;
      caps = h.caps;
      users = record {
        few = omega (arith, below most_users (length (users_of b)) room, length-append (users_of b) (new ∷ []));
        distinct = distinct_push (users_of b) new h.users.distinct new_one;
        each = All-push (IsUser b.primary.id) (users_of b) new h.users.each known;
        marks = λ e. All-push (λ user. user.revoked ≡ false) (users_of b) new (h.users.marks e) (no_mark (is_revoked_at line) b.primary.revoked e);
      };
      counted = sum_by-append (λ user. length user.certs) (users_of b) (new ∷ []) ∙ omega (arith, h.counted);
      few_certs = h.few_certs;
    }

-- a `sub` ends the user ID
pub sub_sound : (b : KeyBlock) → IsSoundBlock b → IsSoundBlock (at_sub b)
sub_sound b h = record {
  fpr = h.fpr;
  caps = h.caps;
  users = subst (AreSound b.primary.id b.primary.revoked) (sym (append-nil (users_of b))) h.users;
  counted = ap user_certs (append-nil (users_of b)) ∙ h.counted;
  few_certs = h.few_certs;
}

-- the last user ID is replaced
all_replaced : (P : User → Type 0) (users : List User) (u v : User) → (P u → P v) → All P (users ++ u ∷ []) → All P (users ++ v ∷ [])
all_replaced P [] u v f h = All-cons P v [] (f (All-head P u [] h)) (All-nil P)
all_replaced P (user ∷ users) u v f h = All-cons P user (users ++ v ∷ []) (All-head P user (users ++ u ∷ []) h) (all_replaced P users u v f (All-tail P user (users ++ u ∷ []) h))

distinct_replaced : (users : List User) (u : User) (cert : Cert) → AreDistinctUsers (users ++ u ∷ []) → AreDistinctUsers (users ++ and_cert cert u ∷ [])
distinct_replaced [] u cert h = (All-nil _, tt)
distinct_replaced (user ∷ users) u cert h = (all_replaced (λ other. is_same_user user other ≡ false) users u (and_cert cert u) (λ p. p) h.0, distinct_replaced users u cert h.1)

certified_users : (id : ℕ) (revoked : Bool) (users : List User) (o : Option User) (cert : Cert) → IsCert id cert → AreSound id revoked (users ++ option_to_list o)
    → AreSound id revoked (users ++ option_to_list (option_map (and_cert cert) o))
certified_users id revoked users None cert c h = h
certified_users id revoked users (Some u) cert c h = record {
  few = omega (arith, h.few, length-append users (u ∷ []), length-append users (and_cert cert u ∷ []));
  distinct = distinct_replaced users u cert h.distinct;
  each = all_replaced (IsUser id) users u (and_cert cert u) (λ p. record { hash = p.hash; certs = All-push (IsCert id) u.certs cert p.certs c }) h.each;
  marks = λ e. all_replaced (λ user. user.revoked ≡ false) users u (and_cert cert u) (λ p. p) (h.marks e);
}

certified_count : (users : List User) (o : Option User) (cert : Cert) → is_some o ≡ true → user_certs (users ++ option_to_list (option_map (and_cert cert) o)) ≡ user_certs (users ++ option_to_list o) + 1
certified_count users None cert e = cc
certified_count users (Some u) cert e =
    sum_by-append (λ user. length user.certs) users (and_cert cert u ∷ [])
    ∙ omega (arith, length-append u.certs (cert ∷ []), sum_by-append (λ user. length user.certs) users (u ∷ []))

pub cert_added : (b : KeyBlock) (cert : Cert) → is_some b.user ≡ true → IsCert b.primary.id cert → b.certs < most_certs → IsSoundBlock b → IsSoundBlock (with_cert cert b)
cert_added b cert there c room h = record {
  fpr = h.fpr;
  caps = h.caps;
  users = certified_users b.primary.id b.primary.revoked b.users b.user cert c h.users;
  counted = certified_count b.users b.user cert there ∙ ap (λ n. n + 1) h.counted;
  few_certs = omega (arith, room);
}

scope_at : (text : List ℕ) (t : Bool) → (length text == 0) ≡ t → length text ≤ longest_scope → IsScope (if t then None else Some text)
scope_at text true e h = tt
scope_at text false e h = (grind (arith, nat_tests), h)

-- a fingerprint that is named has its length
named_length : (text : List ℕ) → IfSome (fingerprint text) IsFprLength
named_length text = elim (fingerprint text) as (λ o. fingerprint text ≡ o → IfSome o IsFprLength) [ None ↦ λ _. tt | Some bytes ↦ λ is. fpr_length text bytes is ] refl

-- a signature that is kept, and whose checks pass
pub cert_sound : (line : Line) (id certs : ℕ) → certifies id line ≡ true → first_failing (sig_checks id certs line) ≡ None → IsCert id (cert_of line) × (certs < most_certs)
cert_sound line id certs certified passes =
    let outer = and_parts (is_good line && is_kept_class (class_at line)) (not (key_id_at line == id)) certified in
    let kept = (and_parts (is_good line) (is_kept_class (class_at line)) outer.0).1 in
    let other : (key_id_at line == id) ≡ false = not-true (key_id_at line == id) outer.1 in
    let long = holds (has_fewer 11 line) _ _ passes in
    let classed = holds (is_none (class_of (field 11 line))) _ _ long.1 in
    let issued = holds (is_none (key_id (field 5 line))) _ _ (subst (λ t. first_failing (if t then (is_none (key_id (field 5 line)), BadHex) ∷ issued_checks id certs line else []) ≡ None) kept classed.1) in
    let made = holds (is_bad_date 6 line) _ _ (subst (λ t. first_failing (if t then [] else cert_checks line ++ (nat_le most_certs certs, LimitReached CertsLimit) ∷ []) ≡ None) other issued.1) in
    let expires = holds (is_bad_date 7 line) _ _ made.1 in
    let trust = holds (is_none (depth_and_amount (field 8 line))) _ _ expires.1 in
    let quote = holds (is_bad_quote 9 line) _ _ trust.1 in
    let size = holds (nat_lt longest_scope (length (text_at 9 line))) _ _ quote.1 in
    let room = holds (nat_le most_certs certs) _ _ size.1 in (
      record {
        by_another = λ e. false≢true (sym other ∙ (Decides-eqb (key_id_at line) id).1 e);
        class = kept;
        scope = scope_at (text_at 9 line) _ refl (up_to longest_scope (length (text_at 9 line)) size.0);
        issuer_fpr = named_length (field 13 line);
      },
      below most_certs certs room.0,
    )
