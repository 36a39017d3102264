-- A printed line has the values that were printed.
use Rattle.std.proofs.Common.{◌≡◌, ℕ, ◌^◌, ◌<◌, ◌==◌, Bool, true, false, not, nat_lt, List, [], ◌∷◌, length, refl, ap, ◌∙◌, arith, Option, Some, None, slice_index, codes, decimal}
use Rattle.std.specs.Prelude.{if◌then◌else◌, unwrap_or, is_none, filter, slice_get, ◌++◌, IfSome}
use Rattle.std.specs.List.{list_all}
use Rattle.std.proofs.lemmas.Bool.{cond-false, ne_eqb, eq-eqb, le-ltb}
use Rattle.hex.specs.Hex.{encode_upper}
use Rattle.wot_types.specs.declared.cert.Cert.{Cert}
use Rattle.wot_types.specs.declared.key.Key.{Key}
use Rattle.wot_types.specs.declared.user.User.{User}
use Rattle.wot_types.specs.declared.user.UserKind.{UserKind}
use Rattle.wot_types.specs.declared.user.UserKind.TheVariants.{Uid, Uat}
use Rattle.wot_types.specs.declared.fault.ListingWhat.TheVariants.{ShortRecord, BadNumber, BadDate, BadHex, BadQuote, KeyIdDiffers, BadTrustField, LimitReached}
use Rattle.wot_types.specs.declared.limit.Limit.TheVariants.{Scope as ScopeLimit}
use Rattle.wot_types.specs.declared.record.RecordKind.TheVariants.{Primary, Fingerprint, UserId, Signature}
use Rattle.wot_types.specs.Dates.{date_or_0}
use Rattle.wot_types.specs.Fields.{field, has_fewer}
use Rattle.wot_types.specs.Fingerprint.{IsFprLength, fingerprint, key_id_of}
use Rattle.wot_types.specs.Numbers.{depth_and_amount, number_or_0}
use Rattle.wot_types.specs.Quotes.{printed_text, text_of_quoted}
use Rattle.wot_types.specs.Listing.{cert_checks, first_failing, fpr_checks, pub_checks, user_checks}
use Rattle.wot_types.specs.Limits.{longest_scope}
use Rattle.wot_types.specs.Printing.{cert_name, class_text, depth_text, key_id_text, kind_text, scope_text}
use Rattle.wot_types.specs.Records.{begins_with, capabilities_at, cert_of, class_of, date_at, fingerprint_at, hash_at, is_capability, is_good, is_hash_byte, is_local_at, is_revoked_at, key_id, key_id_at, kind_of, kind_of_name, number_at, scope_of, text_at}
use Rattle.wot_types.specs.WellFormed.{IsScope}
use Rattle.wot_print_laws.specs.Fits.{FitsCert, FitsKey, FitsUser, IsFprOfBytes, IsScopeOfBytes}
use Rattle.wot_print_laws.proofs.Parts.{AllInner, IsInner, ended, field_is, fields_are}
use Rattle.wot_print_laws.proofs.Texts.{are_bytes, class_of-text, depth_and_amount-text, filter_all, fingerprint-text, inner_class, inner_depth, inner_key_id, inner_printed, inner_scope, is_local-text, key_id-text, text_of_quoted-printed}
use Rattle.wot_print_laws.proofs.Values.{date_or_0-decimal, date_or_0-expiry, expiry_text, inner_decimal, inner_expiry, inner_hash, inner_hex, number_or_0-decimal}

-- ---- `pub`

-- a `pub` line with this letter, these capabilities and this ownertrust
abbrev pub pub_parts : List ℕ → List ℕ → List ℕ → ℕ → Key → List (List ℕ)
pub_parts letter trust caps id key =
    codes "pub" ∷ letter ∷ decimal key.bits ∷ decimal key.algo ∷ key_id_text id ∷ decimal key.made ∷ expiry_text key.expires
    ∷ [] ∷ trust ∷ [] ∷ [] ∷ caps ∷ []

-- what a `pub` line says of the key with this key ID
pub record IsPub (id : ℕ) (key : Key) (line : List ℕ) : Type 0 where
  pub kind : kind_of line ≡ Primary
  pub own_id : key_id_at line ≡ id
  pub passes : first_failing (pub_checks line) ≡ None
  pub bits : number_at 3 line ≡ key.bits
  pub algo : number_at 4 line ≡ key.algo
  pub made : date_at 6 line ≡ key.made
  pub expires : date_at 7 line ≡ key.expires
  pub revoked : is_revoked_at line ≡ key.revoked
  pub caps : capabilities_at line ≡ key.caps

pub pub_inner : (letter trust caps : List ℕ) (id : ℕ) (key : Key) → IsInner letter → IsInner trust → IsInner caps → FitsKey key → AllInner (pub_parts letter trust caps id key)
pub_inner letter trust caps id key l t c h =
    (refl, (l, (inner_decimal key.bits (omega (arith, h.bits)), (inner_decimal key.algo (omega (arith, h.algo)), (inner_key_id id, (inner_decimal key.made (omega (arith, h.made)), (inner_expiry key.expires (omega (arith, h.expires)), (refl, (t, (refl, (refl, (c, tt))))))))))))

pub pub_says : (letter trust caps : List ℕ) (id : ℕ) (key : Key) → IsInner letter → IsInner trust → IsInner caps → FitsKey key → id < 2 ^ 64
    → begins_with 114 letter ≡ key.revoked → filter is_capability caps ≡ key.caps
    → IsPub id key (ended 58 (pub_parts letter trust caps id key))
unfolding kind_of
pub_says letter trust caps id key l t c h small marked kept =
    let line : List ℕ = ended 58 (pub_parts letter trust caps id key) in
    let inner = pub_inner letter trust caps id key l t c h in
    let f : (n : ℕ) → _ = field_is (pub_parts letter trust caps id key) inner in
    let bits : number_or_0 (field 3 line) ≡ Some key.bits = ap number_or_0 (f 3) ∙ number_or_0-decimal key.bits h.bits in
    let algo : number_or_0 (field 4 line) ≡ Some key.algo = ap number_or_0 (f 4) ∙ number_or_0-decimal key.algo h.algo in
    let own : key_id (field 5 line) ≡ Some id = ap key_id (f 5) ∙ key_id-text id small in
    let made : date_or_0 (field 6 line) ≡ Some key.made = ap date_or_0 (f 6) ∙ date_or_0-decimal key.made h.made in
    let expires : date_or_0 (field 7 line) ≡ Some key.expires = ap date_or_0 (f 7) ∙ date_or_0-expiry key.expires h.expires in
    let size : has_fewer 6 line ≡ false = ap (λ l. nat_lt (length l) 6) (fields_are (pub_parts letter trust caps id key) inner) in
    record {
      kind = ap kind_of_name (f 1);
      own_id = ap (λ o. unwrap_or o 0) own;
      passes = λ i. first_failing ((size i, ShortRecord) ∷ (is_none (bits i), BadNumber) ∷ (is_none (algo i), BadNumber) ∷ (is_none (own i), BadHex) ∷ (is_none (made i), BadDate) ∷ (is_none (expires i), BadDate) ∷ []);
      bits = ap (λ o. unwrap_or o 0) bits;
      algo = ap (λ o. unwrap_or o 0) algo;
      made = ap (λ o. unwrap_or o 0) made;
      expires = ap (λ o. unwrap_or o 0) expires;
      revoked = ap (begins_with 114) (f 2) ∙ marked;
      caps = ap (filter is_capability) (f 12) ∙ kept;
    }

-- ---- `fpr`

abbrev pub fpr_parts : Key → List (List ℕ)
fpr_parts key = codes "fpr" ∷ [] ∷ [] ∷ [] ∷ [] ∷ [] ∷ [] ∷ [] ∷ [] ∷ encode_upper key.fpr ∷ []

pub record IsFpr (key : Key) (line : List ℕ) : Type 0 where
  pub kind : kind_of line ≡ Fingerprint
  pub passes : first_failing (fpr_checks (key_id_of key.fpr) line) ≡ None
  pub fpr : fingerprint_at line ≡ key.fpr

pub fpr_inner : (key : Key) → FitsKey key → AllInner (fpr_parts key)
fpr_inner key h = (refl, (refl, (refl, (refl, (refl, (refl, (refl, (refl, (refl, (inner_hex key.fpr h.fpr, tt))))))))))

pub fpr_says : (key : Key) → FitsKey key → IsFprLength key.fpr → IsFpr key (ended 58 (fpr_parts key))
unfolding kind_of
fpr_says key h sized =
    let line : List ℕ = ended 58 (fpr_parts key) in
    let f : (n : ℕ) → _ = field_is (fpr_parts key) (fpr_inner key h) in
    let fpr : fingerprint (field 10 line) ≡ Some key.fpr = ap fingerprint (f 10) ∙ fingerprint-text key.fpr sized (are_bytes key.fpr h.fpr) in
    let size : has_fewer 10 line ≡ false = ap (λ l. nat_lt (length l) 10) (fields_are (fpr_parts key) (fpr_inner key h)) in
    record {
      kind = ap kind_of_name (f 1);
      passes = (λ i. first_failing ((size i, ShortRecord) ∷ (is_none (fpr i), BadHex) ∷ (not (key_id_of (unwrap_or (fpr i) []) == key_id_of key.fpr), KeyIdDiffers) ∷ []))
          ∙ ap (λ b. first_failing ((not b, KeyIdDiffers) ∷ [])) (eq-eqb (key_id_of key.fpr) (key_id_of key.fpr) refl);
      fpr = ap (λ o. unwrap_or o []) fpr;
    }

-- ---- `uid` and `uat`

abbrev pub user_parts : List ℕ → User → List (List ℕ)
user_parts letter user =
    kind_text user.kind ∷ letter ∷ [] ∷ [] ∷ [] ∷ decimal user.made ∷ expiry_text user.expires ∷ user.hash ∷ [] ∷ printed_text user.text ∷ []

pub record IsUid (marked : Bool) (user : User) (line : List ℕ) : Type 0 where
  pub kind : kind_of line ≡ UserId user.kind
  pub passes : first_failing (user_checks line) ≡ None
  pub text : text_at 10 line ≡ user.text
  pub hash : hash_at line ≡ user.hash
  pub made : date_at 6 line ≡ user.made
  pub expires : date_at 7 line ≡ user.expires
  pub revoked : is_revoked_at line ≡ marked

inner_kind : (kind : UserKind) → IsInner (kind_text kind)
inner_kind Uid = refl
inner_kind Uat = refl

kind_read : (kind : UserKind) → kind_of_name (kind_text kind) ≡ UserId kind
kind_read Uid = refl
kind_read Uat = refl

pub user_inner : (letter : List ℕ) (user : User) → IsInner letter → FitsUser user → list_all is_hash_byte user.hash ≡ true → AllInner (user_parts letter user)
user_inner letter user l h hash =
    (inner_kind user.kind, (l, (refl, (refl, (refl, (inner_decimal user.made (omega (arith, h.made)), (inner_expiry user.expires (omega (arith, h.expires)), (inner_hash user.hash hash, (refl, (inner_printed user.text (are_bytes user.text h.text), tt))))))))))

pub user_says : (letter : List ℕ) (revoked : Bool) (user : User) → IsInner letter → FitsUser user → list_all is_hash_byte user.hash ≡ true
    → begins_with 114 letter ≡ revoked → IsUid revoked user (ended 58 (user_parts letter user))
unfolding kind_of
user_says letter revoked user l h hash marked =
    let line : List ℕ = ended 58 (user_parts letter user) in
    let inner = user_inner letter user l h hash in
    let f : (n : ℕ) → _ = field_is (user_parts letter user) inner in
    let made : date_or_0 (field 6 line) ≡ Some user.made = ap date_or_0 (f 6) ∙ date_or_0-decimal user.made h.made in
    let expires : date_or_0 (field 7 line) ≡ Some user.expires = ap date_or_0 (f 7) ∙ date_or_0-expiry user.expires h.expires in
    let text : text_of_quoted (field 10 line) ≡ Some user.text = ap text_of_quoted (f 10) ∙ text_of_quoted-printed user.text (are_bytes user.text h.text) in
    let size : has_fewer 10 line ≡ false = ap (λ l. nat_lt (length l) 10) (fields_are (user_parts letter user) inner) in
    record {
      kind = ap kind_of_name (f 1) ∙ kind_read user.kind;
      passes = λ i. first_failing ((size i, ShortRecord) ∷ (is_none (made i), BadDate) ∷ (is_none (expires i), BadDate) ∷ (is_none (text i), BadQuote) ∷ []);
      text = ap (λ o. unwrap_or o []) text;
      hash = ap (filter is_hash_byte) (f 8) ∙ filter_all is_hash_byte user.hash hash;
      made = ap (λ o. unwrap_or o 0) made;
      expires = ap (λ o. unwrap_or o 0) expires;
      revoked = ap (begins_with 114) (f 2) ∙ marked;
    }

-- ---- `sig` and `rev`

-- behind the class, where the issuer's fingerprint is named
abbrev pub issuer_fpr_parts : Option (List ℕ) → List (List ℕ)
issuer_fpr_parts None = []
issuer_fpr_parts (Some fpr) = [] ∷ encode_upper fpr ∷ []

abbrev cert_with : Cert → Option (List ℕ) → List (List ℕ)
cert_with cert named =
    cert_name cert ∷ codes "!" ∷ [] ∷ [] ∷ key_id_text cert.issuer ∷ decimal cert.made ∷ expiry_text cert.expires
    ∷ depth_text cert ∷ scope_text cert.scope ∷ [] ∷ class_text cert ∷ issuer_fpr_parts named

abbrev pub cert_parts : Cert → List (List ℕ)
cert_parts cert = cert_with cert cert.issuer_fpr

pub record IsSig (cert : Cert) (line : List ℕ) : Type 0 where
  pub kind : kind_of line ≡ Signature
  pub good : is_good line ≡ true
  pub long : has_fewer 11 line ≡ false
  pub class : class_of (field 11 line) ≡ Some cert.class
  pub issuer : key_id (field 5 line) ≡ Some cert.issuer
  pub passes : first_failing (cert_checks line) ≡ None
  pub value : cert_of line ≡ cert

inner_issuer_fpr : (named : Option (List ℕ)) → IsFprOfBytes named → AllInner (issuer_fpr_parts named)
inner_issuer_fpr None h = tt
inner_issuer_fpr (Some fpr) h = (refl, (inner_hex fpr h, tt))

inner_name : (b : Bool) → IsInner (if b then codes "rev" else codes "sig")
inner_name true = refl
inner_name false = refl

name_read : (b : Bool) → kind_of_name (if b then codes "rev" else codes "sig") ≡ Signature
name_read true = refl
name_read false = refl

pub cert_inner : (cert : Cert) → FitsCert cert → AllInner (cert_parts cert)
cert_inner cert h =
    (inner_name (cert.class == 48), (refl, (refl, (refl, (inner_key_id cert.issuer, (inner_decimal cert.made (omega (arith, h.made)), (inner_expiry cert.expires (omega (arith, h.expires)), (inner_depth cert h.depth h.amount, (inner_scope cert.scope h.scope, (refl, (inner_class cert h.class, inner_issuer_fpr cert.issuer_fpr h.issuer_fpr)))))))))))

long_with : (cert : Cert) (named : Option (List ℕ)) → nat_lt (length (cert_with cert named ++ [] ∷ [])) 11 ≡ false
long_with cert None = refl
long_with cert (Some fpr) = refl

named_back : (named : Option (List ℕ)) → IsFprOfBytes named → IfSome named IsFprLength → fingerprint (unwrap_or (slice_get (issuer_fpr_parts named ++ [] ∷ []) 1) []) ≡ named
named_back None h sized = refl
named_back (Some fpr) h sized = fingerprint-text fpr sized (are_bytes fpr h)

-- the text that a scope is read as
abbrev pub scope_bytes : Option (List ℕ) → List ℕ
scope_bytes scope = unwrap_or scope []

scope_read : (scope : Option (List ℕ)) → IsScopeOfBytes scope → text_of_quoted (scope_text scope) ≡ Some (scope_bytes scope)
scope_read None h = text_of_quoted-printed [] tt
scope_read (Some scope) h = text_of_quoted-printed scope (are_bytes scope h)

scope_back : (scope : Option (List ℕ)) → IsScope scope → scope_of (scope_bytes scope) ≡ scope
scope_back None h = refl
scope_back (Some scope) h = cond-false (length scope == 0) None (Some scope) (ne_eqb (length scope) 0 (λ z. omega (arith, h.0)))

scope_short : (scope : Option (List ℕ)) → IsScope scope → nat_lt longest_scope (length (scope_bytes scope)) ≡ false
scope_short None h = refl
scope_short (Some scope) h = le-ltb longest_scope (length scope) h.1

pub cert_says : (cert : Cert) → FitsCert cert → IsScope cert.scope → IfSome cert.issuer_fpr IsFprLength → IsSig cert (ended 58 (cert_parts cert))
unfolding kind_of
cert_says cert h sized long =
    let line : List ℕ = ended 58 (cert_parts cert) in
    let f : (n : ℕ) → _ = field_is (cert_parts cert) (cert_inner cert h) in
    let class : class_of (field 11 line) ≡ Some cert.class = ap class_of (f 11) ∙ class_of-text cert h.class in
    let issuer : key_id (field 5 line) ≡ Some cert.issuer = ap key_id (f 5) ∙ key_id-text cert.issuer h.issuer in
    let made : date_or_0 (field 6 line) ≡ Some cert.made = ap date_or_0 (f 6) ∙ date_or_0-decimal cert.made h.made in
    let expires : date_or_0 (field 7 line) ≡ Some cert.expires = ap date_or_0 (f 7) ∙ date_or_0-expiry cert.expires h.expires in
    let trust : depth_and_amount (field 8 line) ≡ Some (cert.depth, cert.amount) = ap depth_and_amount (f 8) ∙ depth_and_amount-text cert h.depth h.amount in
    let scope : text_of_quoted (field 9 line) ≡ Some (scope_bytes cert.scope) = ap text_of_quoted (f 9) ∙ scope_read cert.scope h.scope in
    let back : scope_of (unwrap_or (text_of_quoted (field 9 line)) []) ≡ cert.scope = ap (λ o. scope_of (unwrap_or o [])) scope ∙ scope_back cert.scope sized in
    let named : fingerprint (field 13 line) ≡ cert.issuer_fpr = ap fingerprint (f 13) ∙ named_back cert.issuer_fpr h.issuer_fpr long in
    let local : is_local_at line ≡ cert.local = ap (λ t. slice_index t 2 == 108) (f 11) ∙ is_local-text cert in
    record {
      kind = ap kind_of_name (f 1) ∙ name_read (cert.class == 48);
      good = ap (begins_with 33) (f 2);
      long = ap (λ l. nat_lt (length l) 11) (fields_are (cert_parts cert) (cert_inner cert h)) ∙ long_with cert cert.issuer_fpr;
      class = class;
      issuer = issuer;
      passes = (λ i. first_failing ((is_none (made i), BadDate) ∷ (is_none (expires i), BadDate) ∷ (is_none (trust i), BadTrustField) ∷ (is_none (scope i), BadQuote) ∷ (nat_lt longest_scope (length (unwrap_or (scope i) [])), LimitReached ScopeLimit) ∷ []))
          ∙ ap (λ b. first_failing ((b, LimitReached ScopeLimit) ∷ [])) (scope_short cert.scope sized);
      value = λ i. record {
        issuer = unwrap_or (issuer i) 0;
        class = unwrap_or (class i) 0;
        local = local i;
        made = unwrap_or (made i) 0;
        expires = unwrap_or (expires i) 0;
        depth = (unwrap_or (trust i) (0, 0)).0;
        amount = (unwrap_or (trust i) (0, 0)).1;
        scope = back i;
        issuer_fpr = named i;
      };
    }
