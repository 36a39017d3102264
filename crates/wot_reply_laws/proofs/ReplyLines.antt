-- The lines that are printed before a reply's last one: none of them ends the reply.
use Rattle.std.proofs.Common.{◌≡◌, ℕ, ◌+◌, ◌/◌, ◌%◌, ◌==◌, false, List, [], ◌∷◌, ◌++◌, append_assoc, append-nil, subst, refl, sym, ap, ◌∙◌, slice_index, nat_eq, All, Option, Some, None, codes, decimal}
use Rattle.std.specs.FinMap as finmap
use Rattle.std.specs.List.{flat_map, list_any}
use Rattle.std.specs.Option.{option_map_or}
use Rattle.std.proofs.lemmas.Bool.{and_left, cond_both, or_from}
use Rattle.std.proofs.lemmas.Grind.{flat_map-append}
use Rattle.std.proofs.lemmas.List.Elements.{All-head, All-tail}
use Rattle.std.proofs.lemmas.List.Folds.{list_any-append}
use Rattle.hex.specs.Hex.{encode_upper, encode_with, upper_digits}
use Rattle.wot_types.specs.declared.cert.Cert.{Cert}
use Rattle.wot_types.specs.declared.change.Change.{Change}
use Rattle.wot_types.specs.declared.change.Loss.{Loss}
use Rattle.wot_types.specs.declared.count.Count.{Count}
use Rattle.wot_types.specs.declared.key.Key.{Key}
use Rattle.wot_types.specs.declared.letter.Letter.{Letter}
use Rattle.wot_types.specs.declared.letter.Letter.TheVariants.{Dash, Q, M, F, U, R, E}
use Rattle.wot_types.specs.declared.options.Options.{Options}
use Rattle.wot_types.specs.declared.ownertrust.Ownertrust.{Ownertrust}
use Rattle.wot_types.specs.declared.row.Row.{Row}
use Rattle.wot_types.specs.declared.user.User.{User}
use Rattle.wot_types.specs.declared.user.UserKind.{UserKind}
use Rattle.wot_types.specs.declared.user.UserKind.TheVariants.{Uid, Uat}
use Rattle.wot_types.specs.State.{State}
use Rattle.wot_types.specs.Candidates.{RowMap}
use Rattle.wot_types.specs.Numbers.{capped}
use Rattle.wot_types.specs.Ownertrust.{ownertrust_line, ownertrust_number}
use Rattle.wot_types.specs.Printing.{capabilities_text, cert_line, class_text, depth_text, ended_field, expiry_field, fpr_line, issuer_fpr_text, key_id_text, kind_text, letter_text, model_text, number_field, pub_line, scope_text, tru_line, user_line}
use Rattle.wot_types.specs.Quotes.{printed_text}
use Rattle.wot_types.specs.Records.{is_capability, is_hash_byte}
use Rattle.wot_types.specs.Refusals.{reply_line}
use Rattle.wot_types.specs.SupposingText.{change_line, loss_line}
use Rattle.wot_types.specs.Tally.{letter_count, tally_line}
use Rattle.wot_types.specs.Trust.{trust_text}
use Rattle.wot_types.specs.WhyText.{by_line, count_fields, cut_line, row_line, why_line}
use Rattle.wot_types.specs.WellFormed.{IsUser, IsWellFormed}
use Rattle.wot_reply_laws.specs.Replies.{ends_reply}
use Rattle.wot_reply_laws.proofs.PlainTexts.{ArePlain, IsPlain, at_place, joined, plain_append, plain_capabilities, plain_class, plain_class_text, plain_decimal, plain_depth, plain_expiry, plain_field, plain_joined, plain_key_id, plain_letter, plain_model, plain_number, plain_printed, plain_scope, plain_trust, plain_upper}

-- whole lines, none of which ends a reply
pub record GoesOn (text : List ℕ) : Type 0 where
  pub lines : List (List ℕ)
  pub is : text ≡ flat_map reply_line lines
  pub plain : ArePlain lines
  pub none : list_any ends_reply lines ≡ false

pub nothing : GoesOn []
nothing = record { lines = []; is = refl; plain = tt; none = refl }

-- ---- texts one behind the other

pub all_plain : (xs ys : List (List ℕ)) → ArePlain xs → ArePlain ys → ArePlain (xs ++ ys)
all_plain [] ys p q = q
all_plain (x ∷ xs) ys p q = (p.0, all_plain xs ys p.1 q)

pub both : (a b : List ℕ) → GoesOn a → GoesOn b → GoesOn (a ++ b)
both a b p q = record {
  lines = p.lines ++ q.lines;
  is = (λ i. p.is i ++ q.is i) ∙ sym (flat_map-append reply_line p.lines q.lines);
  plain = all_plain p.lines q.lines p.plain q.plain;
  none = list_any-append ends_reply p.lines q.lines ∙ or_from (list_any ends_reply p.lines) (list_any ends_reply q.lines) p.none q.none;
}

pub each : {X : Type 0} (f : X → List ℕ) → ((x : X) → GoesOn (f x)) → (xs : List X) → GoesOn (flat_map f xs)
each f h [] = nothing
each f h (x ∷ xs) = both (f x) (flat_map f xs) (h x) (each f h xs)

pub each_of : {X : Type 0} (P : X → Type 0) (f : X → List ℕ) → ((x : X) → P x → GoesOn (f x)) → (xs : List X) → All P xs → GoesOn (flat_map f xs)
each_of P f h [] p = nothing
each_of P f h (x ∷ xs) p = both (f x) (flat_map f xs) (h x (All-head P x xs p)) (each_of P f h xs (All-tail P x xs p))

pub one : (line : List ℕ) → IsPlain line → ends_reply line ≡ false → GoesOn (reply_line line)
one line p q = record { lines = line ∷ []; is = sym (append-nil (reply_line line)); plain = (p, tt); none = or_from (ends_reply line) false q refl }

-- a line by its parts
line_of : (a : List ℕ) (bs : List (List ℕ)) → IsPlain a → ArePlain bs → ends_reply (joined a bs) ≡ false → GoesOn (reply_line (joined a bs))
line_of a bs p q e = one (joined a bs) (plain_joined a bs p q) e

-- ---- the lines of a listing

pub tru_goes_on : (options : Options) (date next : ℕ) → GoesOn (tru_line options date next)
tru_goes_on options date next =
    line_of (codes "tru::") (ended_field (model_text options) ∷ number_field date ∷ number_field next ∷ number_field options.marginals ∷ number_field options.completes ∷ decimal options.depth ∷ [])
    refl (plain_field (model_text options) (plain_model options), (plain_number date, (plain_number next, (plain_number options.marginals, (plain_number options.completes, (plain_decimal options.depth, tt)))))) refl

pub pub_goes_on : (letter : Letter) (kept : Ownertrust) (id : ℕ) (key : Key) → IsWellFormed key → GoesOn (pub_line letter kept id key)
pub_goes_on letter kept id key w =
    line_of (codes "pub:")
    (ended_field (letter_text letter) ∷ number_field key.bits ∷ number_field key.algo ∷ ended_field (key_id_text id) ∷ number_field key.made ∷ expiry_field key.expires
    ∷ codes ":" ∷ ended_field (trust_text kept.trust) ∷ codes "::" ∷ ended_field (capabilities_text kept.disabled key.caps) ∷ [])
    refl (
      plain_field (letter_text letter) (plain_letter letter),
      (
        plain_number key.bits,
        (
          plain_number key.algo,
          (
            plain_field (key_id_text id) (plain_key_id id),
            (
              plain_number key.made,
              (
                plain_expiry key.expires,
                (refl, (plain_field (trust_text kept.trust) (plain_trust kept.trust), (refl, (plain_field (capabilities_text kept.disabled key.caps) (plain_capabilities kept.disabled key.caps (plain_class is_capability refl key.caps w.caps)), tt)))),
              ),
            ),
          ),
        ),
      ),
    ) refl

pub fpr_goes_on : (fpr : List ℕ) → GoesOn (fpr_line fpr)
fpr_goes_on fpr = line_of (codes "fpr:::::::::") (ended_field (encode_upper fpr) ∷ []) refl (plain_field (encode_upper fpr) (plain_upper fpr), tt) refl

-- what is printed of a user ID behind its kind
abbrev user_fields : Letter → User → List (List ℕ)
user_fields letter user =
    ended_field (letter_text letter) ∷ codes ":::" ∷ number_field user.made ∷ expiry_field user.expires ∷ ended_field user.hash ∷ codes ":" ∷ ended_field (printed_text user.text) ∷ []

plain_user : (letter : Letter) (id : ℕ) (user : User) → IsUser id user → ArePlain (user_fields letter user)
plain_user letter id user w =
    (plain_field (letter_text letter) (plain_letter letter), (refl, (plain_number user.made, (plain_expiry user.expires, (plain_field user.hash (plain_class is_hash_byte refl user.hash w.hash), (refl, (plain_field (printed_text user.text) (plain_printed user.text), tt)))))))

pub user_goes_on : (letter : Letter) (id : ℕ) (user : User) → IsUser id user → GoesOn (user_line letter user)
user_goes_on letter id user w = by_kind user.kind
  where
    by_kind : (kind : UserKind) → GoesOn (reply_line (joined (ended_field (kind_text kind)) (user_fields letter user)))
    by_kind Uid = line_of (codes "uid:") (user_fields letter user) refl (plain_user letter id user w) refl
    by_kind Uat = line_of (codes "uat:") (user_fields letter user) refl (plain_user letter id user w) refl

-- what is printed of a certification behind its name
abbrev cert_fields : Cert → List (List ℕ)
cert_fields cert =
    codes "!:::" ∷ ended_field (key_id_text cert.issuer) ∷ number_field cert.made ∷ expiry_field cert.expires ∷ ended_field (depth_text cert) ∷ ended_field (scope_text cert.scope)
    ∷ codes ":" ∷ ended_field (class_text cert) ∷ issuer_fpr_text cert.issuer_fpr ∷ []

plain_issuer_fpr : (named : Option (List ℕ)) → IsPlain (issuer_fpr_text named)
plain_issuer_fpr None = refl
plain_issuer_fpr (Some fpr) = plain_append (codes ":") (ended_field (encode_upper fpr)) refl (plain_field (encode_upper fpr) (plain_upper fpr))

plain_cert : (cert : Cert) → ArePlain (cert_fields cert)
plain_cert cert = (
  refl,
  (
    plain_field (key_id_text cert.issuer) (plain_key_id cert.issuer),
    (
      plain_number cert.made,
      (
        plain_expiry cert.expires,
        (
          plain_field (depth_text cert) (plain_depth cert),
          (
            plain_field (scope_text cert.scope) (plain_scope cert.scope),
            (refl, (plain_field (class_text cert) (plain_class_text cert), (plain_issuer_fpr cert.issuer_fpr, tt))),
          ),
        ),
      ),
    ),
  ),
)

pub cert_goes_on : (cert : Cert) → GoesOn (cert_line cert)
cert_goes_on cert =
    cond_both (cert.class == 48) (codes "rev") (codes "sig") (λ name. GoesOn (reply_line (joined (ended_field name) (cert_fields cert))))
    (λ e. line_of (codes "rev:") (cert_fields cert) refl (plain_cert cert) refl)
    (λ e. line_of (codes "sig:") (cert_fields cert) refl (plain_cert cert) refl)

-- ---- the lines of an explanation

plain_counts : (count : Count) → IsPlain (count_fields count)
plain_counts count =
    plain_append (number_field count.ultimate ++ number_field count.full ++ number_field count.marginal) (number_field count.other)
    (plain_append (number_field count.ultimate ++ number_field count.full) (number_field count.marginal)
    (plain_append (number_field count.ultimate) (number_field count.full) (plain_number count.ultimate) (plain_number count.full)) (plain_number count.marginal)) (plain_number count.other)

pub why_goes_on : (id place : ℕ) (letter : Letter) (count : Count) → GoesOn (why_line id place letter count)
why_goes_on id place letter count =
    line_of (codes "why:") (ended_field (letter_text letter) ∷ ended_field (key_id_text id) ∷ number_field (place + 1) ∷ count_fields count ∷ [])
    refl (plain_field (letter_text letter) (plain_letter letter), (plain_field (key_id_text id) (plain_key_id id), (plain_number (place + 1), (plain_counts count, tt)))) refl

plain_via : (via : Option ℕ) → IsPlain (option_map_or key_id_text via [])
plain_via None = refl
plain_via (Some id) = plain_key_id id

pub row_goes_on : (row : Row) → GoesOn (row_line row)
row_goes_on row =
    line_of (codes "row:") (ended_field (key_id_text row.key) ∷ number_field row.level ∷ ended_field (trust_text row.trust) ∷ number_field row.left ∷ ended_field (scope_text row.scope)
    ∷ ended_field (option_map_or key_id_text row.via []) ∷ [])
    refl (
      plain_field (key_id_text row.key) (plain_key_id row.key),
      (
        plain_number row.level,
        (
          plain_field (trust_text row.trust) (plain_trust row.trust),
          (plain_number row.left, (plain_field (scope_text row.scope) (plain_scope row.scope), (plain_field (option_map_or key_id_text row.via []) (plain_via row.via), tt))),
        ),
      ),
    ) refl

pub by_goes_on : (row : Row) → GoesOn (by_line row)
by_goes_on row = line_of (codes "by:") (ended_field (key_id_text row.key) ∷ ended_field (trust_text row.trust) ∷ []) refl (plain_field (key_id_text row.key) (plain_key_id row.key), (plain_field (trust_text row.trust) (plain_trust row.trust), tt)) refl

pub cut_goes_on : (letter : Letter) → GoesOn (cut_line letter)
cut_goes_on letter = line_of (codes "cut:") (ended_field (letter_text letter) ∷ []) refl (plain_field (letter_text letter) (plain_letter letter), tt) refl

-- ---- what is supposed, and what is critical

pub change_goes_on : (change : Change) → GoesOn (change_line change)
change_goes_on change =
    line_of (codes "change:") (ended_field (key_id_text change.key) ∷ number_field (change.user + 1) ∷ ended_field (letter_text change.old) ∷ ended_field (letter_text change.new) ∷ [])
    refl (plain_field (key_id_text change.key) (plain_key_id change.key), (plain_number (change.user + 1), (plain_field (letter_text change.old) (plain_letter change.old), (plain_field (letter_text change.new) (plain_letter change.new), tt)))) refl

pub loss_goes_on : (loss : Loss) → GoesOn (loss_line loss)
loss_goes_on loss =
    line_of (codes "critical:") (ended_field (encode_upper loss.fpr) ∷ ended_field (letter_text loss.letter) ∷ [])
    refl (plain_field (encode_upper loss.fpr) (plain_upper loss.fpr), (plain_field (letter_text loss.letter) (plain_letter loss.letter), tt)) refl

-- ---- a tally

pub tally_goes_on : (s : State) (rows : RowMap) → GoesOn (tally_line s rows)
tally_goes_on s rows =
    let count : Letter → ℕ = letter_count s rows in
    let fields : List (List ℕ) =
    number_field (capped (finmap.len rows)) ∷ number_field (count U) ∷ number_field (count F) ∷ number_field (count M) ∷ number_field (count Q) ∷ number_field (count Dash) ∷ number_field (count R) ∷ number_field (count E) ∷ [] in
    line_of (codes "tally:") fields refl (
      plain_number (capped (finmap.len rows)),
      (plain_number (count U), (plain_number (count F), (plain_number (count M), (plain_number (count Q), (plain_number (count Dash), (plain_number (count R), (plain_number (count E), tt))))))),
    ) refl

-- ---- the lines of an ownertrust export

-- neither `o` nor `e` is a hexadecimal digit in upper case
begins_neither : (b : ℕ) (more : List ℕ) → nat_eq 111 b ≡ false → nat_eq 101 b ≡ false → ends_reply (b ∷ more) ≡ false
begins_neither b more p q = or_from _ _ (and_left (nat_eq 111 b) _ p) (and_left (nat_eq 101 b) _ q)

entry_begins : (fpr more : List ℕ) → ends_reply (encode_upper fpr ++ 58 ∷ more) ≡ false
unfolding encode_with
entry_begins [] more = refl
entry_begins (b ∷ fpr) more =
    begins_neither (slice_index upper_digits (b / 16)) (slice_index upper_digits (b % 16) ∷ (encode_upper fpr ++ 58 ∷ more))
    (at_place (nat_eq 111) upper_digits (b / 16) refl refl) (at_place (nat_eq 101) upper_digits (b / 16) refl refl)

pub entry_goes_on : (entry : List ℕ × Ownertrust) → GoesOn (ownertrust_line entry)
entry_goes_on entry =
    let digits = encode_upper entry.0 in
    let number = decimal (ownertrust_number entry.1) in
    subst GoesOn (append_assoc (digits ++ 58 ∷ number) (58 ∷ []) (10 ∷ []))
    (one ((digits ++ 58 ∷ number) ++ 58 ∷ [])
    (plain_append (digits ++ 58 ∷ number) (58 ∷ []) (plain_append digits (58 ∷ number) (plain_upper entry.0) (plain_decimal (ownertrust_number entry.1))) refl)
    (ap ends_reply (append_assoc digits (58 ∷ number) (58 ∷ [])) ∙ entry_begins entry.0 (number ++ 58 ∷ [])))
