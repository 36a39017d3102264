-- Texts in which no line ends: what is printed of numbers, letters and quoted texts holds no newline.
use Rattle.std.proofs.Common.{◌≡◌, ℕ, zero, suc, ◌+◌, ◌/◌, ◌%◌, ◌==◌, Bool, true, false, ◌&&◌, nat_lt, List, [], ◌∷◌, ◌++◌, refl, sym, ap, ◌∙◌, arith, true≢false, Option, Some, None, slice_index, codes, decimal, w64}
use Rattle.std.specs.Prelude.{if◌then◌else◌}
use Rattle.std.specs.Fmt.{digit_glyph, digits, digits_onto}
use Rattle.std.specs.Int.{to_be_bytes}
use Rattle.std.specs.List.{list_all, list_any}
use Rattle.std.proofs.lemmas.Bool.{and_parts, cond_both, ne_eqb, or_from, or_parts}
use Rattle.std.proofs.lemmas.List.Folds.{list_any-append}
use Rattle.hex.specs.Hex.{encode_lower, encode_upper, encode_with, lower_digits, upper_digits}
use Rattle.wot_types.specs.declared.cert.Cert.{Cert}
use Rattle.wot_types.specs.declared.letter.Letter.{Letter}
use Rattle.wot_types.specs.declared.letter.Letter.TheVariants.{Dash, Q, M, F, U, R, E}
use Rattle.wot_types.specs.declared.options.Options.{Options}
use Rattle.wot_types.specs.declared.trust.Trust.{Trust}
use Rattle.wot_types.specs.declared.trust.Trust.TheVariants.{Unknown, Undefined, Never, Marginal, Full, Ultimate}
use Rattle.wot_types.specs.Lines.{is_newline}
use Rattle.wot_types.specs.Printing.{capabilities_text, class_text, depth_text, ended_field, expiry_field, key_id_text, letter_text, model_text, number_field, scope_text}
use Rattle.wot_types.specs.Quotes.{is_escaped, printed_text, printed_byte}
use Rattle.wot_types.specs.Trust.{trust_text}

-- no newline stands in it
abbrev pub IsPlain : List ℕ → Type 0
IsPlain text = list_any is_newline text ≡ false

pub plain_append : (a b : List ℕ) → IsPlain a → IsPlain b → IsPlain (a ++ b)
plain_append a b p q = list_any-append is_newline a b ∙ or_from (list_any is_newline a) (list_any is_newline b) p q

-- texts one behind the other, and none holds a newline
abbrev pub joined : List ℕ → List (List ℕ) → List ℕ
joined a [] = a
joined a (b ∷ bs) = joined (a ++ b) bs

abbrev pub ArePlain : List (List ℕ) → Type 0
ArePlain [] = Unit {0}
ArePlain (b ∷ bs) = IsPlain b × ArePlain bs

pub plain_joined : (a : List ℕ) (bs : List (List ℕ)) → IsPlain a → ArePlain bs → IsPlain (joined a bs)
plain_joined a [] p q = p
plain_joined a (b ∷ bs) p q = plain_joined (a ++ b) bs (plain_append a b p q.0) q.1

-- ---- bytes of a class that a newline isn't of

no_newline : (p : ℕ → Bool) → p 10 ≡ false → (b : ℕ) → p b ≡ true → is_newline b ≡ false
no_newline p out b e = ne_eqb b 10 (λ q. true≢false (sym e ∙ ap p q ∙ out))

pub plain_class : (p : ℕ → Bool) → p 10 ≡ false → (text : List ℕ) → list_all p text ≡ true → IsPlain text
plain_class p out [] h = refl
plain_class p out (b ∷ text) h =
    let both = and_parts (p b) (list_all p text) h in
    or_from (is_newline b) (list_any is_newline text) (no_newline p out b both.0) (plain_class p out text both.1)

-- ---- numbers

plain_glyph : (d : ℕ) → is_newline (digit_glyph false d) ≡ false
plain_glyph d = cond_both (nat_lt d 10) (48 + d) (87 + d) (λ b. is_newline b ≡ false) (λ e. ne_eqb (48 + d) 10 (λ q. omega arith)) (λ e. ne_eqb (87 + d) 10 (λ q. omega arith))

plain_onto : (k n : ℕ) (more : List ℕ) → IsPlain more → IsPlain (digits_onto k 10 false n more)
plain_onto zero n more p = p
plain_onto (suc k) n more p =
    let next = or_from (is_newline (digit_glyph false (n % 10))) (list_any is_newline more) (plain_glyph (n % 10)) p in
    cond_both (n / 10 == 0) (digit_glyph false (n % 10) ∷ more) (digits_onto k 10 false (n / 10) (digit_glyph false (n % 10) ∷ more)) IsPlain
    (λ e. next) (λ e. plain_onto k (n / 10) (digit_glyph false (n % 10) ∷ more) next)

pub plain_decimal : (n : ℕ) → IsPlain (decimal n)
unfolding digits
plain_decimal n = plain_onto 64 n [] refl

-- ---- hexadecimal digits

-- what holds of no digit of a table, and not past its end
pub at_place : (p : ℕ → Bool) (table : List ℕ) (i : ℕ) → list_any p table ≡ false → p 0 ≡ false → p (slice_index table i) ≡ false
at_place p [] i h out = out
at_place p (b ∷ table) zero h out = (or_parts (p b) (list_any p table) h).0
at_place p (b ∷ table) (suc i) h out = at_place p table i (or_parts (p b) (list_any p table) h).1 out

plain_hex : (table bytes : List ℕ) → IsPlain table → IsPlain (encode_with table bytes)
unfolding encode_with
plain_hex table [] h = refl
plain_hex table (b ∷ bytes) h =
    or_from _ _ (at_place is_newline table (b / 16) h refl) (or_from _ _ (at_place is_newline table (b % 16) h refl) (plain_hex table bytes h))

pub plain_upper : (bytes : List ℕ) → IsPlain (encode_upper bytes)
plain_upper bytes = plain_hex upper_digits bytes refl

pub plain_key_id : (id : ℕ) → IsPlain (key_id_text id)
plain_key_id id = plain_upper (to_be_bytes w64 id)

-- ---- quoted texts

plain_printed_byte : (b : ℕ) → IsPlain (printed_byte b)
plain_printed_byte b =
    cond_both (is_escaped b) (92 ∷ 120 ∷ slice_index lower_digits (b / 16) ∷ slice_index lower_digits (b % 16) ∷ []) (b ∷ []) IsPlain
    (λ e. or_from _ _ (at_place is_newline lower_digits (b / 16) refl refl) (or_from _ _ (at_place is_newline lower_digits (b % 16) refl refl) refl))
    (λ e. or_from (is_newline b) false (ne_eqb b 10 (λ q. true≢false (ap is_escaped (sym q) ∙ e))) refl)

pub plain_printed : (text : List ℕ) → IsPlain (printed_text text)
plain_printed [] = refl
plain_printed (b ∷ text) = plain_append (printed_byte b) (printed_text text) (plain_printed_byte b) (plain_printed text)

pub plain_scope : (scope : Option (List ℕ)) → IsPlain (scope_text scope)
plain_scope None = refl
plain_scope (Some scope) = plain_printed scope

-- ---- words

pub plain_letter : (letter : Letter) → IsPlain (letter_text letter)
plain_letter Dash = refl
plain_letter Q = refl
plain_letter M = refl
plain_letter F = refl
plain_letter U = refl
plain_letter R = refl
plain_letter E = refl

pub plain_trust : (trust : Trust) → IsPlain (trust_text trust)
plain_trust Unknown = refl
plain_trust Undefined = refl
plain_trust Never = refl
plain_trust Marginal = refl
plain_trust Full = refl
plain_trust Ultimate = refl

pub plain_model : (options : Options) → IsPlain (model_text options)
plain_model options = cond_both options.pgp (codes "1") (codes "0") IsPlain (λ e. refl) (λ e. refl)

-- ---- fields

pub plain_field : (f : List ℕ) → IsPlain f → IsPlain (ended_field f)
plain_field f p = plain_append f (58 ∷ []) p refl

pub plain_number : (n : ℕ) → IsPlain (number_field n)
plain_number n = plain_field (decimal n) (plain_decimal n)

pub plain_expiry : (expires : ℕ) → IsPlain (expiry_field expires)
plain_expiry expires = plain_field (if expires == 0 then [] else decimal expires) (cond_both (expires == 0) [] (decimal expires) IsPlain (λ e. refl) (λ e. plain_decimal expires))

pub plain_capabilities : (disabled : Bool) (caps : List ℕ) → IsPlain caps → IsPlain (capabilities_text disabled caps)
plain_capabilities true caps p = plain_append caps (codes "D") p refl
plain_capabilities false caps p = p

pub plain_depth : (cert : Cert) → IsPlain (depth_text cert)
plain_depth cert =
    cond_both ((cert.depth == 0) && (cert.amount == 0)) [] (decimal cert.depth ++ 32 ∷ decimal cert.amount) IsPlain
    (λ e. refl)
    (λ e. plain_append (decimal cert.depth) (32 ∷ decimal cert.amount) (plain_decimal cert.depth) (plain_decimal cert.amount))

plain_local : (local : Bool) → IsPlain (if local then codes "l" else codes "x")
plain_local true = refl
plain_local false = refl

pub plain_class_text : (cert : Cert) → IsPlain (class_text cert)
plain_class_text cert = plain_append (encode_lower (cert.class ∷ [])) _ (plain_hex lower_digits (cert.class ∷ []) refl) (plain_local cert.local)
