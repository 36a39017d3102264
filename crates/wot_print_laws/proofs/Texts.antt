-- Quoted texts, classes and trust signatures are read back as they were printed.
use Rattle.std.proofs.Common.{◌≡◌, ℕ, zero, suc, ◌+◌, ◌*◌, ◌/◌, ◌%◌, ◌^◌, ◌<◌, ◌≤◌, ◌==◌, Bool, true, false, ◌&&◌, ◌||◌, nat_le, nat_lt, List, [], ◌∷◌, ◌++◌, length, length-append, refl, sym, ap, ◌∙◌, arith, inl, inr, Option, Some, None, slice_index, codes, decimal, w64}
use Rattle.std.specs.Prelude.{if◌then◌else◌, option_map, option_and_then, filter, All, take}
use Rattle.std.specs.Int.{from_be_bytes, to_be_bytes}
use Rattle.std.specs.List.{list_all, slice_split}
use Rattle.std.specs.Result.{result_ok}
use Rattle.std.proofs.lemmas.Bool.{and_parts, and_from, or_parts, cond-false, cond-true, cond_both, eqb-false, eqb-true, ne_eqb, leb-true, ltb-false}
use Rattle.std.proofs.lemmas.List.Elements.{All-cons, All-nil}
use Rattle.std.proofs.lemmas.List.Splits.{slice_split_at, slice_split_none}
use Rattle.std.proofs.lemmas.Nat.{from_be_bytes-to_be_bytes_8}
use Rattle.hex.specs.Hex.{IsBytes, encode_with, encode_lower, encode_upper, decode_of, lower_digits, upper_digits}
use Rattle.hex.proofs.HexLemmas.{IsDigits-lower_digits, decode_of-encode_lower, decode_of-encode_upper, length-encode_with}
use Rattle.wot_types.specs.declared.cert.Cert.{Cert}
use Rattle.wot_types.specs.Lines.{is_space}
use Rattle.wot_types.specs.Numbers.{depth_and_amount, is_digit, two_bytes, both}
use Rattle.wot_types.specs.Printing.{class_text, depth_text, key_id_text, scope_text}
use Rattle.wot_types.specs.Quotes.{hex_pair, is_escaped, printed_text, printed_byte, quoted_front, text_of_quoted, text_of_quoted_in}
use Rattle.wot_types.specs.Fingerprint.{IsFprLength, fingerprint}
use Rattle.wot_types.specs.Records.{class_of, key_id}
use Rattle.wot_print_laws.specs.Fits.{IsScopeOfBytes}
use Rattle.wot_print_laws.proofs.Parts.{IsInner}
use Rattle.wot_print_laws.proofs.Values.{decimal_is, inner_append, inner_byte, inner_decimal, inner_hex, lower_inner, number_up_to-decimal}

-- ---- quoted texts

abbrev pub AreBytes : List ℕ → Type 0
AreBytes [] = Unit {0}
AreBytes (b ∷ bytes) = (b < 256) × AreBytes bytes

pub are_bytes : (bytes : List ℕ) → IsBytes bytes → AreBytes bytes
are_bytes [] h = tt
are_bytes (b ∷ bytes) h = (h 0, are_bytes bytes (λ i. h (suc i)))

pub bytes_at : (bytes : List ℕ) → AreBytes bytes → IsBytes bytes
bytes_at [] h i = omega arith
bytes_at (b ∷ bytes) h zero = h.0
bytes_at (b ∷ bytes) h (suc i) = bytes_at bytes h.1 i

-- what is written for an escaped byte is its pair of digits
pair_of : (b : ℕ) → b < 256 → hex_pair (slice_index lower_digits (b / 16)) (slice_index lower_digits (b % 16)) ≡ Some b
pair_of b l =
    let high = IsDigits-lower_digits (b / 16) (omega arith) in
    let low = IsDigits-lower_digits (b % 16) (omega arith) in
    let whole : 16 * (b / 16) + b % 16 ≡ b = omega arith in
    (λ i. option_and_then (λ h. option_map (λ l. 16 * h + l) (low i)) (high i)) ∙ ap Some whole

-- the front of a printed text is its first byte
front_of_printed : (b : ℕ) (rest : List ℕ) → b < 256 → quoted_front (printed_byte b ++ rest) ≡ Some (b, rest)
front_of_printed b rest l =
    cond_both (is_escaped b) (92 ∷ 120 ∷ slice_index lower_digits (b / 16) ∷ slice_index lower_digits (b % 16) ∷ []) (b ∷ []) (λ s. quoted_front (s ++ rest) ≡ Some (b, rest))
    (λ e. ap (option_map (λ byte. (byte, rest))) (pair_of b l))
    (λ e. cond-false (b == 92) _ _ (or_parts ((nat_lt b 32 || (b == 127)) || (b == 58)) (b == 92) e).1)

text_of_quoted_step : (n : ℕ) (f : List ℕ) (b : ℕ) (rest : List ℕ) → 0 < length f → quoted_front f ≡ Some (b, rest)
    → text_of_quoted_in (suc n) f ≡ option_map (λ text. b ∷ text) (text_of_quoted_in n rest)
unfolding text_of_quoted_in
text_of_quoted_step n [] b rest l e = absurd (omega arith)
text_of_quoted_step n (c ∷ f) b rest l e = ap (option_and_then (λ front. option_map (λ text. front.0 ∷ text) (text_of_quoted_in n front.1))) e

printed_byte_some : (b : ℕ) → 0 < length (printed_byte b)
printed_byte_some b =
    cond_both (is_escaped b) (92 ∷ 120 ∷ slice_index lower_digits (b / 16) ∷ slice_index lower_digits (b % 16) ∷ []) (b ∷ []) (λ s. 0 < length s) (λ e. omega arith) (λ e. omega arith)

text_of_quoted_in-printed : (n : ℕ) (text : List ℕ) → AreBytes text → length (printed_text text) ≤ n → text_of_quoted_in n (printed_text text) ≡ Some text
unfolding text_of_quoted_in
text_of_quoted_in-printed zero [] h l = refl
text_of_quoted_in-printed (suc n) [] h l = refl
text_of_quoted_in-printed zero (b ∷ text) h l = absurd (omega (arith, length-append (printed_byte b) (printed_text text), printed_byte_some b))
text_of_quoted_in-printed (suc n) (b ∷ text) h l =
    let size = length-append (printed_byte b) (printed_text text) in
    text_of_quoted_step n (printed_byte b ++ printed_text text) b (printed_text text) (omega (arith, size, printed_byte_some b)) (front_of_printed b (printed_text text) h.0)
    ∙ ap (option_map (λ t. b ∷ t)) (text_of_quoted_in-printed n text h.1 (omega (arith, size, printed_byte_some b)))

pub text_of_quoted-printed : (text : List ℕ) → AreBytes text → text_of_quoted (printed_text text) ≡ Some text
text_of_quoted-printed text h = text_of_quoted_in-printed (length (printed_text text)) text h (omega arith)

inner_printed_byte : (b : ℕ) → b < 256 → IsInner (printed_byte b)
inner_printed_byte b l =
    cond_both (is_escaped b) (92 ∷ 120 ∷ slice_index lower_digits (b / 16) ∷ slice_index lower_digits (b % 16) ∷ []) (b ∷ []) IsInner
    (λ e. and_from _ _ (lower_inner (b / 16) (omega arith)) (and_from _ _ (lower_inner (b % 16) (omega arith)) refl))
    (λ e. let last = or_parts ((nat_lt b 32 || (b == 127)) || (b == 58)) (b == 92) e in
    let colon = or_parts (nat_lt b 32 || (b == 127)) (b == 58) last.0 in
    let above = or_parts (nat_lt b 32) (b == 127) colon.0 in
    and_from _ _ (inner_byte b (omega (arith, ltb-false b 32 above.0)) (eqb-false b 58 colon.1)) refl)

pub inner_printed : (text : List ℕ) → AreBytes text → IsInner (printed_text text)
inner_printed [] h = refl
inner_printed (b ∷ text) h = inner_append (printed_byte b) (printed_text text) (inner_printed_byte b h.0) (inner_printed text h.1)

-- ---- scopes

pub inner_scope : (scope : Option (List ℕ)) → IsScopeOfBytes scope → IsInner (scope_text scope)
inner_scope None h = refl
inner_scope (Some scope) h = inner_printed scope (are_bytes scope h)

-- ---- classes, key IDs and fingerprints

inner_local : (local : Bool) → IsInner (if local then codes "l" else codes "x")
inner_local true = refl
inner_local false = refl

pub inner_class : (cert : Cert) → cert.class < 256 → IsInner (class_text cert)
unfolding encode_with
inner_class cert l =
    and_from _ _ (lower_inner (cert.class / 16) (omega arith)) (and_from _ _ (lower_inner (cert.class % 16) (omega arith)) (inner_local cert.local))

one_byte : (b : ℕ) → b < 256 → IsBytes (b ∷ [])
one_byte b l = bytes_at (b ∷ []) (l, tt)

class_front : (cert : Cert) → take 2 (class_text cert) ≡ encode_lower (cert.class ∷ [])
unfolding encode_with
class_front cert = refl

class_length : (cert : Cert) → nat_le 2 (length (class_text cert)) ≡ true
unfolding encode_with
class_length cert = at cert.local
  where
    at : (local : Bool) → nat_le 2 (length (encode_lower (cert.class ∷ []) ++ (if local then codes "l" else codes "x"))) ≡ true
    at true = refl
    at false = refl

pub class_of-text : (cert : Cert) → cert.class < 256 → class_of (class_text cert) ≡ Some cert.class
class_of-text cert l =
    cond-true (nat_le 2 (length (class_text cert))) _ _ (class_length cert)
    ∙ ap (λ r. option_map (λ bytes. slice_index bytes 0) (result_ok r)) (ap decode_of (class_front cert) ∙ decode_of-encode_lower (cert.class ∷ []) (one_byte cert.class l))

pub is_local-text : (cert : Cert) → (slice_index (class_text cert) 2 == 108) ≡ cert.local
unfolding encode_with
is_local-text cert = at cert.local
  where
    at : (local : Bool) → (slice_index (encode_lower (cert.class ∷ []) ++ (if local then codes "l" else codes "x")) 2 == 108) ≡ local
    at true = refl
    at false = refl

id_bytes : (id : ℕ) → IsBytes (to_be_bytes w64 id)
id_bytes id = bytes_at (to_be_bytes w64 id) (omega arith, (omega arith, (omega arith, (omega arith, (omega arith, (omega arith, (omega arith, (omega arith, tt))))))))

id_length : (id : ℕ) → length (key_id_text id) ≡ 16
id_length id = length-encode_with upper_digits (to_be_bytes w64 id)

pub inner_key_id : (id : ℕ) → IsInner (key_id_text id)
inner_key_id id = inner_hex (to_be_bytes w64 id) (id_bytes id)

pub key_id-text : (id : ℕ) → id < 2 ^ 64 → key_id (key_id_text id) ≡ Some id
key_id-text id l =
    ap (λ n. if n == 16 then option_map (from_be_bytes w64) (result_ok (decode_of (key_id_text id))) else None) (id_length id)
    ∙ ap (λ r. option_map (from_be_bytes w64) (result_ok r)) (decode_of-encode_upper (to_be_bytes w64 id) (id_bytes id))
    ∙ ap Some (from_be_bytes-to_be_bytes_8 id l)

pub fingerprint-text : (fpr : List ℕ) → IsFprLength fpr → AreBytes fpr → fingerprint (encode_upper fpr) ≡ Some fpr
fingerprint-text fpr sized h =
    let size = length-encode_with upper_digits fpr in
    ap (λ n. if (n == 40) || (n == 64) then result_ok (decode_of (encode_upper fpr)) else None) size
    ∙ cond-true ((2 * length fpr == 40) || (2 * length fpr == 64)) (result_ok (decode_of (encode_upper fpr))) None (long sized)
    ∙ ap result_ok (decode_of-encode_upper fpr (bytes_at fpr h))
  where
    long : IsFprLength fpr → ((2 * length fpr == 40) || (2 * length fpr == 64)) ≡ true
    long (inl e) = ap (λ n. (2 * n == 40) || (2 * n == 64)) e
    long (inr e) = ap (λ n. (2 * n == 40) || (2 * n == 64)) e

-- ---- depth and amount

no_space : (f : List ℕ) → list_all is_digit f ≡ true → All (λ b. is_space b ≡ false) f
no_space [] h = All-nil (λ b. is_space b ≡ false)
no_space (b ∷ f) h =
    let both = and_parts (is_digit b) (list_all is_digit f) h in
    let above = and_parts (nat_le 48 b) (nat_le b 57) both.0 in
    All-cons (λ b. is_space b ≡ false) b f (ne_eqb b 32 (λ p. omega (arith, leb-true 48 b above.0))) (no_space f both.1)

depth_parts : (depth amount : ℕ) → depth < 256 → amount < 256 → slice_split is_space (decimal depth ++ 32 ∷ decimal amount) ≡ decimal depth ∷ decimal amount ∷ []
depth_parts depth amount p q =
    slice_split_at is_space (decimal depth) 32 (decimal amount) (no_space (decimal depth) (decimal_is depth (omega arith)).digits) refl
    ∙ ap (λ l. decimal depth ∷ l) (slice_split_none is_space (decimal amount) (no_space (decimal amount) (decimal_is amount (omega arith)).digits))

pub depth_and_amount-text : (cert : Cert) → cert.depth < 256 → cert.amount < 256 → depth_and_amount (depth_text cert) ≡ Some (cert.depth, cert.amount)
depth_and_amount-text cert p q =
    cond_both ((cert.depth == 0) && (cert.amount == 0)) [] (decimal cert.depth ++ 32 ∷ decimal cert.amount) (λ f. depth_and_amount f ≡ Some (cert.depth, cert.amount))
    (λ e. let none = and_parts (cert.depth == 0) (cert.amount == 0) e in λ i. Some (sym (eqb-true cert.depth 0 none.0) i, sym (eqb-true cert.amount 0 none.1) i))
    (λ e. let long : 0 < length (decimal cert.depth ++ 32 ∷ decimal cert.amount) = omega (arith, length-append (decimal cert.depth) (32 ∷ decimal cert.amount)) in
    cond-false (length (decimal cert.depth ++ 32 ∷ decimal cert.amount) == 0) _ _ (ne_eqb _ 0 (λ z. omega (arith, long, z)))
    ∙ ap two_bytes (depth_parts cert.depth cert.amount p q)
    ∙ (λ i. both (number_up_to-decimal 255 cert.depth (omega arith) (omega arith) i) (number_up_to-decimal 255 cert.amount (omega arith) (omega arith) i)))

pub inner_depth : (cert : Cert) → cert.depth < 256 → cert.amount < 256 → IsInner (depth_text cert)
inner_depth cert p q =
    cond_both ((cert.depth == 0) && (cert.amount == 0)) [] (decimal cert.depth ++ 32 ∷ decimal cert.amount) IsInner
    (λ e. refl)
    (λ e. inner_append (decimal cert.depth) (32 ∷ decimal cert.amount) (inner_decimal cert.depth (omega arith)) (inner_append (32 ∷ []) (decimal cert.amount) refl (inner_decimal cert.amount (omega arith))))

-- ---- letters that are kept

pub filter_all : (p : ℕ → Bool) (f : List ℕ) → list_all p f ≡ true → filter p f ≡ f
filter_all p [] h = refl
filter_all p (b ∷ f) h =
    let both = and_parts (p b) (list_all p f) h in
    cond-true (p b) (b ∷ filter p f) (filter p f) both.0 ∙ ap (λ l. b ∷ l) (filter_all p f both.1)
