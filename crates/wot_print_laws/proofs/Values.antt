-- What is printed in a field is read back as the value that was printed.
use Rattle.std.proofs.Common.{◌≡◌, ℕ, zero, suc, ◌+◌, ◌-◌, ◌*◌, ◌/◌, ◌%◌, ◌^◌, ◌<◌, ◌≤◌, ◌==◌, Bool, true, false, not, ◌&&◌, ◌||◌, nat_le, List, [], ◌∷◌, ◌++◌, length, length-append, refl, ap, ◌∙◌, arith, Some, slice_index, decimal}
use Rattle.std.specs.Prelude.{if◌then◌else◌}
use Rattle.std.specs.List.{list_all}
use Rattle.std.specs.Option.{option_or}
use Rattle.std.proofs.lemmas.Bool.{eqb-true as eq, agree_below_at, and_parts, and_from, cond-false, cond-true, le-leb, leb-true, ne_eqb}
use Rattle.std.proofs.lemmas.Fmt.{decimal_by_steps}
use Rattle.std.proofs.lemmas.Grind.{fold-append}
use Rattle.std.proofs.lemmas.List.Folds.{list_all-append}
use Rattle.hex.specs.Hex.{IsBytes, encode_with, encode_upper, lower_digits, upper_digits}
use Rattle.wot_types.specs.Dates.{civil_seconds, date_or_0}
use Rattle.wot_types.specs.Numbers.{digits_value, is_digit, number_or_0, number_up_to}
use Rattle.wot_types.specs.Records.{is_capability, is_hash_byte, is_letter_byte}
use Rattle.wot_print_laws.proofs.Parts.{IsInner, is_inner}

-- ---- numbers

-- digits that are worth n, as they are printed
pub record IsDecimal (n : ℕ) (ds : List ℕ) : Type 0 where
  pub some : 0 < length ds
  pub digits : list_all is_digit ds ≡ true
  pub worth : digits_value ds ≡ n

digit_byte : (d : ℕ) → d < 10 → is_digit (48 + d) ≡ true
digit_byte d l = and_from (nat_le 48 (48 + d)) (nat_le (48 + d) 57) (le-leb 48 (48 + d) (omega arith)) (le-leb (48 + d) 57 (omega arith))

pub decimal_is : (n : ℕ) → n < 2 ^ 64 → IsDecimal n (decimal n)
decimal_is = decimal_by_steps IsDecimal
    (λ n l. record { some = omega arith; digits = and_from (is_digit (48 + n)) true (digit_byte n l) refl; worth = omega arith })
    (λ n ds l h. record {
      some = omega (arith, length-append ds ((48 + n % 10) ∷ []));
      digits = list_all-append is_digit ds ((48 + n % 10) ∷ []) ∙ and_from (list_all is_digit ds) (list_all is_digit ((48 + n % 10) ∷ [])) h.digits (and_from (is_digit (48 + n % 10)) true (digit_byte (n % 10) (omega arith)) refl);
      worth = fold-append (λ n d. 10 * n + (d - 48)) 0 ds ((48 + n % 10) ∷ []) ∙ ap (λ v. 10 * v + (48 + n % 10 - 48)) h.worth ∙ omega arith;
    })

some_length : (f : List ℕ) → 0 < length f → (length f == 0) ≡ false
some_length [] l = absurd (omega arith)
some_length (b ∷ f) l = ne_eqb (length (b ∷ f)) 0 (λ z. omega arith)

pub number_up_to-decimal : (greatest n : ℕ) → n ≤ greatest → n < 2 ^ 64 → number_up_to greatest (decimal n) ≡ Some n
number_up_to-decimal greatest n le small =
    let d = decimal_is n small in
    cond-false (length (decimal n) == 0) _ _ (some_length (decimal n) d.some)
    ∙ cond-true (list_all is_digit (decimal n) && nat_le (digits_value (decimal n)) greatest) _ _ (and_from _ _ d.digits (le-leb (digits_value (decimal n)) greatest (omega (arith, d.worth))))
    ∙ ap Some d.worth

pub number_or_0-decimal : (n : ℕ) → n < 2 ^ 32 → number_or_0 (decimal n) ≡ Some n
number_or_0-decimal n l =
    cond-false (length (decimal n) == 0) _ _ (some_length (decimal n) (decimal_is n (omega arith)).some)
    ∙ number_up_to-decimal (2 ^ 32 - 1) n (omega arith) (omega arith)

pub date_or_0-decimal : (n : ℕ) → n < 2 ^ 32 → date_or_0 (decimal n) ≡ Some n
date_or_0-decimal n l =
    cond-false (length (decimal n) == 0) _ _ (some_length (decimal n) (decimal_is n (omega arith)).some)
    ∙ ap (λ o. option_or o (civil_seconds (decimal n))) (number_up_to-decimal (2 ^ 32 - 1) n (omega arith) (omega arith))

-- an expiry, and nothing for none
abbrev pub expiry_text : ℕ → List ℕ
expiry_text expires = if expires == 0 then [] else decimal expires

expiry_some : (n : ℕ) → expiry_text (suc n) ≡ decimal (suc n)
expiry_some n = cond-false (suc n == 0) [] (decimal (suc n)) (ne_eqb (suc n) 0 (λ z. omega arith))

pub date_or_0-expiry : (n : ℕ) → n < 2 ^ 32 → date_or_0 (expiry_text n) ≡ Some n
date_or_0-expiry zero l = refl
date_or_0-expiry (suc n) l = ap date_or_0 (expiry_some n) ∙ date_or_0-decimal (suc n) l

-- ---- bytes at which nothing is cut

pub all_imply : (p q : ℕ → Bool) → ((b : ℕ) → p b ≡ true → q b ≡ true) → (f : List ℕ) → list_all p f ≡ true → list_all q f ≡ true
all_imply p q h [] e = refl
all_imply p q h (b ∷ f) e = let both = and_parts (p b) (list_all p f) e in and_from (q b) (list_all q f) (h b both.0) (all_imply p q h f both.1)

pub not_eq : (b c : ℕ) → (b ≡ c → ⊥) → not (b == c) ≡ true
not_eq b c h = first (b == c) refl
  where
    first : (t : Bool) → (b == c) ≡ t → not (b == c) ≡ true
    first true e = absurd (h (eq b c e))
    first false e = ap not e

pub inner_byte : (b : ℕ) → 32 ≤ b → (b ≡ 58 → ⊥) → is_inner b ≡ true
inner_byte b p q = and_from (nat_le 32 b) (not (b == 58)) (le-leb 32 b p) (not_eq b 58 q)

digit_inner : (b : ℕ) → is_digit b ≡ true → is_inner b ≡ true
digit_inner b e =
    let both = and_parts (nat_le 48 b) (nat_le b 57) e in
    inner_byte b (omega (arith, leb-true 48 b both.0)) (λ p. omega (arith, leb-true b 57 both.1))

letter_inner : (b : ℕ) → is_letter_byte b ≡ true → is_inner b ≡ true
letter_inner b e = at (nat_le 65 b && nat_le b 90) refl e
  where
    at : (t : Bool) → (nat_le 65 b && nat_le b 90) ≡ t → (t || (nat_le 97 b && nat_le b 122)) ≡ true → is_inner b ≡ true
    at true p e = let both = and_parts (nat_le 65 b) (nat_le b 90) p in
        inner_byte b (omega (arith, leb-true 65 b both.0)) (λ q. omega (arith, leb-true 65 b both.0))
    at false p e = let both = and_parts (nat_le 97 b) (nat_le b 122) e in
        inner_byte b (omega (arith, leb-true 97 b both.0)) (λ q. omega (arith, leb-true 97 b both.0))

hash_inner : (b : ℕ) → is_hash_byte b ≡ true → is_inner b ≡ true
hash_inner b e = at (is_letter_byte b) refl e
  where
    at : (t : Bool) → is_letter_byte b ≡ t → (t || is_digit b) ≡ true → is_inner b ≡ true
    at true p e = letter_inner b p
    at false p e = digit_inner b e

pub inner_decimal : (n : ℕ) → n < 2 ^ 64 → IsInner (decimal n)
inner_decimal n l = all_imply is_digit is_inner digit_inner (decimal n) (decimal_is n l).digits

pub inner_expiry : (n : ℕ) → n < 2 ^ 64 → IsInner (expiry_text n)
inner_expiry zero l = refl
inner_expiry (suc n) l = ap (list_all is_inner) (expiry_some n) ∙ inner_decimal (suc n) l

pub inner_hash : (f : List ℕ) → list_all is_hash_byte f ≡ true → IsInner f
inner_hash f e = all_imply is_hash_byte is_inner hash_inner f e

pub inner_capabilities : (f : List ℕ) → list_all is_capability f ≡ true → IsInner f
inner_capabilities f e = all_imply is_capability is_inner (λ b p. letter_inner b (and_parts (is_letter_byte b) _ p).0) f e

pub inner_append : (f g : List ℕ) → IsInner f → IsInner g → IsInner (f ++ g)
inner_append f g p q = list_all-append is_inner f g ∙ and_from (list_all is_inner f) (list_all is_inner g) p q

upper_inner : (d : ℕ) → d < 16 → is_inner (slice_index upper_digits d) ≡ true
upper_inner d l = agree_below_at (λ n. is_inner (slice_index upper_digits n)) (λ n. true) 16 d refl l

pub lower_inner : (d : ℕ) → d < 16 → is_inner (slice_index lower_digits d) ≡ true
lower_inner d l = agree_below_at (λ n. is_inner (slice_index lower_digits n)) (λ n. true) 16 d refl l

pub inner_hex : (bytes : List ℕ) → IsBytes bytes → IsInner (encode_upper bytes)
unfolding encode_with
inner_hex [] h = refl
inner_hex (b ∷ bytes) h =
    let fits : b < 256 = h 0 in
    and_from _ _ (upper_inner (b / 16) (omega arith)) (and_from _ _ (upper_inner (b % 16) (omega arith)) (inner_hex bytes (λ i. h (suc i))))
