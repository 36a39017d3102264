-- The bits of words.
use Rattle.std.proofs.Common.{◌≡◌, ◌≢◌, ℕ, suc, zero, ◌+◌, ◌-◌, ◌*◌, ◌/◌, ◌%◌, ◌^◌, ◌<◌, ◌≤◌, ◌==◌, ◌⊎◌, inl, inr, true, Bool, ◌&&◌, ◌||◌, not, List, length, get_or, set, max, min, bit_and, bit_or, bit_xor, refl, sym, ap, ap₂, ◌∙◌, arith}
use Rattle.std.specs.Int.{bit_at, w64}
use Rattle.std.proofs.lemmas.Bool.{cases_eq, cases_lt}
use Rattle.std.proofs.lemmas.Grind.{get_or-set_at}
use Rattle.std.proofs.lemmas.List.{get_or-set_other, get_or-set_same}
use Rattle.std.proofs.lemmas.Nat.{mod_below}
use Rattle.std.proofs.lemmas.Nat.Bits.{bit_at-lt, bit_at-zero, bit_at_above, bit_at_and, bit_at_cat_high, bit_at_cat_low, bit_at_or, bit_at_set_other, bit_at_set_same, bit_at_xor}
use Rattle.wot_regex.specs.Following.{has, two_on}

abbrev pub with_place : List ℕ → ℕ → List ℕ
with_place words p = set words (p / 64) (bit_or (get_or words (p / 64) 0) (1 * 2 ^ (p % 64) % 18446744073709551616))

pub added_one : (words : List ℕ) (p : ℕ) → p / 64 < length words → has (with_place words p) p ≡ true
added_one words p lt =
    ap (λ w. bit_at w (p % 64) == 1) (get_or-set_same words (p / 64) (bit_or (get_or words (p / 64) 0) (1 * 2 ^ (p % 64) % 18446744073709551616)) 0 lt)
    ∙ ap (λ b. b == 1) (bit_at_set_same w64 (get_or words (p / 64) 0) (p % 64) (mod_below p 64 (omega arith)))

added_in : (words : List ℕ) (p i : ℕ) → p / 64 < length words → i ≢ p → (i / 64 ≡ p / 64) ⊎ (i / 64 ≢ p / 64) → has (with_place words p) i ≡ has words i
added_in words p i lt other (inl e) =
    let apart : i % 64 ≢ p % 64 = λ same. other (omega (arith, e, same)) in
    ap (λ w. bit_at w (i % 64) == 1) (get_or-set_at words (p / 64) (i / 64) (bit_or (get_or words (p / 64) 0) (1 * 2 ^ (p % 64) % 18446744073709551616)) 0 e lt)
    ∙ ap (λ b. b == 1) (bit_at_set_other w64 (get_or words (p / 64) 0) (p % 64) (mod_below p 64 (omega arith)) (i % 64) apart)
    ∙ ap (λ k. bit_at (get_or words k 0) (i % 64) == 1) (sym e)
added_in words p i lt other (inr apart) =
    ap (λ w. bit_at w (i % 64) == 1) (get_or-set_other words (p / 64) (i / 64) (bit_or (get_or words (p / 64) 0) (1 * 2 ^ (p % 64) % 18446744073709551616)) 0 apart)

pub added_others : (words : List ℕ) (p i : ℕ) → p / 64 < length words → i ≢ p → has (with_place words p) i ≡ has words i
added_others words p i lt other = added_in words p i lt other (cases_eq (i / 64) (p / 64))

either_bit : (x y : ℕ) → x < 2 → y < 2 → (max x y == 1) ≡ ((x == 1) || (y == 1))
either_bit zero zero h k = refl
either_bit zero (suc zero) h k = refl
either_bit (suc zero) zero h k = refl
either_bit (suc zero) (suc zero) h k = refl
either_bit zero (suc (suc y)) h k = absurd (omega arith)
either_bit (suc zero) (suc (suc y)) h k = absurd (omega arith)
either_bit (suc (suc x)) y h k = absurd (omega arith)

both_bits : (x y : ℕ) → x < 2 → y < 2 → (min x y == 1) ≡ ((x == 1) && (y == 1))
both_bits zero zero h k = refl
both_bits zero (suc zero) h k = refl
both_bits (suc zero) zero h k = refl
both_bits (suc zero) (suc zero) h k = refl
both_bits zero (suc (suc y)) h k = absurd (omega arith)
both_bits (suc zero) (suc (suc y)) h k = absurd (omega arith)
both_bits (suc (suc x)) y h k = absurd (omega arith)

-- words, each made of two

module _ (f : ℕ → ℕ → ℕ) (old now other : List ℕ) (i : ℕ) (lt : i < length now) (rest : (k : ℕ) → i ≤ k → get_or now k 0 ≡ get_or old k 0) where
  word_in : (k : ℕ) → ((j : ℕ) → j < i → get_or now j 0 ≡ f (get_or old j 0) (get_or other j 0)) → k < i + 1 → (k ≡ i) ⊎ (k ≢ i) → get_or (set now i (f (get_or now i 0) (get_or other i 0))) k 0 ≡ f (get_or old k 0) (get_or other k 0)
  word_in k done less (inl e) =
      get_or-set_at now i k (f (get_or now i 0) (get_or other i 0)) 0 e lt
      ∙ ap (λ w. f w (get_or other i 0)) (rest i (omega arith))
      ∙ ap (λ j. f (get_or old j 0) (get_or other j 0)) (sym e)
  word_in k done less (inr apart) = get_or-set_other now i k (f (get_or now i 0) (get_or other i 0)) 0 apart ∙ done k (omega arith)

  pub word_done : ((j : ℕ) → j < i → get_or now j 0 ≡ f (get_or old j 0) (get_or other j 0)) → (k : ℕ) → k < i + 1 → get_or (set now i (f (get_or now i 0) (get_or other i 0))) k 0 ≡ f (get_or old k 0) (get_or other k 0)
  word_done done k less = word_in k done less (cases_eq k i)

  pub word_rest : (v k : ℕ) → i + 1 ≤ k → get_or (set now i v) k 0 ≡ get_or old k 0
  word_rest v k le =
      let apart : k ≢ i = λ e. omega (arith, e) in
      get_or-set_other now i k v 0 apart ∙ rest k (omega arith)

pub united_has : (old now other : List ℕ) (i : ℕ) → get_or now (i / 64) 0 ≡ bit_or (get_or old (i / 64) 0) (get_or other (i / 64) 0) → has now i ≡ (has old i || has other i)
united_has old now other i e =
    ap (λ w. bit_at w (i % 64) == 1) e
    ∙ ap (λ b. b == 1) (bit_at_or (get_or old (i / 64) 0) (get_or other (i / 64) 0) (i % 64))
    ∙ either_bit (bit_at (get_or old (i / 64) 0) (i % 64)) (bit_at (get_or other (i / 64) 0) (i % 64)) (bit_at-lt (get_or old (i / 64) 0) (i % 64)) (bit_at-lt (get_or other (i / 64) 0) (i % 64))

pub met_has : (old now other : List ℕ) (i : ℕ) → get_or now (i / 64) 0 ≡ bit_and (get_or old (i / 64) 0) (get_or other (i / 64) 0) → has now i ≡ (has old i && has other i)
met_has old now other i e =
    ap (λ w. bit_at w (i % 64) == 1) e
    ∙ ap (λ b. b == 1) (bit_at_and (get_or old (i / 64) 0) (get_or other (i / 64) 0) (i % 64))
    ∙ both_bits (bit_at (get_or old (i / 64) 0) (i % 64)) (bit_at (get_or other (i / 64) 0) (i % 64)) (bit_at-lt (get_or old (i / 64) 0) (i % 64)) (bit_at-lt (get_or other (i / 64) 0) (i % 64))

left_bit : (x y : ℕ) → x < 2 → y < 2 → ((x + min x y) % 2 == 1) ≡ ((x == 1) && not (y == 1))
left_bit zero zero h k = refl
left_bit zero (suc zero) h k = refl
left_bit (suc zero) zero h k = refl
left_bit (suc zero) (suc zero) h k = refl
left_bit zero (suc (suc y)) h k = absurd (omega arith)
left_bit (suc zero) (suc (suc y)) h k = absurd (omega arith)
left_bit (suc (suc x)) y h k = absurd (omega arith)

-- a word without the bits of another
abbrev pub without : ℕ → ℕ → ℕ
without x y = bit_xor x (bit_and x y)

pub left_has : (old now other : List ℕ) (i : ℕ) → get_or now (i / 64) 0 ≡ without (get_or old (i / 64) 0) (get_or other (i / 64) 0) → has now i ≡ (has old i && not (has other i))
left_has old now other i e =
    let x = get_or old (i / 64) 0 in
    let y = get_or other (i / 64) 0 in
    ap (λ w. bit_at w (i % 64) == 1) e
    ∙ ap (λ b. b == 1) (bit_at_xor x (bit_and x y) (i % 64) ∙ ap (λ b. (bit_at x (i % 64) + b) % 2) (bit_at_and x y (i % 64)))
    ∙ left_bit (bit_at x (i % 64)) (bit_at y (i % 64)) (bit_at-lt x (i % 64)) (bit_at-lt y (i % 64))

-- a word moved by two bits, behind the last two of the word before it
abbrev pub moved_by_two : ℕ → ℕ → ℕ
moved_by_two word previous = bit_or (word * 2 ^ 2 % 18446744073709551616) (previous / 2 ^ 62)

max_of_none : (x y : ℕ) → x ≡ 0 → max x y ≡ y
max_of_none x y e = omega (arith, e)

max_with_none : (x : ℕ) → max x 0 ≡ x
max_with_none x = omega arith

cut_word : (word : ℕ) → word * 2 ^ 2 % 18446744073709551616 ≡ word % 2 ^ 62 * 2 ^ 2 + 0
cut_word word = omega arith

in_two : (word : ℕ) → word / 2 ^ 62 * 2 ^ 62 + word % 2 ^ 62 ≡ word
in_two word = omega arith

pub moved_first : (word previous j : ℕ) → j < 2 → bit_at (moved_by_two word previous) j ≡ bit_at previous (62 + j)
moved_first word previous j lt =
    let back : (62 + j) - 62 ≡ j = omega arith in
    let low : bit_at (word * 2 ^ 2 % 18446744073709551616) j ≡ 0 = ap (λ w. bit_at w j) (cut_word word) ∙ bit_at_cat_low (word % 2 ^ 62) 2 0 j lt ∙ bit_at-zero j in
    bit_at_or (word * 2 ^ 2 % 18446744073709551616) (previous / 2 ^ 62) j
    ∙ max_of_none (bit_at (word * 2 ^ 2 % 18446744073709551616) j) (bit_at (previous / 2 ^ 62) j) low
    ∙ ap (λ k. bit_at (previous / 2 ^ 62) k) (sym back)
    ∙ sym (bit_at_cat_high (previous / 2 ^ 62) 62 (previous % 2 ^ 62) (62 + j) (omega arith) (omega arith))
    ∙ ap (λ w. bit_at w (62 + j)) (in_two previous)

pub moved_others : (word previous j : ℕ) → previous < 2 ^ 64 → j < 62 → bit_at (moved_by_two word previous) (j + 2) ≡ bit_at word j
moved_others word previous j fits lt =
    let back : (j + 2) - 2 ≡ j = omega arith in
    let few : previous / 2 ^ 62 < 2 ^ 2 = omega arith in
    let high : bit_at (word * 2 ^ 2 % 18446744073709551616) (j + 2) ≡ bit_at word j =
    ap (λ w. bit_at w (j + 2)) (cut_word word)
    ∙ bit_at_cat_high (word % 2 ^ 62) 2 0 (j + 2) (omega arith) (omega arith)
    ∙ ap (λ k. bit_at (word % 2 ^ 62) k) back
    ∙ sym (bit_at_cat_low (word / 2 ^ 62) 62 (word % 2 ^ 62) j lt)
    ∙ ap (λ w. bit_at w j) (in_two word) in
    bit_at_or (word * 2 ^ 2 % 18446744073709551616) (previous / 2 ^ 62) (j + 2)
    ∙ ap₂ max high (bit_at_above (previous / 2 ^ 62) 2 (j + 2) few (omega arith))
    ∙ max_with_none (bit_at word j)

-- the words of a set whose places are moved

two_at : (m : ℕ → Bool) (p k : ℕ) → p ≡ suc (suc k) → two_on m p ≡ m k
two_at m p k e = ap (λ n. two_on m n) e

has_at : (words : List ℕ) (i j : ℕ) → j < 64 → has words (64 * i + j) ≡ (bit_at (get_or words i 0) j == 1)
has_at words i j lt =
    let q : (64 * i + j) / 64 ≡ i = omega arith in
    let r : (64 * i + j) % 64 ≡ j = omega arith in
    ap₂ (λ k b. bit_at (get_or words k 0) b == 1) q r

-- the first word
pub first_word_moved : (words : List ℕ) (word new : ℕ) → word ≡ get_or words 0 0 → ((j : ℕ) → j < 2 → bit_at new j ≡ bit_at 0 (62 + j)) → ((j : ℕ) → j < 62 → bit_at new (j + 2) ≡ bit_at word j) → (j : ℕ) → j < 64 → (bit_at new j == 1) ≡ two_on (has words) j
first_word_moved words word new is first others zero lt = ap (λ b. b == 1) (first 0 (omega arith) ∙ bit_at-zero (62 + 0))
first_word_moved words word new is first others (suc zero) lt = ap (λ b. b == 1) (first 1 (omega arith) ∙ bit_at-zero (62 + 1))
first_word_moved words word new is first others (suc (suc j)) lt =
    let up : suc (suc j) ≡ j + 2 = omega arith in
    let here : 64 * 0 + j ≡ j = omega arith in
    ap (λ k. bit_at new k == 1) up
    ∙ ap (λ b. b == 1) (others j (omega arith) ∙ ap (λ w. bit_at w j) is)
    ∙ sym (has_at words 0 j (omega arith))
    ∙ ap (has words) here

-- another word
pub word_moved : (words : List ℕ) (i word previous new : ℕ) → 0 < i → word ≡ get_or words i 0 → previous ≡ get_or words (i - 1) 0 → ((j : ℕ) → j < 2 → bit_at new j ≡ bit_at previous (62 + j)) → ((j : ℕ) → j < 62 → bit_at new (j + 2) ≡ bit_at word j) → (j : ℕ) → j < 64
    → (bit_at new j == 1) ≡ two_on (has words) (64 * i + j)
word_moved words i word previous new some is was first others j lt = which (cases_lt j 2)
  where
    which : (j < 2) ⊎ (2 ≤ j) → (bit_at new j == 1) ≡ two_on (has words) (64 * i + j)
    which (inl low) =
        let to : 64 * i + j ≡ suc (suc (64 * (i - 1) + (62 + j))) = omega arith in
        ap (λ b. b == 1) (first j low ∙ ap (λ w. bit_at w (62 + j)) was)
        ∙ sym (has_at words (i - 1) (62 + j) (omega arith))
        ∙ sym (two_at (has words) (64 * i + j) (64 * (i - 1) + (62 + j)) to)
    which (inr high) =
        let up : j ≡ (j - 2) + 2 = omega arith in
        let to : 64 * i + j ≡ suc (suc (64 * i + (j - 2))) = omega arith in
        ap (λ k. bit_at new k == 1) up
        ∙ ap (λ b. b == 1) (others (j - 2) (omega arith) ∙ ap (λ w. bit_at w (j - 2)) is)
        ∙ sym (has_at words i (j - 2) (omega arith))
        ∙ sym (two_at (has words) (64 * i + j) (64 * i + (j - 2)) to)

pub words_moved : (words new : List ℕ) (i : ℕ) → ((j : ℕ) → j < 64 → (bit_at (get_or new (i / 64) 0) j == 1) ≡ two_on (has words) (64 * (i / 64) + j)) → has new i ≡ two_on (has words) i
words_moved words new i is =
    let whole : 64 * (i / 64) + i % 64 ≡ i = omega arith in
    is (i % 64) (omega arith) ∙ ap (λ k. two_on (has words) k) whole
