-- Eight places of a set as bits of a number.
use Rattle.std.proofs.Common.{◌≡◌, ◌≢◌, ℕ, ◌+◌, ◌-◌, ◌*◌, ◌/◌, ◌%◌, ◌^◌, ◌<◌, ◌≤◌, ◌==◌, ◌⊎◌, inl, inr, Bool, true, false, ◌&&◌, ◌||◌, not, List, ◌∷◌, length, get_or, set, replicate, suc, zero, refl, sym, ap, ap₂, ◌∙◌, subst, arith}
use Rattle.std.specs.Int.{bit_at}
use Rattle.std.proofs.lemmas.Bool.{cases_eq, cases_lt}
use Rattle.std.proofs.lemmas.Grind.{get_or-set_at}
use Rattle.std.proofs.lemmas.List.{get_or-set_other}
use Rattle.std.proofs.lemmas.Nat.{pow_pos, shr-shr}
use Rattle.std.proofs.lemmas.Nat.Bits.{bit_at-zero, bit_at_above, bit_at_cat_high, bit_at_cat_low}
use Rattle.wot_regex.specs.Following.{Before, Holds, IsRow, IsSoFar, cells_by, has, in_eight}
use Rattle.wot_regex.specs.Reaching.{marked, nowhere}
use Rattle.wot_regex.specs.declared.followers.Row.{Row}
use Rattle.wot_regex.specs.declared.node.Node.{Node}
use Rattle.wot_regex.specs.declared.reach.Reach.{Reach}
use Rattle.wot_regex.proofs.Followings.{none_has, or_false, row_joined, same_marks}
use Rattle.wot_regex.proofs.Joins.{AllJoin}
use Rattle.wot_regex.proofs.Stepping.{cells_by_at, cells_by_length, holds_by, parts_join}

-- read

low_part : (x : ℕ) → x ≡ x / 2 ^ 8 * 2 ^ 8 + x % 256
low_part x = omega arith

pub eight_bits : (words : List ℕ) (at j : ℕ) → j < 8 → (bit_at (get_or words (at / 8) 0 / 2 ^ (8 * (at % 8)) % 256) j == 1) ≡ has words (8 * at + j)
eight_bits words at j lt =
    let w = get_or words (at / 8) 0 in
    let s = 8 * (at % 8) in
    let x = w / 2 ^ s in
    let q : at / 8 ≡ (8 * at + j) / 64 = omega arith in
    let r : s + j ≡ (8 * at + j) % 64 = omega arith in
    ap (λ b. b == 1)
    (sym (bit_at_cat_low (x / 2 ^ 8) 8 (x % 256) j lt)
    ∙ ap (λ y. bit_at y j) (sym (low_part x))
    ∙ ap (λ y. y % 2) (shr-shr w s j))
    ∙ ap₂ (λ k b. bit_at (get_or words k 0) b == 1) q r

-- made

abbrev pub with_eight : ℕ → ℕ → List ℕ
with_eight at value = set (replicate 8 0) (at / 8) (value * 2 ^ (8 * (at % 8)) % 18446744073709551616)

cut : (x : ℕ) → x ≡ x / 2 ^ 64 * 2 ^ 64 + x % 18446744073709551616
cut x = omega arith

plain : (x : ℕ) → x ≡ x + 0
plain x = omega arith

fits_word : (x j : ℕ) → j < 64 → bit_at (x % 18446744073709551616) j ≡ bit_at x j
fits_word x j lt = sym (bit_at_cat_low (x / 2 ^ 64) 64 (x % 18446744073709551616) j lt) ∙ ap (λ y. bit_at y j) (sym (cut x))

not_eight : (at value i : ℕ) → i / 8 ≢ at → false ≡ in_eight at value i
not_eight at value i apart = grind (arith, apart)

the_eight : (at value i : ℕ) → i / 8 ≡ at → (bit_at value (i % 8) == 1) ≡ in_eight at value i
the_eight at value i e =
    let on : true ≡ (i / 8 == at) = grind (arith, e) in
    ap (λ b. b && (bit_at value (i % 8) == 1)) on

in_word : (at value i : ℕ) → value < 256 → i / 64 ≡ at / 8 → (i % 64 < 8 * (at % 8)) ⊎ (8 * (at % 8) ≤ i % 64) → (i % 64 < 8 * (at % 8) + 8) ⊎ (8 * (at % 8) + 8 ≤ i % 64)
    → (bit_at (value * 2 ^ (8 * (at % 8)) % 18446744073709551616) (i % 64) == 1) ≡ in_eight at value i
in_word at value i less e (inl low) _ =
    let s = 8 * (at % 8) in
    let apart : i / 8 ≢ at = λ same. omega (arith, low, same, e) in
    ap (λ b. b == 1) (fits_word (value * 2 ^ s) (i % 64) (omega arith) ∙ ap (λ y. bit_at y (i % 64)) (plain (value * 2 ^ s)) ∙ bit_at_cat_low value s 0 (i % 64) low ∙ bit_at-zero (i % 64))
    ∙ not_eight at value i apart
in_word at value i less e (inr high) (inl low) =
    let s = 8 * (at % 8) in
    let same : i / 8 ≡ at = omega (arith, high, low, e) in
    let here : i % 64 - s ≡ i % 8 = omega (arith, high, low, e) in
    ap (λ b. b == 1)
    (fits_word (value * 2 ^ s) (i % 64) (omega arith)
    ∙ ap (λ y. bit_at y (i % 64)) (plain (value * 2 ^ s))
    ∙ bit_at_cat_high value s 0 (i % 64) (pow_pos s) high
    ∙ ap (λ k. bit_at value k) here)
    ∙ the_eight at value i same
in_word at value i less e (inr high) (inr above) =
    let s = 8 * (at % 8) in
    let apart : i / 8 ≢ at = λ same. omega (arith, above, same, e) in
    ap (λ b. b == 1)
    (fits_word (value * 2 ^ s) (i % 64) (omega arith)
    ∙ ap (λ y. bit_at y (i % 64)) (plain (value * 2 ^ s))
    ∙ bit_at_cat_high value s 0 (i % 64) (pow_pos s) high
    ∙ bit_at_above value 8 (i % 64 - s) (omega (arith, less)) (omega (arith, above)))
    ∙ not_eight at value i apart

made : (at value i : ℕ) → at < 64 → value < 256 → (i / 64 ≡ at / 8) ⊎ (i / 64 ≢ at / 8) → has (with_eight at value) i ≡ in_eight at value i
made at value i room less (inl e) =
    let w = value * 2 ^ (8 * (at % 8)) % 18446744073709551616 in
    let lt : at / 8 < 8 = omega (arith, room) in
    ap (λ x. bit_at x (i % 64) == 1) (get_or-set_at (replicate 8 0) (at / 8) (i / 64) w 0 e lt)
    ∙ in_word at value i less e (cases_lt (i % 64) (8 * (at % 8))) (cases_lt (i % 64) (8 * (at % 8) + 8))
made at value i room less (inr other) =
    let w = value * 2 ^ (8 * (at % 8)) % 18446744073709551616 in
    let apart : i / 8 ≢ at = λ same. omega (arith, same, other) in
    ap (λ x. bit_at x (i % 64) == 1) (get_or-set_other (replicate 8 0) (at / 8) (i / 64) w 0 other) ∙ none_has i ∙ not_eight at value i apart

pub eight_made : (at value i : ℕ) → at < 64 → value < 256 → has (with_eight at value) i ≡ in_eight at value i
eight_made at value i room less = made at value i room less (cases_eq (i / 64) (at / 8))

-- no place is marked

none_by : (f : ℕ → Bool) (n : ℕ) → ((i : ℕ) → i < n → f i ≡ false) → cells_by f n ≡ replicate n nowhere
none_by f zero off = refl
none_by f (suc n) off = ap₂ (λ b cs. marked b ∷ cs) (off 0 (omega arith)) (none_by (λ i. f (suc i)) n (λ i lt. off (suc i) (omega arith)))

pub row_of_none : (nodes : List Node) (row : Row) (f : ℕ → Bool) → IsRow nodes false (replicate (length nodes) nowhere) row → ((i : ℕ) → i < length nodes → f i ≡ false) → IsRow nodes false (cells_by f (length nodes)) row
row_of_none nodes row f is off =
    let P : List Reach → Type 0 = λ x. IsRow nodes false x row in
    subst P (sym (none_by f (length nodes) off)) is

-- the places of a set that are marked
pub row_of_set : (nodes : List Node) (words : List ℕ) (cells : List Reach) (row : Row) → length cells ≡ length nodes → Holds words cells → IsRow nodes false (cells_by (has words) (length nodes)) row → IsRow nodes false cells row
row_of_set nodes words cells row same holds is =
    let P : List Reach → Type 0 = λ x. IsRow nodes false x row in
    subst P (same_marks words (cells_by (has words) (length nodes)) cells (cells_by_length (has words) (length nodes) ∙ sym same) (holds_by words (length nodes)) holds) is

-- a set that has these places
pub holds_these : (words : List ℕ) (f : ℕ → Bool) (n : ℕ) → n ≤ 512 → ((i : ℕ) → i < 512 → has words i ≡ f i) → Holds words (cells_by f n)
holds_these words f n room is i lt =
    let here : i < n = omega (arith, lt, cells_by_length f n) in
    cells_by_at f n i here ∙ ap marked (sym (is i (omega (arith, here, room))))

-- eight places more

and_true : (x : Bool) → (x && true) ≡ x
and_true true = refl
and_true false = refl

and_false : (x : Bool) → (x && false) ≡ false
and_false true = refl
and_false false = refl

module _ (words : List ℕ) (n at value : ℕ) (bits : (j : ℕ) → j < 8 → (bit_at value j == 1) ≡ has words (8 * at + j)) (f : ℕ → Bool) (b : Before words n (at + 1) f) where
  abbrev others : ℕ → Bool
  others i = f i && not (i / 8 == at)

  others_on : (i : ℕ) → i / 8 ≡ at → others i ≡ false
  others_on i e =
      let on : (i / 8 == at) ≡ true = grind (arith, e) in
      ap (λ x. f i && not x) on ∙ and_false (f i)

  others_off : (i : ℕ) → i / 8 ≢ at → others i ≡ f i
  others_off i apart =
      let off : (i / 8 == at) ≡ false = grind (arith, apart) in
      ap (λ x. f i && not x) off ∙ and_true (f i)

  others_rest : (i : ℕ) → i < n → 8 * at ≤ i → (i / 8 ≡ at) ⊎ (i / 8 ≢ at) → others i ≡ false
  others_rest i lt le (inl e) = others_on i e
  others_rest i lt le (inr apart) = others_off i apart ∙ b.rest i lt (omega (arith, le, apart))

  others_before : Before words n at others
  others_before = record {
    first = λ i lt less.
        let apart : i / 8 ≢ at = λ e. omega (arith, e, less) in
        others_off i apart ∙ b.first i lt (omega (arith, less));
    rest = λ i lt le. others_rest i lt le (cases_eq (i / 8) at);
  }

  joins_at : (i : ℕ) → i < n → (i / 8 ≡ at) ⊎ (i / 8 ≢ at) → f i ≡ (others i || in_eight at value i)
  joins_at i lt (inl e) =
      let whole : i ≡ 8 * at + i % 8 = omega (arith, e) in
      b.first i lt (omega (arith, e))
      ∙ ap (has words) whole
      ∙ sym (bits (i % 8) (omega arith))
      ∙ the_eight at value i e
      ∙ ap (λ x. x || in_eight at value i) (sym (others_on i e))
  joins_at i lt (inr apart) = or_false (f i) ∙ ap₂ (λ x y. x || y) (sym (others_off i apart)) (not_eight at value i apart)

  these_join : AllJoin (cells_by f n) (cells_by others n) (cells_by (in_eight at value) n)
  these_join =
      let P : ℕ → Type 0 = λ k. AllJoin (cells_by f n) (cells_by others k) (cells_by (in_eight at value) k) in
      subst P (cells_by_length f n)
      (parts_join (cells_by f n) others (in_eight at value) (λ i lt.
      let here : i < n = omega (arith, lt, cells_by_length f n) in
      cells_by_at f n i here ∙ ap marked (joins_at i here (cases_eq (i / 8) at))))

pub eight_more : (nodes : List Node) (words : List ℕ) (at value : ℕ) (row other new : Row) → length nodes ≤ 512 → ((j : ℕ) → j < 8 → (bit_at value j == 1) ≡ has words (8 * at + j)) → IsSoFar nodes words at row → IsRow nodes false (cells_by (in_eight at value) (length nodes)) other
    → ((i : ℕ) → i < 512 → has new.next.words i ≡ (has row.next.words i || has other.next.words i)) → new.found ≡ (row.found || other.found) → IsSoFar nodes words (at + 1) new
eight_more nodes words at value row other new room bits so_far is next found f b =
    row_joined nodes new row other room (these_join words (length nodes) at value bits f b) (so_far (others words (length nodes) at value bits f b) (others_before words (length nodes) at value bits f b)) is next found

-- the row of a table for these eight places
pub in_table : (nodes : List Node) (table : List Row) (at value : ℕ) (d : Row) → ((k : ℕ) (e : Row) → k < length table → IsRow nodes false (cells_by (in_eight (k % 64) (k / 64)) (length nodes)) (get_or table k e)) → at < 64 → 64 * value + at < length table
    → IsRow nodes false (cells_by (in_eight at value) (length nodes)) (get_or table (64 * value + at) d)
in_table nodes table at value d each less lt =
    let q : (64 * value + at) % 64 ≡ at = omega (arith, less) in
    let r : (64 * value + at) / 64 ≡ value = omega (arith, less) in
    let P : ℕ → Type 0 = λ a. IsRow nodes false (cells_by (in_eight a value) (length nodes)) (get_or table (64 * value + at) d) in
    let Q : ℕ → Type 0 = λ v. IsRow nodes false (cells_by (in_eight ((64 * value + at) % 64) v) (length nodes)) (get_or table (64 * value + at) d) in
    subst P q (subst Q r (each (64 * value + at) d lt))
