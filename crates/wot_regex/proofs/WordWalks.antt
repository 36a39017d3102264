-- Going through the marks of a word of a set.
use Rattle.std.proofs.Common.{◌≡◌, ◌≢◌, ℕ, suc, zero, ◌+◌, ◌-◌, ◌*◌, ◌/◌, ◌%◌, ◌^◌, ◌<◌, ◌≤◌, ◌==◌, ◌⊎◌, inl, inr, true, false, ◌||◌, List, [], ◌∷◌, length, get_or, bit_and, refl, sym, ap, ap₂, ◌∙◌, subst, arith}
use Rattle.std.specs.Int.{bit_at, bit_not, trailing_zeros, w64}
use Rattle.std.proofs.lemmas.Bool.{cases_eq, cases_lt}
use Rattle.std.proofs.lemmas.Nat.{and_le_l}
use Rattle.std.proofs.lemmas.Nat.Bits.{bit_at-trailing_zeros, bit_at-zero, bit_at_clear_other, bit_at_clear_same}
use Rattle.wot_regex.specs.Following.{Holds, IsRow, IsRows, front, has}
use Rattle.wot_regex.specs.Reaching.{marked, nowhere}
use Rattle.wot_regex.specs.declared.followers.Row.{Row}
use Rattle.wot_regex.specs.declared.node.Node.{Node}
use Rattle.wot_regex.specs.declared.reach.Reach.{Reach}
use Rattle.wot_regex.specs.declared.steps.Common.{Common}
use Rattle.wot_regex.proofs.Followings.{front_all, front_over, row_more}

-- the marks before a place of the word are gone through, and the others are left
pub record Walked (nodes : List Node) (cells : List Reach) (from word left : ℕ) (row : Row) : Type 0 where
  pub place : ℕ
  pub within : place ≤ 64
  pub gone : (j : ℕ) → j < place → bit_at left j ≡ 0
  pub rest : (j : ℕ) → place ≤ j → j < 64 → bit_at left j ≡ bit_at word j
  pub so_far : IsRow nodes false (front (from + place) cells) row

-- a word without its lowest mark
abbrev pub cleared : ℕ → ℕ
cleared n = bit_and n (bit_not w64 (1 * 2 ^ trailing_zeros w64 n % 18446744073709551616))

pub cleared_less : (n : ℕ) → 0 < n → n < 2 ^ 64 → cleared n < n
cleared_less n some fits = less (cases_eq (cleared n) n)
  where
    less : (cleared n ≡ n) ⊎ (cleared n ≢ n) → cleared n < n
    less (inl same) =
        let h = bit_at-trailing_zeros w64 n some fits in
        let off : bit_at n (trailing_zeros w64 n) ≡ 0 = ap (λ x. bit_at x (trailing_zeros w64 n)) (sym same) ∙ bit_at_clear_same w64 n (trailing_zeros w64 n) h.0 in
        absurd (omega (arith, off, h.1))
    less (inr other) = omega (arith, other, and_le_l n (bit_not w64 (1 * 2 ^ trailing_zeros w64 n % 18446744073709551616)))

beyond : (cs : List Reach) (i : ℕ) → length cs ≤ i → get_or cs i nowhere ≡ nowhere
beyond [] i le = refl
beyond (c ∷ cs) zero le = absurd (omega arith)
beyond (c ∷ cs) (suc i) le = beyond cs i (omega arith)

front_beyond : (i : ℕ) (cs : List Reach) → length cs ≤ i → front (i + 1) cs ≡ front i cs
front_beyond i cs le = front_all (i + 1) cs (omega arith) ∙ sym (front_all i cs le)

module _ (nodes : List Node) (common : Common) (rows : List Row) (words : List ℕ) (cells : List Reach) (i from word : ℕ) (known : IsRows nodes common rows) (same : length cells ≡ length nodes) (holds : Holds words cells)
    (starts : from ≡ 64 * i) (is_word : word ≡ get_or words i 0) where
  has_place : (j : ℕ) → j < 64 → has words (from + j) ≡ (bit_at word j == 1)
  has_place j lt =
      let q : (from + j) / 64 ≡ i = omega (arith, starts) in
      let r : (from + j) % 64 ≡ j = omega (arith, starts) in
      ap₂ (λ k b. bit_at (get_or words k 0) b == 1) q r ∙ ap (λ w. bit_at w j == 1) (sym is_word)

  unmarked_place : (j : ℕ) → j < 64 → bit_at word j ≡ 0 → (from + j < length cells) ⊎ (length cells ≤ from + j) → get_or cells (from + j) nowhere ≡ nowhere
  unmarked_place j lt off (inl here) = holds (from + j) here ∙ ap marked (has_place j lt ∙ ap (λ b. b == 1) off)
  unmarked_place j lt off (inr behind) = beyond cells (from + j) behind

  -- places without marks
  skipped : (p k : ℕ) → p ≤ k → k ≤ 64 → ((j : ℕ) → p ≤ j → j < k → bit_at word j ≡ 0) → front (from + k) cells ≡ front (from + p) cells
  skipped p k le within off =
      let n = k - p in
      let up : from + k ≡ (from + p) + n = omega arith in
      ap (λ m. front m cells) up
      ∙ front_over (from + p) n cells (λ j ge lt.
      let here : from + (j - from) ≡ j = omega arith in
      let P : ℕ → Type 0 = λ m. get_or cells m nowhere ≡ nowhere in
      subst P here (unmarked_place (j - from) (omega arith) (off (j - from) (omega arith) (omega arith)) (cases_lt (from + (j - from)) (length cells))))

  pub walk_begins : (row : Row) → IsRow nodes false (front from cells) row → Walked nodes cells from word word row
  walk_begins row is =
      let P : ℕ → Type 0 = λ m. IsRow nodes false (front m cells) row in
      let none : from ≡ from + 0 = omega arith in record {
        place = 0;
        within = omega arith;
        gone = λ j lt. absurd (omega arith);
        rest = λ j le lt. refl;
        so_far = subst P none is;
      }

  pub walk_ends : (left : ℕ) (row : Row) → left ≡ 0 → Walked nodes cells from word left row → IsRow nodes false (front (from + 64) cells) row
  walk_ends left row none w =
      let P : List Reach → Type 0 = λ x. IsRow nodes false x row in
      subst P (sym (skipped w.place 64 w.within (omega arith) (λ j le lt. sym (w.rest j le lt) ∙ ap (λ x. bit_at x j) none ∙ bit_at-zero j))) w.so_far

  module _ (left : ℕ) (some : 0 < left) (fits : left < 2 ^ 64) (row : Row) (w : Walked nodes cells from word left row) where
    abbrev lowest : ℕ
    lowest = trailing_zeros w64 left

    lowest_in : lowest < 64
    lowest_in = (bit_at-trailing_zeros w64 left some fits).0

    lowest_on : bit_at left lowest ≡ 1
    lowest_on = (bit_at-trailing_zeros w64 left some fits).1

    lowest_first : (j : ℕ) → j < lowest → bit_at left j ≡ 0
    lowest_first j lt = (bit_at-trailing_zeros w64 left some fits).2 j lt

    ahead : (lowest < w.place) ⊎ (w.place ≤ lowest) → w.place ≤ lowest
    ahead (inl before) = absurd (omega (arith, w.gone lowest before, lowest_on))
    ahead (inr behind) = behind

    place_ahead : w.place ≤ lowest
    place_ahead = ahead (cases_lt lowest w.place)

    before_lowest : IsRow nodes false (front (from + lowest) cells) row
    before_lowest =
        let P : List Reach → Type 0 = λ x. IsRow nodes false x row in
        subst P (sym (skipped w.place lowest place_ahead (omega (arith, lowest_in)) (λ j le lt. sym (w.rest j le (omega (arith, lt, lowest_in))) ∙ lowest_first j lt))) w.so_far

    joined : (new other : Row) → length nodes ≤ 512 → (from + lowest < length nodes) ⊎ (length nodes ≤ from + lowest) → (from + lowest < length nodes → other ≡ get_or rows (from + lowest) other)
        → (from + lowest < length nodes → (j : ℕ) → j < 512 → has new.next.words j ≡ (has row.next.words j || has other.next.words j)) → (from + lowest < length nodes → new.found ≡ (row.found || other.found))
        → (length nodes ≤ from + lowest → new ≡ row) → IsRow nodes false (front ((from + lowest) + 1) cells) new
    joined new other room (inl here) is next found kept =
        let on : has words (from + lowest) ≡ true = has_place lowest lowest_in ∙ ap (λ b. b == 1) (sym (w.rest lowest place_ahead lowest_in) ∙ lowest_on) in
        row_more nodes common rows words cells (from + lowest) known same holds here row new other room (is here) on before_lowest (next here) (found here)
    joined new other room (inr behind) is next found kept =
        let P : Row → Type 0 = λ r. IsRow nodes false (front ((from + lowest) + 1) cells) r in
        let Q : List Reach → Type 0 = λ x. IsRow nodes false x row in
        subst P (sym (kept behind)) (subst Q (sym (front_beyond (from + lowest) cells (omega (arith, behind, same)))) before_lowest)

    gone_more : (j : ℕ) → j < lowest + 1 → (j ≡ lowest) ⊎ (j ≢ lowest) → bit_at (cleared left) j ≡ 0
    gone_more j lt (inl e) = ap (λ k. bit_at (cleared left) k) e ∙ bit_at_clear_same w64 left lowest lowest_in
    gone_more j lt (inr other) = bit_at_clear_other w64 left lowest lowest_in j (omega (arith, lt, lowest_in)) other ∙ lowest_first j (omega (arith, lt, other))

    pub walk_on : (new other : Row) → length nodes ≤ 512 → (from + lowest < length nodes → other ≡ get_or rows (from + lowest) other)
        → (from + lowest < length nodes → (j : ℕ) → j < 512 → has new.next.words j ≡ (has row.next.words j || has other.next.words j)) → (from + lowest < length nodes → new.found ≡ (row.found || other.found))
        → (length nodes ≤ from + lowest → new ≡ row) → Walked nodes cells from word (cleared left) new
    walk_on new other room is next found kept =
        let P : ℕ → Type 0 = λ m. IsRow nodes false (front m cells) new in
        let up : (from + lowest) + 1 ≡ from + (lowest + 1) = omega arith in record {
          place = lowest + 1;
          within = omega (arith, lowest_in);
          gone = λ j lt. gone_more j lt (cases_eq j lowest);
          rest = λ j le lt.
              let apart : j ≢ lowest = λ e. omega (arith, e, le) in
              bit_at_clear_other w64 left lowest lowest_in j lt apart ∙ w.rest j (omega (arith, le, place_ahead)) lt;
          so_far = subst P up (joined new other room (cases_lt (from + lowest) (length nodes)) is next found kept);
        }
