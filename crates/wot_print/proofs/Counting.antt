-- The counts of letters, and of the letters of some keys.
use Rattle.std.proofs.Common.{◌≡◌, ◌+◌, ◌*◌, ◌<◌, ◌≤◌, ℕ, cond, List, [], ◌∷◌, ◌++◌, append_assoc, count_by, length, map, take, take_all, codes, refl, sym, ap, ◌∙◌, arith}
use Rattle.std.specs.FinMap as finmap
use Rattle.std.specs.Fork.{slice_chunk}
use Rattle.std.specs.Int.{div_ceil}
use Rattle.std.specs.List.{AllByRecursion, flat_map}
use Rattle.std.proofs.lemmas.Grind.{div_ceil_times, flat_map-append}
use Rattle.std.proofs.lemmas.List.Sums.{sum_by-append}
use Rattle.std.proofs.Math.Nat.{mul-le-mul_right}
use Rattle.std.proofs.Math.Seq.{take-add}
use Rattle.wot_types.specs.declared.key.Key.{Key}
use Rattle.wot_types.specs.declared.letter.Letter.{Letter}
use Rattle.wot_types.specs.declared.letter.Letter.TheVariants.{Dash, Q, M, F, U, R, E}
use Rattle.wot_types.specs.Bytes.{newline}
use Rattle.wot_types.specs.Candidates.{RowMap}
use Rattle.wot_types.specs.Letters.{user_letters}
use Rattle.wot_types.specs.Numbers.{capped}
use Rattle.wot_types.specs.Printing.{number_field}
use Rattle.wot_types.specs.State.{State}
use Rattle.wot_types.specs.Tally.{all_letters, letter_count, same_letter, tally_line}
use Rattle.wot_types.proofs.Capped.{capped_add}
use Rattle.wot_types.proofs.MapLemmas.{IsAt, entries_at}
use Rattle.wot_workers.specs.Pieces.{IsByPiece}
use Rattle.wot_print.specs.declared.counts.LetterCounts.{LetterCounts}
use Rattle.wot_print.specs.Counts.{count_in, counts_line, counts_of}
use Rattle.wot_print.specs.KeyLetters.{letters_among, letters_at, letters_if}

-- ---- counts

both_capped : (a b : ℕ) → capped (capped a + capped b) ≡ capped (a + b)
both_capped a b =
    let left : a + capped b ≡ capped b + a = omega arith in
    let right : b + a ≡ a + b = omega arith in
    capped_add a (capped b) ∙ ap capped left ∙ capped_add b a ∙ ap capped right

pub count_both : (a b : List Letter) (letter : Letter) → capped (count_in a letter + count_in b letter) ≡ count_in (a ++ b) letter
count_both a b letter =
    both_capped (count_by (same_letter letter) a) (count_by (same_letter letter) b) ∙ ap capped (sym (sum_by-append (λ x. cond (same_letter letter x) 1 0) a b))

-- one counts and other ones together
abbrev pub sum_of : LetterCounts → LetterCounts → LetterCounts
sum_of x y = record {
  ultimate = capped (x.ultimate + y.ultimate);
  full = capped (x.full + y.full);
  marginal = capped (x.marginal + y.marginal);
  undefined = capped (x.undefined + y.undefined);
  unknown = capped (x.unknown + y.unknown);
  revoked = capped (x.revoked + y.revoked);
  expired = capped (x.expired + y.expired);
}

pub counts_both : (a b : List Letter) (x y : LetterCounts) → x ≡ counts_of a → y ≡ counts_of b → sum_of x y ≡ counts_of (a ++ b)
counts_both a b x y first second =
    (λ i. sum_of (first i) (second i))
    ∙ (λ i. record {
      ultimate = count_both a b U i;
      full = count_both a b F i;
      marginal = count_both a b M i;
      undefined = count_both a b Q i;
      unknown = count_both a b Dash i;
      revoked = count_both a b R i;
      expired = count_both a b E i;
    })

-- ---- the line

behind : (p x y z : List ℕ) → p ++ x ≡ y → p ++ (x ++ z) ≡ y ++ z
behind p x y z is = sym (append_assoc p x z) ∙ ap (λ l. l ++ z) is

pub line_is : (s : State) (rows : RowMap) → counts_line rows (counts_of (all_letters s rows)) ≡ tally_line s rows
line_is s rows =
    ap (λ l. l ++ newline ∷ [])
    (behind front _ _ (of E) (behind front _ _ (of R) (behind front _ _ (of Dash) (behind front _ _ (of Q) (behind front _ _ (of M) (behind front (of U) (front ++ of U) (of F) refl))))))
  where
    of : Letter → List ℕ
    of letter = number_field (letter_count s rows letter)

    front : List ℕ
    front = codes "tally:" ++ number_field (capped (finmap.len rows))

-- ---- the letters of some keys

letters_of_entries : (s : State) (rows : RowMap) (es : List (ℕ × Key)) → AllByRecursion (IsAt s.keys) es
    → flat_map (letters_at s rows) (map (λ e. e.0) es) ≡ flat_map (λ e. user_letters s rows e.0 e.1) es
letters_of_entries s rows [] h = refl
letters_of_entries s rows (e ∷ es) h = λ i. letters_if s rows e.0 (h.0 i) ++ letters_of_entries s rows es h.1 i

-- all letters are those of all keys
pub letters_of_all : (s : State) (rows : RowMap) → letters_among s rows (finmap.keys s.keys) ≡ all_letters s rows
letters_of_all s rows = letters_of_entries s rows (finmap.entries s.keys) (entries_at s.keys)

-- ---- piece by piece

module _ (f : ℕ → List Letter) (size : ℕ) (ids : List ℕ) where
  one_piece : (n : ℕ) → take (n * size) ids ++ slice_chunk ids size n ≡ take ((n + 1) * size) ids
  one_piece n =
      let more : (n + 1) * size ≡ n * size + size = omega arith in
      sym (ap (λ k. take k ids) more ∙ take-add (n * size) size ids)

  -- the letters of a piece more
  pub one_piece_more : (n : ℕ) → flat_map f (take (n * size) ids) ++ flat_map f (slice_chunk ids size n) ≡ flat_map f (take ((n + 1) * size) ids)
  one_piece_more n = sym (flat_map-append f (take (n * size) ids) (slice_chunk ids size n)) ∙ ap (flat_map f) (one_piece n)

  -- behind the last piece they are those of all
  pub all_pieces : (made : List LetterCounts) (n : ℕ) → IsByPiece (λ piece. counts_of (flat_map f piece)) size ids made → 0 < size → length made ≤ n → flat_map f (take (n * size) ids) ≡ flat_map f ids
  all_pieces made n by some past =
      let cover = (div_ceil_times (length ids) size some).0 in
      let many : div_ceil (length ids) size ≤ n = omega (arith, by.count, past) in
      let more : div_ceil (length ids) size * size ≤ n * size = mul-le-mul_right size many in
      ap (flat_map f) (take_all (n * size) ids (omega (arith, cover, more)))
