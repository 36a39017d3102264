-- The table of the digits of each byte.
use Rattle.std.proofs.Common.{◌≡◌, ℕ, zero, suc, ◌+◌, ◌-◌, ◌*◌, ◌/◌, ◌%◌, ◌<◌, Bool, true, ◌&&◌, T, eqb, slice_index, get_or, inl, inr, arith, eq-zero-or-pos, eqb→eq}
use lib.Ieee.Fits.{and_l, and_r}
use Rattle.hex.specs.Hex.{upper_digits}
use Rattle.wot_types.specs.declared.hex_digits.TheConstants.{PAIRS}

abbrev are_digits : ℕ → Bool
are_digits zero = true
are_digits (suc b) = (eqb (get_or PAIRS (2 * b) 0) (slice_index upper_digits (b / 16)) && eqb (get_or PAIRS (2 * b + 1) 0) (slice_index upper_digits (b % 16))) && are_digits b

below : (n b : ℕ) → T (are_digits n) → b < n → (get_or PAIRS (2 * b) 0 ≡ slice_index upper_digits (b / 16)) × (get_or PAIRS (2 * b + 1) 0 ≡ slice_index upper_digits (b % 16))
below zero b t h = absurd (omega arith)
below (suc n) b t h =
    elim (eq-zero-or-pos (n - b)) [
      | inl z ↦ let e : b ≡ n = omega arith in let both = and_l _ (are_digits n) t in rw e (eqb→eq _ _ (and_l _ _ both), eqb→eq _ _ (and_r _ _ both))
      | inr g ↦ below n b (and_r _ (are_digits n) t) (omega arith)
    ]

-- the two digits of a byte stand in the table
pub digits_at : (b : ℕ) → b < 256 → (get_or PAIRS (2 * b) 0 ≡ slice_index upper_digits (b / 16)) × (get_or PAIRS (2 * b + 1) 0 ≡ slice_index upper_digits (b % 16))
digits_at b h = below 256 b tt h
