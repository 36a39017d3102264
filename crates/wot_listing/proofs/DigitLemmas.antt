-- Digits that are read pair by pair, the bad ones too.
use Rattle.std.proofs.Common.{◌≡◌, ℕ, ◌+◌, ◌*◌, ◌<◌, ◌≤◌, Bool, true, false, cond, ◌&&◌, List, length, take, drop, slice_index, slice_set, Result, Ok, Err, Some, None, refl, ap, ◌∙◌}
use Rattle.std.specs.Result.{result_ok}
use Rattle.hex.specs.Hex.{decode_pairs, digit_or_error, hex_digit_value, pair_value, ◌>>=◌}
use Rattle.hex.specs.declared.error.FromHexError.{FromHexError}
use Rattle.hex.proofs.Pairs.{decode_done, decode_err, decode_step, prepend}

-- a pair of which each is a digit or not
pub pair_is : (high low i h l : ℕ) (a b : Bool) → hex_digit_value high ≡ cond a (Some h) None → hex_digit_value low ≡ cond b (Some l) None
    → result_ok (pair_value high low i) ≡ cond (a && b) (Some (h * 16 + l)) None
pair_is high low i h l a b p q =
    (λ j. result_ok (digit_or_error high i (p j) >>= (λ x. digit_or_error low (i + 1) (q j) >>= (λ y. Ok (x * 16 + y))))) ∙ cases a b
  where
    cases : (a b : Bool) → result_ok (digit_or_error high i (cond a (Some h) None) >>= (λ x. digit_or_error low (i + 1) (cond b (Some l) None) >>= (λ y. Ok (x * 16 + y)))) ≡ cond (a && b) (Some (h * 16 + l)) None
    cases true true = refl
    cases true false = refl
    cases false b = refl

-- the first i pairs were read into the bytes, where all of them are digits
abbrev pub PairsRead : Bool → List ℕ → List ℕ → ℕ → Type 0
PairsRead true f bytes i = decode_pairs 0 f ≡ prepend (take i bytes) (decode_pairs (2 * i) (drop (2 * i) f))
PairsRead false f bytes i = result_ok (decode_pairs 0 f) ≡ None

ok_of : (r : Result ℕ FromHexError) (v : ℕ) → result_ok r ≡ Some v → r ≡ Ok v
ok_of (Ok x) v e = cc
ok_of (Err e) v is = cc

err_of : (r : Result ℕ FromHexError) → result_ok r ≡ None → (e : FromHexError) × (r ≡ Err e)
err_of (Ok x) is = cc
err_of (Err e) is = (e, refl)

-- one pair more
pub pairs_step : (good is_good : Bool) (f bytes : List ℕ) (i v : ℕ) → 2 * i + 1 < length f → i < length bytes
    → result_ok (pair_value (slice_index f (2 * i)) (slice_index f (2 * i + 1)) (2 * i)) ≡ cond is_good (Some v) None
    → PairsRead good f bytes i → PairsRead (good && is_good) f (slice_set bytes i v) (i + 1)
pairs_step true true f bytes i v fits room pair read = decode_step f bytes i v fits room (ok_of _ v pair) read
pairs_step true false f bytes i v fits room pair read =
    let bad = err_of _ pair in
    ap result_ok (decode_err f bytes i bad.0 fits bad.1 read)
pairs_step false is_good f bytes i v fits room pair read = read

-- all pairs
pub pairs_done : (good : Bool) (f bytes : List ℕ) (i : ℕ) → length bytes ≤ i → length f ≤ 2 * i → PairsRead good f bytes i
    → result_ok (decode_pairs 0 f) ≡ cond good (Some bytes) None
pairs_done true f bytes i all fits read = ap result_ok (decode_done f bytes i all fits read)
pairs_done false f bytes i all fits read = read
