-- How many digits a number has in decimal.
use Rattle.std.proofs.Common.{◌≡◌, ℕ, ◌+◌, ◌*◌, ◌^◌, ◌<◌, ◌≤◌, ◌⊎◌, inl, inr, Option, Some, None, IfSome, IfNone, length, decimal, arith, add-one, sym, ap, ◌∙◌}
use Rattle.std.proofs.Math.Nat.{pow-suc, pow-le-pow_right}
use Rattle.std.specs.Prelude.{unwrap_or}
use Rattle.std.proofs.lemmas.Bool.{cases_lt}
use Rattle.std.proofs.lemmas.Fmt.{decimal_digit, decimal_is_IsNumeral, length-decimal-le}
use Rattle.std.proofs.lemmas.Int.Digits.{digits_value-lt}

-- a number of at most k digits is below 10 ^ k
below_power : (k n : ℕ) → n < 2 ^ 64 → length (decimal n) ≤ k → n < 10 ^ k
below_power k n small few =
    let wide : 10 ^ length (decimal n) ≤ 10 ^ k = pow-le-pow_right (omega arith) few in
    omega (arith, (decimal_is_IsNumeral n small).1, digits_value-lt 10 (decimal n) (decimal_is_IsNumeral n small).0.1, wide)

not_fewer : (k n : ℕ) → n < 2 ^ 64 → 10 ^ k ≤ n → (k < length (decimal n)) ⊎ (length (decimal n) ≤ k) → k < length (decimal n)
not_fewer k n small least (inl more) = more
not_fewer k n small least (inr few) = absurd (omega (arith, below_power k n small few))

-- a number from 10 ^ k up to the next power has k + 1 digits
length-decimal : (k n : ℕ) → n < 2 ^ 64 → 10 ^ k ≤ n → n < 10 * 10 ^ k → length (decimal n) ≡ k + 1
length-decimal k n small least most =
    let below : n < 10 ^ (k + 1) = rw (add-one, pow-suc 10 k) (omega arith) in
    omega (arith, not_fewer k n small least (cases_lt k (length (decimal n))), length-decimal-le (k + 1) n (omega arith) below small)

-- the number of digits is the logarithm and one, and 0 has one digit
pub digits_by_logarithm : (log : Option ℕ) (n : ℕ) → n < 2 ^ 64 → IfNone log (n ≡ 0) → IfSome log (λ k. 10 ^ k ≤ n) → IfSome log (λ k. n < 10 * 10 ^ k)
    → unwrap_or log 0 + 1 ≡ length (decimal n)
digits_by_logarithm None n small zero least most = sym (ap (λ m. length (decimal m)) zero ∙ ap length (decimal_digit 0 (omega arith)))
digits_by_logarithm (Some k) n small zero least most = sym (length-decimal k n small least most)
