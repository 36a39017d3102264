-- The fingerprints of a sample rise with the keys' numbers.
use Rattle.std.proofs.Common.{◌≡◌, ℕ, ◌+◌, ◌*◌, ◌/◌, ◌%◌, ◌^◌, ◌<◌, ◌≤◌, ◌⊎◌, inl, inr, List, [], ◌∷◌, ◌++◌, refl, sym, ap, ◌∙◌, arith, zero, suc}
use Rattle.std.specs.declared.cmp.Ordering.TheVariants.{Less, Equal}
use Rattle.std.specs.Cmp.{nat_cmp_is}
use Rattle.std.specs.Cmp.Lexicographic.{slice_cmp}
use Rattle.std.specs.Int.{byte_at, bytes_high_first, to_be_bytes, w64}
use Rattle.std.specs.Ordering.{nat_cmp, ordering_then}
use Rattle.std.proofs.Math.Nat.{add-mul, div-one, mod-lt, mul-le-mul_right, mul_assoc, mul_comm, one-le-pow, pow-suc}
use Rattle.std.proofs.lemmas.Bool.{cases_order}
use Rattle.std.proofs.lemmas.Nat.{div-add-mod', mod-mul-add, mul-add-lt}
use Rattle.wot_types.specs.Fingerprint.{fpr_cmp}
use Rattle.wot_types.specs.Sample.{sample_fpr, sample_id}

tied : (x y : ℕ) → x ≡ y → nat_cmp x y ≡ Equal
tied x y e = sym (nat_cmp_is x y Equal e)

below : (x y : ℕ) → x < y → nat_cmp x y ≡ Less
below x y h = sym (nat_cmp_is x y Less h)

-- a common front decides nothing
after_front : (front xs ys : List ℕ) → slice_cmp nat_cmp (front ++ xs) (front ++ ys) ≡ slice_cmp nat_cmp xs ys
after_front [] xs ys = refl
after_front (b ∷ front) xs ys = ap (λ o. ordering_then o (slice_cmp nat_cmp (front ++ xs) (front ++ ys))) (tied b b refl) ∙ after_front front xs ys

-- the last digits of a number: one at a place, and those after it
digits_from : (p n : ℕ) → 0 < p → n % (p * 256) ≡ n / p % 256 * p + n % p
digits_from p n some =
    let q = n / p in
    let rest : n % p < p = mod-lt n some in
    let whole : q * p + n % p ≡ n = div-add-mod' n p in
    let split : q ≡ q / 256 * 256 + q % 256 = omega arith in
    let apart : q * p ≡ q / 256 * 256 * p + q % 256 * p = ap (λ x. x * p) split ∙ add-mul (q / 256 * 256) (q % 256) p in
    let turned : q / 256 * 256 * p ≡ q / 256 * (p * 256) = mul_assoc (q / 256) 256 p ∙ ap (λ x. q / 256 * x) (mul_comm 256 p) in
    let sum : n ≡ q / 256 * (p * 256) + (q % 256 * p + n % p) = omega (arith, whole, apart, turned) in
    ap (λ x. x % (p * 256)) sum ∙ mod-mul-add (q / 256) (p * 256) (q % 256 * p + n % p) (mul-add-lt (q % 256) p (n % p) 256 (omega arith) rest)

byte_is : (k n : ℕ) → byte_at k n ≡ n / 256 ^ k % 256
byte_is zero n = ap (λ x. x % 256) (sym (div-one n))
byte_is (suc k) n = refl

bytes_from : (k n : ℕ) → n % 256 ^ suc k ≡ byte_at k n * 256 ^ k + n % 256 ^ k
bytes_from k n = rw (pow-suc 256 k, byte_is k n) (digits_from (256 ^ k) n (one-le-pow k 256 (omega arith)))

-- a number with a greater digit isn't below
not_above : (p a b r s : ℕ) → r < p → s < p → a * p + r < b * p + s → b < a → ⊥
not_above p a b r s small_r small_s less more =
    let wide : (b + 1) * p ≤ a * p = mul-le-mul_right p (let next : b + 1 ≤ a = omega arith in next) in
    omega (arith, wide, add-mul b 1 p)

abbrev HaveOrder : ℕ → ℕ → ℕ → Type 0
HaveOrder k m n = m % 256 ^ k < n % 256 ^ k → slice_cmp nat_cmp (bytes_high_first k m) (bytes_high_first k n) ≡ Less

by_order : (k m n : ℕ) → HaveOrder k m n → (byte_at k m ≡ byte_at k n) ⊎ ((byte_at k m < byte_at k n) ⊎ (byte_at k n < byte_at k m)) → HaveOrder (suc k) m n
by_order k m n after (inl same) less =
    ap (λ o. ordering_then o (slice_cmp nat_cmp (bytes_high_first k m) (bytes_high_first k n))) (tied (byte_at k m) (byte_at k n) same)
    ∙ after (omega (arith, bytes_from k m, bytes_from k n, ap (λ x. x * 256 ^ k) same))
by_order k m n after (inr (inl first)) less = ap (λ o. ordering_then o (slice_cmp nat_cmp (bytes_high_first k m) (bytes_high_first k n))) (below (byte_at k m) (byte_at k n) first)
by_order k m n after (inr (inr more)) less =
    let some : 0 < 256 ^ k = one-le-pow k 256 (omega arith) in
    absurd (not_above (256 ^ k) (byte_at k m) (byte_at k n) (m % 256 ^ k) (n % 256 ^ k) (mod-lt m some) (mod-lt n some) (omega (arith, bytes_from k m, bytes_from k n)) more)

-- big-endian bytes are in the order of the numbers
rising_bytes : (k m n : ℕ) → HaveOrder k m n
rising_bytes zero m n less = absurd (omega arith)
rising_bytes (suc k) m n less = by_order k m n (rising_bytes k m n) (cases_order (byte_at k m) (byte_at k n)) less

pub rising_fprs : (seed i j : ℕ) → i < j → j < 2 ^ 32 → fpr_cmp (sample_fpr seed i) (sample_fpr seed j) ≡ Less
rising_fprs seed i j less small =
    after_front (to_be_bytes w64 seed ++ 0 ∷ 0 ∷ 0 ∷ 0 ∷ []) (to_be_bytes w64 (sample_id seed i)) (to_be_bytes w64 (sample_id seed j))
    ∙ rising_bytes 8 (sample_id seed i) (sample_id seed j) (omega arith)
