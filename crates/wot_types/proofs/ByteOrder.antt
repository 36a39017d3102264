-- The order of bytes, some of them at a time.
use Rattle.std.proofs.Common.{◌≡◌, ℕ, suc, ◌+◌, ◌*◌, ◌<◌, List, [], ◌∷◌, length, refl, sym, ap, ap₂, ◌∙◌, arith, w32}
use Rattle.std.specs.Cmp.Lexicographic.{slice_cmp}
use Rattle.std.specs.Int.{from_be_bytes}
use Rattle.std.specs.List.{slice_index}
use Rattle.std.specs.Ordering.{nat_cmp, ordering_then}
use Rattle.std.specs.declared.cmp.Ordering.{Ordering}
use Rattle.std.specs.declared.cmp.Ordering.TheVariants.{Less, Equal, Greater}
use Rattle.std.proofs.lemmas.Bool.Decides.{nat_tests}

then_equal : (o : Ordering) → ordering_then o Equal ≡ o
then_equal Less = refl
then_equal Equal = refl
then_equal Greater = refl

then_then : (o p q : Ordering) → ordering_then (ordering_then o p) q ≡ ordering_then o (ordering_then p q)
then_then Less p q = refl
then_then Equal p q = refl
then_then Greater p q = refl

abbrev pub AreBytes : List ℕ → Type 0
AreBytes xs = (i : ℕ) → slice_index xs i < 256

-- the number that bytes spell, the highest first, after another number
spelled : ℕ → List ℕ → ℕ
spelled n [] = n
spelled n (x ∷ xs) = spelled (n * 256 + x) xs

one_more : (m n x y : ℕ) → x < 256 → y < 256 → nat_cmp (m * 256 + x) (n * 256 + y) ≡ ordering_then (nat_cmp m n) (nat_cmp x y)
one_more m n x y h k = grind (arith, nat_tests)

spelled_cmp : (m n : ℕ) (xs ys : List ℕ) → length xs ≡ length ys → AreBytes xs → AreBytes ys
    → nat_cmp (spelled m xs) (spelled n ys) ≡ ordering_then (nat_cmp m n) (slice_cmp nat_cmp xs ys)
unfolding spelled
spelled_cmp m n [] [] same h k = sym (then_equal (nat_cmp m n))
spelled_cmp m n [] (y ∷ ys) same h k = absurd (omega (arith, same))
spelled_cmp m n (x ∷ xs) [] same h k = absurd (omega (arith, same))
spelled_cmp m n (x ∷ xs) (y ∷ ys) same h k =
    spelled_cmp (m * 256 + x) (n * 256 + y) xs ys (omega (arith, same)) (λ i. h (suc i)) (λ i. k (suc i))
    ∙ ap (λ o. ordering_then o (slice_cmp nat_cmp xs ys)) (one_more m n x y (h 0) (k 0))
    ∙ then_then (nat_cmp m n) (nat_cmp x y) (slice_cmp nat_cmp xs ys)

of_four : (xs : List ℕ) → length xs ≡ 4 → from_be_bytes w32 xs ≡ spelled 0 xs
unfolding spelled
of_four [] e = absurd (omega (arith, e))
of_four (a ∷ []) e = absurd (omega (arith, e))
of_four (a ∷ b ∷ []) e = absurd (omega (arith, e))
of_four (a ∷ b ∷ c ∷ []) e = absurd (omega (arith, e))
of_four (a ∷ b ∷ c ∷ d ∷ []) e = omega arith
of_four (a ∷ b ∷ c ∷ d ∷ x ∷ xs) e = absurd (omega (arith, e))

-- four bytes stand to four others as the numbers do that they spell
pub four : (xs ys : List ℕ) → length xs ≡ 4 → length ys ≡ 4 → AreBytes xs → AreBytes ys
    → nat_cmp (from_be_bytes w32 xs) (from_be_bytes w32 ys) ≡ slice_cmp nat_cmp xs ys
four xs ys e f h k = ap₂ nat_cmp (of_four xs e) (of_four ys f) ∙ spelled_cmp 0 0 xs ys (e ∙ sym f) h k
