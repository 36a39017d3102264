-- A part of a page that is filled behind what stands in it.
use Rattle.std.proofs.Common.{◌≡◌, ℕ, ◌+◌, ◌≤◌, List, ◌++◌, length, take, drop, sym, ap, ◌∙◌, arith}
use Rattle.std.proofs.Math.Seq.{take-append-add}
use Rattle.std.proofs.lemmas.List.{length-append, length-drop, length-take-le, take-append-le}
use borrow.Rule.Slice.PartMut.{put_mid}

module _ (a k : ℕ) (xs ys : List ℕ) (within : a ≤ length xs) where
  front : length (take a xs) ≡ a
  front = length-take-le a xs within

  pub take_part : (n : ℕ) → n ≤ length ys → take (a + n) (put_mid a k xs ys) ≡ take a xs ++ take n ys
  take_part n few =
      ap (λ (m : ℕ). take (m + n) (put_mid a k xs ys)) (sym front) ∙ take-append-add (take a xs) (ys ++ drop k (drop a xs)) n
      ∙ ap (λ (l : List ℕ). take a xs ++ l) (take-append-le n ys (drop k (drop a xs)) few)

  pub length_part : length ys ≡ k → a + k ≤ length xs → length (put_mid a k xs ys) ≡ length xs
  length_part whole fits =
      let rest : length (ys ++ drop k (drop a xs)) ≡ length ys + length (drop k (drop a xs)) = length-append ys (drop k (drop a xs)) in
      let all : length (put_mid a k xs ys) ≡ length (take a xs) + length (ys ++ drop k (drop a xs)) = length-append (take a xs) (ys ++ drop k (drop a xs)) in
      omega (arith, rest, all, front, whole, length-drop k (drop a xs), length-drop a xs)
