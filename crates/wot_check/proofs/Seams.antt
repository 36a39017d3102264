-- What was made piece by piece is what is made of the whole.
use Rattle.std.proofs.Common.{◌≡◌, ◌+◌, ◌*◌, ◌<◌, ◌++◌, suc, ℕ, Bool, List, [], ◌∷◌, length, drop, find, Option, Some, refl, sym, ap, ◌∙◌, arith}
use Rattle.std.specs.Fork.{slice_chunk}
use Rattle.std.specs.Int.{div_ceil}
use Rattle.std.specs.Option.{option_or}
use Rattle.std.specs.List.{slice_get}
use Rattle.std.proofs.lemmas.Grind.{div_ceil_times}
use Rattle.std.proofs.lemmas.List.{drop_all, drop-drop, take-append-drop}
use Rattle.std.proofs.lemmas.List.Folds.{find-append}
use Rattle.wot_workers.specs.Pieces.{IsByPiece, first_some}

module _ {X : Type 0} (size : ℕ) (some : 0 < size) (xs : List X) where
  -- behind the last piece nothing is left
  pub all_cut : (n : ℕ) → n ≡ div_ceil (length xs) size → drop (n * size) xs ≡ []
  all_cut n is =
      let cover = (div_ceil_times (length xs) size some).0 in
      let same : n * size ≡ div_ceil (length xs) size * size = ap (λ k. k * size) is in
      drop_all (n * size) xs (omega (arith, cover, same))

  -- a piece and what is behind it
  pub cut_on : (n : ℕ) → slice_chunk xs size n ++ drop (suc n * size) xs ≡ drop (n * size) xs
  cut_on n =
      let more : suc n * size ≡ n * size + size = omega arith in
      ap (λ k. slice_chunk xs size n ++ drop k xs) more ∙ ap (λ ys. slice_chunk xs size n ++ ys) (sym (drop-drop size (n * size) xs)) ∙ take-append-drop size (drop (n * size) xs)

module _ (p : ℕ → Bool) (size : ℕ) (some : 0 < size) (ids : List ℕ) where
  found_on : (n : ℕ) (made : List (Option ℕ)) → length made + n ≡ div_ceil (length ids) size
      → ((k : ℕ) (r : Option ℕ) → slice_get made k ≡ Some r → r ≡ find p (slice_chunk ids size (n + k))) → first_some made ≡ find p (drop (n * size) ids)
  found_on n [] count each = ap (find p) (sym (all_cut size some ids n (omega (arith, count))))
  found_on n (r ∷ made) count each =
      let here : n + 0 ≡ n = omega arith in
      let rest = found_on (suc n) made (omega (arith, count)) (λ k r is. each (suc k) r is ∙ ap (λ i. find p (slice_chunk ids size i)) (next n k)) in
      ap (λ x. option_or x (first_some made)) (each 0 r refl ∙ ap (λ i. find p (slice_chunk ids size i)) here)
      ∙ ap (option_or (find p (slice_chunk ids size n))) rest
      ∙ sym (find-append p (slice_chunk ids size n) (drop (suc n * size) ids))
      ∙ ap (find p) (cut_on size some ids n)
    where
      next : (n k : ℕ) → n + suc k ≡ suc n + k
      next n k = omega arith

  -- the first that a piece finds is the first of all
  pub first_of_pieces : (made : List (Option ℕ)) → IsByPiece (find p) size ids made → first_some made ≡ find p ids
  first_of_pieces made by =
      let all : length made + 0 ≡ div_ceil (length ids) size = omega (arith, by.count) in
      let start : 0 * size ≡ 0 = omega arith in
      found_on 0 made all (λ k r is. by.each k r is ∙ ap (λ i. find p (slice_chunk ids size i)) (from k)) ∙ ap (λ k. find p (drop k ids)) start
    where
      from : (k : ℕ) → k ≡ 0 + k
      from k = omega arith
