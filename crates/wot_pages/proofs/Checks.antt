-- Seals held against contents: page by page, piece by piece, and beside the pages of a side.
use Rattle.std.proofs.Common.{◌≡◌, ◌⊎◌, inl, inr, ℕ, suc, ◌+◌, ◌-◌, ◌*◌, ◌<◌, ◌≤◌, Bool, true, false, cond, not, List, [], ◌∷◌, ◌++◌, length, take, drop, get_or, find, Option, Some, None, refl, sym, ◌∙◌, ap, arith, nat_eq}
use Rattle.std.specs.Cmp.Lexicographic.{pointwise}
use Rattle.std.specs.Fork.{slice_chunk}
use Rattle.std.specs.Int.{div_ceil}
use Rattle.std.specs.List.{range_with_len, slice_get}
use Rattle.std.specs.Option.{option_or}
use Rattle.std.proofs.lemmas.Bool.{cases_lt}
use Rattle.std.proofs.lemmas.Grind.{div_ceil_times}
use Rattle.std.proofs.lemmas.List.{at_drop_more, drop_all, drop-drop, get_or_append_left, get_or-append_right, length-append, length-drop, length-take-le, take-append-drop}
use Rattle.std.proofs.lemmas.List.Folds.{find-append}
use Rattle.std.proofs.lemmas.List.FromFn.{get_or-map-range_with_len, length-map-range_with_len}
use Rattle.wot_pages.specs.Page.{seal}
use Rattle.wot_pages.specs.Pages.{content_in, content_at, seal_at, seals_of, is_sealed, seal_fault}
use Rattle.wot_pages.specs.Checking.{first_wrong}
use Rattle.wot_workers.specs.Pieces.{IsByPlace, first_some}
use Rattle.wot_pages.proofs.Runs.{find_found, find_same, range_append}

-- a content as it is cut out
pub content_cut : (contents : List ℕ) (k at long : ℕ) → at ≡ 4064 * k → long ≡ 4064 → take long (drop at contents) ≡ content_in contents k
content_cut contents k at long there whole = λ i. take (whole i) (drop (there i) contents)

module _ (epoch : ℕ) (contents : List ℕ) where
  abbrev is_wrong : ℕ → List ℕ → Bool
  is_wrong k found = not (pointwise nat_eq found (seal epoch k (content_in contents k)))

  -- the test by which the first is found
  abbrev wrong_at : ℕ → List (List ℕ) → ℕ → Bool
  wrong_at from seals k = is_wrong k (get_or seals (k - from) [])

  -- one that is told is one of the pages
  pub wrong_within : (k : ℕ) (seals : List (List ℕ)) → first_wrong epoch 0 contents seals ≡ Some k → k < length seals
  wrong_within k seals is = (find_found (wrong_at 0 seals) (length seals) k is).0

  pub wrong_on : (from : ℕ) (xs ys : List (List ℕ)) → first_wrong epoch from contents (xs ++ ys) ≡ option_or (first_wrong epoch from contents xs) (first_wrong epoch (from + length xs) contents ys)
  wrong_on from xs ys =
      let all = wrong_at from (xs ++ ys) in
      ap (λ (n : ℕ). find all (range_with_len from n)) (length-append xs ys) ∙ ap (λ (l : List ℕ). find all l) (range_append from (length xs) (length ys))
      ∙ find-append all (range_with_len from (length xs)) (range_with_len (from + length xs) (length ys))
      ∙ (λ i. option_or (find_same all (wrong_at from xs) from (length xs) in_front i) (find_same all (wrong_at (from + length xs) ys) (from + length xs) (length ys) behind i))
    where
      in_front : (k : ℕ) → from ≤ k → k < from + length xs → wrong_at from (xs ++ ys) k ≡ wrong_at from xs k
      in_front k le lt = ap (is_wrong k) (get_or_append_left xs ys [] (k - from) (omega (arith, le, lt)))

      behind : (k : ℕ) → from + length xs ≤ k → k < from + length xs + length ys → wrong_at from (xs ++ ys) k ≡ wrong_at (from + length xs) ys k
      behind k le lt =
          let same : k - from - length xs ≡ k - (from + length xs) = omega arith in
          ap (is_wrong k) (get_or-append_right xs ys (length xs) (k - from) [] refl (omega (arith, le)) ∙ ap (λ (j : ℕ). get_or ys j []) same)

  -- ---- page by page

  wrong_one : (k : ℕ) (found : List ℕ) → first_wrong epoch k contents (found ∷ []) ≡ cond (is_wrong k found) (Some k) None
  wrong_one k found = let start : k - k ≡ 0 = omega arith in ap (λ (j : ℕ). cond (is_wrong k (get_or (found ∷ []) j [])) (Some k) None) start

  module _ (seals : List (List ℕ)) (from i : ℕ) (inside : i < length seals) where
    one_on : first_wrong epoch (from + i) contents (drop i seals)
        ≡ cond (is_wrong (from + i) (get_or seals i [])) (Some (from + i)) (first_wrong epoch (from + (i + 1)) contents (drop (i + 1) seals))
    one_on =
        let next : from + i + 1 ≡ from + (i + 1) = omega arith in
        let found = get_or seals i [] in
        at_drop_more (first_wrong epoch (from + i) contents) seals i [] inside
        ∙ wrong_on (from + i) (found ∷ []) (drop (i + 1) seals)
        ∙ (λ j. option_or (wrong_one (from + i) found j) (first_wrong epoch (next j) contents (drop (i + 1) seals)))
        ∙ by_test (is_wrong (from + i) found) (first_wrong epoch (from + (i + 1)) contents (drop (i + 1) seals))
      where
        by_test : (b : Bool) (rest : Option ℕ) → option_or (cond b (Some (from + i)) None) rest ≡ cond b (Some (from + i)) rest
        by_test true rest = refl
        by_test false rest = refl

    -- what the comparison with the seal that was counted has told
    module _ (counted : List ℕ) (differs : Bool) (right : counted ≡ seal epoch (from + i) (content_in contents (from + i))) (is : differs ≡ not (pointwise nat_eq (get_or seals i []) counted)) where
      compared : differs ≡ is_wrong (from + i) (get_or seals i [])
      compared = is ∙ ap (λ (l : List ℕ). not (pointwise nat_eq (get_or seals i []) l)) right

      chosen : (b : Bool) → differs ≡ b → first_wrong epoch (from + i) contents (drop i seals) ≡ cond b (Some (from + i)) (first_wrong epoch (from + (i + 1)) contents (drop (i + 1) seals))
      chosen b told = one_on ∙ ap (λ (t : Bool). cond t (Some (from + i)) (first_wrong epoch (from + (i + 1)) contents (drop (i + 1) seals))) (sym compared ∙ told)

      pub wrong_here : differs ≡ true → Some (from + i) ≡ first_wrong epoch (from + i) contents (drop i seals)
      wrong_here yes_it_does = sym (chosen true yes_it_does)

      pub right_here : differs ≡ false → first_wrong epoch (from + (i + 1)) contents (drop (i + 1) seals) ≡ first_wrong epoch (from + i) contents (drop i seals)
      right_here no_it_doesnt = sym (chosen false no_it_doesnt)

  -- ---- piece by piece

  module _ (size : ℕ) (some : 0 < size) (seals : List (List ℕ)) where
    -- behind the last piece nothing is left
    all_cut : (n : ℕ) → n ≡ div_ceil (length seals) size → drop (n * size) seals ≡ []
    all_cut n is =
        let cover = (div_ceil_times (length seals) size some).0 in
        let same : n * size ≡ div_ceil (length seals) size * size = ap (λ (k : ℕ). k * size) is in
        drop_all (n * size) seals (omega (arith, cover, same))

    -- a piece and what is behind it
    cut_on : (n : ℕ) → slice_chunk seals size n ++ drop (suc n * size) seals ≡ drop (n * size) seals
    cut_on n =
        let more : suc n * size ≡ n * size + size = omega arith in
        ap (λ (k : ℕ). slice_chunk seals size n ++ drop k seals) more
        ∙ ap (λ (ys : List (List ℕ)). slice_chunk seals size n ++ ys) (sym (drop-drop size (n * size) seals)) ∙ take-append-drop size (drop (n * size) seals)

    -- what is told of the pages behind a piece
    behind : (n : ℕ) → (length seals < suc n * size) ⊎ (suc n * size ≤ length seals)
        → first_wrong epoch (n * size + length (slice_chunk seals size n)) contents (drop (suc n * size) seals) ≡ first_wrong epoch (suc n * size) contents (drop (suc n * size) seals)
    behind n (inl none) =
        let left : drop (suc n * size) seals ≡ [] = drop_all (suc n * size) seals (omega (arith, none)) in
        ap (first_wrong epoch (n * size + length (slice_chunk seals size n)) contents) left ∙ sym (ap (first_wrong epoch (suc n * size) contents) left)
    behind n (inr full) =
        let more : suc n * size ≡ n * size + size = omega arith in
        let long : length (slice_chunk seals size n) ≡ size = length-take-le size (drop (n * size) seals) (omega (arith, full, more, length-drop (n * size) seals)) in
        let same : n * size + length (slice_chunk seals size n) ≡ suc n * size = omega (arith, more, long) in
        ap (λ (k : ℕ). first_wrong epoch k contents (drop (suc n * size) seals)) same

    wrong_cut : (n : ℕ) → first_wrong epoch (n * size) contents (drop (n * size) seals)
        ≡ option_or (first_wrong epoch (n * size) contents (slice_chunk seals size n)) (first_wrong epoch (suc n * size) contents (drop (suc n * size) seals))
    wrong_cut n =
        ap (first_wrong epoch (n * size) contents) (sym (cut_on n))
        ∙ wrong_on (n * size) (slice_chunk seals size n) (drop (suc n * size) seals)
        ∙ ap (option_or (first_wrong epoch (n * size) contents (slice_chunk seals size n))) (behind n (cases_lt (length seals) (suc n * size)))

    abbrev told : ℕ → Option ℕ
    told n = first_wrong epoch (n * size) contents (slice_chunk seals size n)

    found_on : (n : ℕ) (made : List (Option ℕ)) → length made + n ≡ div_ceil (length seals) size
        → ((k : ℕ) (r : Option ℕ) → slice_get made k ≡ Some r → r ≡ told (n + k)) → first_some made ≡ first_wrong epoch (n * size) contents (drop (n * size) seals)
    found_on n [] count each = sym (ap (first_wrong epoch (n * size) contents) (all_cut n (omega (arith, count))))
    found_on n (r ∷ made) count each =
        let here : n + 0 ≡ n = omega arith in
        let rest = found_on (suc n) made (omega (arith, count)) (λ k r is. each (suc k) r is ∙ ap told (next n k)) in
        ap (λ (x : Option ℕ). option_or x (first_some made)) (each 0 r refl ∙ ap told here) ∙ ap (option_or (told n)) rest ∙ sym (wrong_cut n)
      where
        next : (n k : ℕ) → n + suc k ≡ suc n + k
        next n k = omega arith

    -- the first that a piece tells is the first of all
    pub first_of_pieces : (made : List (Option ℕ)) → IsByPlace (λ from piece. first_wrong epoch from contents piece) size seals made
        → first_some made ≡ first_wrong epoch 0 contents seals
    first_of_pieces made by =
        let all : length made + 0 ≡ div_ceil (length seals) size = omega (arith, by.count) in
        let start : 0 * size ≡ 0 = omega arith in
        found_on 0 made all (λ k r is. by.each k r is ∙ ap told (from k)) ∙ ap (λ (k : ℕ). first_wrong epoch k contents (drop k seals)) start
      where
        from : (k : ℕ) → k ≡ 0 + k
        from k = omega arith

-- ---- beside the pages of a side

-- the check of what was read tells the first fault of the side
pub wrong_of_side : (epoch n : ℕ) (bytes contents : List ℕ) → ((k : ℕ) → k < n → content_in contents k ≡ content_at bytes k)
    → first_wrong epoch 0 contents (seals_of n bytes) ≡ seal_fault epoch n bytes
wrong_of_side epoch n bytes contents each =
    ap (λ (m : ℕ). find (wrong_at epoch contents 0 (seals_of n bytes)) (range_with_len 0 m)) (length-map-range_with_len (λ k. seal_at bytes k) 0 n)
    ∙ find_same (wrong_at epoch contents 0 (seals_of n bytes)) (λ k. not (is_sealed epoch bytes k)) 0 n
    (λ k le lt i. not (pointwise nat_eq (read k lt i) (seal epoch k (each k (omega (arith, lt)) i))))
  where
    read : (k : ℕ) → k < 0 + n → get_or (seals_of n bytes) (k - 0) [] ≡ seal_at bytes k
    read k lt = get_or-map-range_with_len (λ j. seal_at bytes j) 0 n (k - 0) k [] (omega (arith, lt)) (omega arith)
