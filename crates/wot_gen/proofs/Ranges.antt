-- Lists that are made from the numbers of a range, with one number more.
use Rattle.std.proofs.Common.{◌≡◌, ℕ, ◌+◌, [], ◌∷◌, ◌++◌, Option, Some, None, ap, ◌∙◌, arith, add-one, zero, suc, append-nil}
use Rattle.std.specs.List.{cons_option, filter_map, range_with_len}
use Rattle.std.proofs.lemmas.List.Elements.{filter_map-append}

range_more : (a n j : ℕ) → a + n ≡ j → range_with_len a (suc n) ≡ range_with_len a n ++ j ∷ []
range_more a zero j e = ap (λ x. x ∷ []) (let same : a ≡ j = omega arith in same)
range_more a (suc n) j e = ap (λ xs. a ∷ xs) (range_more (a + 1) n j (omega arith))

filter_map_more : {Y : Type 0} (f : ℕ → Option Y) (n : ℕ) (last : Option Y) → f n ≡ last
    → filter_map f (range_with_len 0 (n + 1)) ≡ filter_map f (range_with_len 0 n) ++ cons_option last []
filter_map_more f n last e =
    rw (add-one n)
    (ap (filter_map f) (range_more 0 n n (omega arith))
    ∙ filter_map-append f (range_with_len 0 n) (n ∷ [])
    ∙ ap (λ o. filter_map f (range_with_len 0 n) ++ cons_option o []) e)

-- the last number gives an item, or none
pub filter_map_some : {Y : Type 0} (f : ℕ → Option Y) (n : ℕ) (y : Y) → f n ≡ Some y → filter_map f (range_with_len 0 (n + 1)) ≡ filter_map f (range_with_len 0 n) ++ y ∷ []
filter_map_some f n y e = filter_map_more f n (Some y) e

pub filter_map_none : {Y : Type 0} (f : ℕ → Option Y) (n : ℕ) → f n ≡ None → filter_map f (range_with_len 0 (n + 1)) ≡ filter_map f (range_with_len 0 n)
filter_map_none f n e = filter_map_more f n None e ∙ append-nil (filter_map f (range_with_len 0 n))
