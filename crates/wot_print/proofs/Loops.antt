-- The steps of a loop that prints.
use Rattle.std.proofs.Common.{◌≡◌, ℕ, ◌+◌, ◌<◌, ◌≤◌, List, [], ◌∷◌, ◌++◌, All, length, map, take, take_all, get_or, refl, sym, ap, subst, ◌∙◌}
use Rattle.std.specs.List.{flat_map}
use Rattle.std.proofs.lemmas.List.{flat_map_more, take_more}
use Rattle.std.proofs.lemmas.List.Elements.{All-cons, All-head, All-nil, All-push, All-tail}

module _ {X : Type 0} where
  -- what was gathered of the things so far, and that of one thing more
  pub one_more : {Y : Type 0} (f : X → List Y) (xs : List X) (i : ℕ) (x : X) → i < length xs → x ≡ get_or xs i x → flat_map f (take i xs) ++ f x ≡ flat_map f (take (i + 1) xs)
  one_more f xs i x h is = flat_map_more f [] (take i xs) x ∙ ap (flat_map f) (ap (λ y. take i xs ++ y ∷ []) is ∙ sym (take_more xs i x h))

  -- what holds of each so far holds of one thing more
  pub all_more : (P : X → Type 0) (xs : List X) (i : ℕ) (x : X) → i < length xs → x ≡ get_or xs i x → All P (take i xs) → P x → All P (take (i + 1) xs)
  all_more P xs i x l is h p = subst (All P) (ap (λ y. take i xs ++ y ∷ []) is ∙ sym (take_more xs i x l)) (All-push P (take i xs) x h p)

  -- and at the end of the loop of all
  all_of : (P : X → Type 0) (xs : List X) (i : ℕ) → length xs ≤ i → All P (take i xs) → All P xs
  all_of P xs i l h = subst (All P) (take_all i xs l) h

module _ {X Y : Type 0} (view : X → Y) where
  -- the lines of things are those of what is seen of them
  lines_of : (f : Y → List ℕ) (xs : List X) → flat_map (λ x. f (view x)) xs ≡ flat_map f (map view xs)
  lines_of f [] = refl
  lines_of f (x ∷ xs) = ap (λ l. f (view x) ++ l) (lines_of f xs)

  -- what holds of each thing, as it is seen, holds of all that is seen
  all_of_map : (P : Y → Type 0) (xs : List X) → All (λ x. P (view x)) xs → All P (map view xs)
  all_of_map P [] h = All-nil P
  all_of_map P (x ∷ xs) h = All-cons P (view x) (map view xs) (All-head (λ x. P (view x)) x xs h) (all_of_map P xs (All-tail (λ x. P (view x)) x xs h))

  -- at the end of the loop the lines are those of all things, each as it is seen
  pub lines_seen : (f : Y → List ℕ) (xs : List X) (i : ℕ) (ys : List Y) → length xs ≤ i → map view xs ≡ ys → flat_map (λ x. f (view x)) (take i xs) ≡ flat_map f ys
  lines_seen f xs i ys l seen = ap (flat_map (λ x. f (view x))) (take_all i xs l) ∙ lines_of f xs ∙ ap (flat_map f) seen

  -- and at the end of the loop it holds of these
  pub all_seen : (P : Y → Type 0) (xs : List X) (i : ℕ) (ys : List Y) → length xs ≤ i → All (λ x. P (view x)) (take i xs) → map view xs ≡ ys → All P ys
  all_seen P xs i ys l so_far seen = subst (All P) seen (all_of_map P xs (all_of (λ x. P (view x)) xs i l so_far))
