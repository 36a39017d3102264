-- A list in pieces.
use Rattle.std.specs.Prelude.{◌≡◌, ℕ, ◌*◌, ◌≤◌, List, [], ◌∷◌, length, slice_get, Option, Some, None}
use Rattle.std.specs.Fork.{slice_chunk}
use Rattle.std.specs.Int.{div_ceil}
use Rattle.std.specs.Option.{option_or}

-- the size of pieces by which so many workers share so many things: the least that makes a piece for each worker at most
pub record IsPieceSize (workers len size : ℕ) : Type 0 where
  pub positive : 1 ≤ size
  pub few : div_ceil len size ≤ workers
  pub least : (other : ℕ) → 1 ≤ other → div_ceil len other ≤ workers → size ≤ other

-- what was made of each piece, in order, by the place where it begins
pub record IsByPlace {X R : Type 0} (make : ℕ → List X → R) (size : ℕ) (xs : List X) (made : List R) : Type 0 where
  pub count : length made ≡ div_ceil (length xs) size
  pub each : (n : ℕ) (r : R) → slice_get made n ≡ Some r → r ≡ make (n * size) (slice_chunk xs size n)

-- what was made of each piece, in order
abbrev pub IsByPiece : {X R : Type 0} → (List X → R) → ℕ → List X → List R → Type 0
IsByPiece make = IsByPlace (λ _ piece. make piece)

abbrev pub first_some : {X : Type 0} → List (Option X) → Option X
first_some [] = None
first_some (x ∷ xs) = option_or x (first_some xs)
