-- What an index has, and what it is still to have.
use Rattle.std.specs.Prelude.{◌≡◌, ℕ, ◌<◌, ◌≤◌, Option, Some, None, Bool, true, false, ◌==◌, ◌&&◌, ◌||◌, List, [], ◌∷◌}
use Rattle.std.specs.BTreeSet as set
use Rattle.std.specs.List.{list_any}
use Rattle.std.specs.Ordering.{nat_cmp, ordering_then}
use Rattle.std.specs.declared.cmp.Ordering.{Ordering}
use Rattle.wot_index.specs.declared.draft.Draft.{Draft}
use Rattle.wot_index.specs.declared.index.Index.{Index}

abbrev pub pair_cmp : ℕ × ℕ → ℕ × ℕ → Ordering
pair_cmp a b = ordering_then (nat_cmp a.0 b.0) (nat_cmp a.1 b.1)

-- the key stands under the number
abbrev pub has : Index → ℕ → ℕ → Bool
has index n id = set.contains pair_cmp index.pairs (n, id)

abbrev pub has_pair : ℕ → ℕ → List (ℕ × ℕ) → Bool
has_pair n id pairs = list_any (λ pair. (pair.0 == n) && (pair.1 == id)) pairs

-- it does, or is to from the next settling on
abbrev pub drafts : Draft → ℕ → ℕ → Bool
drafts draft n id = has draft.index n id || has_pair n id draft.later.items

-- every other one of a list, from the first on or from the second
abbrev pub every_other : {X : Type 0} → Bool → List X → List X
every_other taken [] = []
every_other true (x ∷ xs) = x ∷ every_other false xs
every_other false (x ∷ xs) = every_other true xs

-- the least number above this one that a key stands under; None where there is no such number
abbrev pub IsSoonest : Index → ℕ → Option ℕ → Type 0
IsSoonest index number None = (n id : ℕ) → number < n → has index n id ≡ false
IsSoonest index number (Some least) = (number < least) × ((key : ℕ) × (has index least key ≡ true)) × ((n id : ℕ) → number < n → n < least → has index n id ≡ false)

-- the key stands under a number above the first and not above the second
abbrev pub StandsBetween : Index → ℕ → ℕ → ℕ → Type 0
StandsBetween index above upto id = (n : ℕ) × (above < n) × (n ≤ upto) × (has index n id ≡ true)
