-- Which user IDs of a block are marked.
use Rattle.std.specs.Prelude.{ℕ, List, [], ◌∷◌}
use Rattle.std.specs.BTreeSet.{BTreeSet}
use Rattle.wot_types.specs.declared.user.User.{User}
use Rattle.wot_marks.specs.Marks.{AreMarked}

-- each but the first has its mark among these
abbrev pub OthersAreMarked : BTreeSet (List ℕ) → List User → Type 0
OthersAreMarked marks [] = Unit {0}
OthersAreMarked marks (first ∷ others) = AreMarked marks others
