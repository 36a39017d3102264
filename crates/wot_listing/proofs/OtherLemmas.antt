-- The user IDs of a block stay marked.
use Rattle.std.proofs.Common.{◌≡◌, ℕ, true, List, [], ◌∷◌, ◌++◌, length, sym, subst}
use Rattle.std.specs.Prelude.{◌==◌}
use Rattle.std.specs.BTreeSet.{BTreeSet}
use Rattle.std.proofs.lemmas.Bool.Decides.{Decides-eqb}
use Rattle.std.proofs.lemmas.List.{nil_from_length}
use Rattle.wot_types.specs.declared.user.User.{User}
use Rattle.wot_marks.specs.Marks.{AreMarked, KeepsMarks, has_mark, mark_of}
use Rattle.wot_marks.proofs.MarkLemmas.{stay_marked}
use Rattle.wot_listing.specs.Others.{OthersAreMarked}

module _ (old new : BTreeSet (List ℕ)) (keeps : KeepsMarks old new) where
  -- a mark of no user ID
  pub others_stay : (users : List User) → OthersAreMarked old users → OthersAreMarked new users
  others_stay [] marked = tt
  others_stay (first ∷ others) marked = stay_marked old new others keeps marked

  module _ (user : User) (there : has_mark new (mark_of user) ≡ true) where
    one_marked : (users : List User) → AreMarked old users → AreMarked new (users ++ user ∷ [])
    one_marked [] marked = (there, tt)
    one_marked (u ∷ users) marked = (keeps (mark_of u) marked.0, one_marked users marked.1)

    -- the mark of one more user ID, and the user ID
    pub others_more : (users : List User) → OthersAreMarked old users → OthersAreMarked new (users ++ user ∷ [])
    others_more [] marked = tt
    others_more (first ∷ others) marked = one_marked others marked

-- the first needs none
pub first_unmarked : (marks : BTreeSet (List ℕ)) (user : User) (users : List User) → (length users == 0) ≡ true
    → OthersAreMarked marks (users ++ user ∷ [])
first_unmarked marks user users none =
    subst (λ us. OthersAreMarked marks (us ++ user ∷ [])) (sym (nil_from_length users ((Decides-eqb (length users) 0).0 none))) tt
