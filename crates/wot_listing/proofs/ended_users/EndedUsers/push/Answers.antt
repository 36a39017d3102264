use Rattle.std.proofs.Common.{◌∷◌, [], ◌++◌, sym, subst}
use Rattle.wot_listing.specs.Others.{OthersAreMarked}
use Rattle.wot_listing.proofs.OtherLemmas.{first_unmarked, others_more, others_stay}
use Rattle.wot_listing.proofs.ended_users.EndedUsers.push.Goals as goal
use Rattle.wot_listing.proofs.ended_users.EndedUsers.push.Goals.{then-not-is_empty+in_ok-add_mark, else-not-is_empty}

-- without memory for the mark no mark is lost
pub invariant_of-self : goal.invariant_of-self
invariant_of-self c = others_stay _ _ c.in_err-add_mark.ensures.keeps c.self.inside.users c.self.invariant

-- without memory for the user ID its mark stands alone
pub invariant_of-self-in_err-push : goal.invariant_of-self-in_err-push
invariant_of-self-in_err-push c =
    let users = c.self.inside.users in
    subst (OthersAreMarked c.if-not-is_empty.self-inside.marks) (sym c.in_err-push.ensures.err)
    (elim c.if-not-is_empty.branch [
      | then-not-is_empty+in_ok-add_mark w ↦
          subst (λ inside. OthersAreMarked inside.marks inside.users) (sym w.self-inside-is)
          (others_stay _ _ w.in_ok-add_mark.ensures.keeps users c.self.invariant)
      | else-not-is_empty w ↦ subst (λ inside. OthersAreMarked inside.marks inside.users) (sym w.self-inside-is) c.self.invariant
    ])

pub invariant_of-self-2 : goal.invariant_of-self-2
invariant_of-self-2 c =
    let user = c.args.user in
    let users = c.self.inside.users in
    subst (OthersAreMarked c.if-not-is_empty.self-inside.marks) (sym c.in_ok-push.ensures.ok)
    (elim c.if-not-is_empty.branch [
      | then-not-is_empty+in_ok-add_mark w ↦
          subst (λ inside. OthersAreMarked inside.marks (inside.users ++ user ∷ [])) (sym w.self-inside-is)
          (others_more _ _ w.in_ok-add_mark.ensures.keeps user w.in_ok-add_mark.ensures.there users c.self.invariant)
      | else-not-is_empty w ↦
          subst (λ inside. OthersAreMarked inside.marks (inside.users ++ user ∷ [])) (sym w.self-inside-is)
          (first_unmarked c.self.inside.marks user users (sym w.if-not-is_empty.ensures))
    ])
