-- User IDs are told apart from the last on.
use Rattle.std.proofs.Common.{◌≡◌, ℕ, ◌+◌, ◌-◌, ◌<◌, ◌≤◌, true, false, ◌&&◌, not, List, [], ◌∷◌, ◌++◌, length, take, drop, get_or, refl, sym, ap, ◌∙◌, arith}
use Rattle.std.specs.List.{list_any}
use Rattle.std.proofs.Math.Bool.{and-false}
use Rattle.std.proofs.lemmas.List.{drop_more, take-append-drop, take_rest}
use Rattle.wot_types.specs.declared.user.User.{User}
use Rattle.wot_types.specs.Listing.{is_same_user}
use Rattle.wot_marks.proofs.SameUsers.{one_agrees}
use Rattle.wot_spelling.specs.Checks.{are_distinct}

not_distinct_more : (earlier later : List User) → are_distinct later ≡ false → are_distinct (earlier ++ later) ≡ false
unfolding are_distinct
not_distinct_more [] later fails = fails
not_distinct_more (user ∷ earlier) later fails =
    ap (λ b. not (list_any (is_same_user user) (earlier ++ later)) && b) (not_distinct_more earlier later fails) ∙ and-false _

-- the slice behind a place, which is told by the place one on
pub behind : (users : List User) (place : ℕ) → 0 < place → take (length users - (place - 1 + 1)) (drop (place - 1 + 1) users) ≡ drop place users
behind users place some = take_rest users (place - 1 + 1) ∙ ap (λ n. drop n users) (omega arith)

module _ (users : List User) (place : ℕ) (user : User) (some : 0 < place) (within : place ≤ length users) (is : user ≡ get_or users (place - 1) user) where
  pub here : drop (place - 1) users ≡ user ∷ drop place users
  here =
      let next : place - 1 + 1 ≡ place = omega arith in
      drop_more users (place - 1) user (omega arith) ∙ (λ i. sym is i ∷ drop (next i) users)

  pub found_twice : list_any (λ other. is_same_user other user) (drop place users) ≡ true → are_distinct users ≡ false
  unfolding are_distinct
  found_twice twice =
      ap are_distinct (sym (take-append-drop (place - 1) users))
      ∙ not_distinct_more (take (place - 1) users) (drop (place - 1) users)
      (ap are_distinct here ∙ ap (λ b. not b && are_distinct (drop place users)) (one_agrees user (drop place users) ∙ twice))

  pub found_once : list_any (λ other. is_same_user other user) (drop place users) ≡ false → are_distinct (drop place users) ≡ true
      → are_distinct (drop (place - 1) users) ≡ true
  unfolding are_distinct
  found_once once distinct = ap are_distinct here ∙ (λ i. not ((one_agrees user (drop place users) ∙ once) i) && distinct i)

pub few_distinct : (users : List User) → length users < 2 → true ≡ are_distinct users
unfolding are_distinct
few_distinct [] few = refl
few_distinct (user ∷ []) few = refl
few_distinct (user ∷ other ∷ users) few = absurd (omega arith)
