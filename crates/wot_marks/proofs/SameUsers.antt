-- Whether two user IDs agree is told alike from either side.
use Rattle.std.proofs.Common.{◌≡◌, ℕ, ◌||◌, ◌&&◌, List, [], ◌∷◌, refl, arith}
use Rattle.std.specs.Prelude.{nat_eq}
use Rattle.std.specs.List.{list_any}
use Rattle.std.specs.Cmp.Lexicographic.{pointwise}
use Rattle.std.proofs.lemmas.Bool.Decides.{nat_tests}
use Rattle.wot_types.specs.declared.user.User.{User}
use Rattle.wot_types.specs.declared.user.UserKind.{UserKind}
use Rattle.wot_types.specs.declared.user.UserKind.TheVariants.{Uid, Uat}
use Rattle.wot_types.specs.Listing.{is_same_user, same_kind}

kinds_agree : (a b : UserKind) → same_kind a b ≡ same_kind b a
kinds_agree Uid Uid = refl
kinds_agree Uid Uat = refl
kinds_agree Uat Uid = refl
kinds_agree Uat Uat = refl

bytes_agree : (a b : ℕ) → nat_eq a b ≡ nat_eq b a
bytes_agree a b = grind (arith, nat_tests)

texts_agree : (xs ys : List ℕ) → pointwise nat_eq xs ys ≡ pointwise nat_eq ys xs
texts_agree [] [] = refl
texts_agree [] (y ∷ ys) = refl
texts_agree (x ∷ xs) [] = refl
texts_agree (x ∷ xs) (y ∷ ys) = λ i. bytes_agree x y i && texts_agree xs ys i

users_agree : (u v : User) → is_same_user u v ≡ is_same_user v u
users_agree u v = λ i. kinds_agree u.kind v.kind i && texts_agree u.text v.text i && texts_agree u.hash v.hash i

-- whether a user ID is the same as one of these
pub one_agrees : (user : User) (users : List User) → list_any (is_same_user user) users ≡ list_any (λ other. is_same_user other user) users
one_agrees user [] = refl
one_agrees user (u ∷ users) = λ i. users_agree user u i || one_agrees user users i
