-- A user ID's record, in its block.
use Rattle.std.proofs.Common.{◌≡◌, List, [], ◌∷◌, ◌++◌, length, None, sym, ap, ◌∙◌}
use Rattle.std.specs.Prelude.{nat_le}
use Rattle.wot_types.specs.declared.user.User.{User}
use Rattle.wot_types.specs.declared.user.UserKind.{UserKind}
use Rattle.wot_types.specs.declared.limit.Limit.TheVariants.{Users as UsersLimit}
use Rattle.wot_types.specs.declared.fault.ListingWhat.TheVariants.{LimitReached, RepeatedUser}
use Rattle.wot_types.specs.Listing.{Check, Line, first_failing, user_at, user_checks}
use Rattle.wot_types.specs.Limits.{most_users}
use Rattle.wot_types.proofs.LineChecks.{passes_more}
use Rattle.wot_listing.specs.declared.key_block.KeyBlock.{KeyBlock}
use Rattle.wot_listing.specs.Machine.{repeats_user, users_of}

-- the checks of a user ID in its block
abbrev pub block_checks : KeyBlock → User → List Check
block_checks b user = (repeats_user b user, RepeatedUser) ∷ (nat_le most_users (length (users_of b)), LimitReached UsersLimit) ∷ []

-- they are left once the fields have passed
pub checks_left : (b : KeyBlock) (kind : UserKind) (line : Line) (user : User) → first_failing (user_checks line) ≡ None → user ≡ user_at kind b.primary.revoked line
    → first_failing (user_checks line ++ block_checks b (user_at kind b.primary.revoked line)) ≡ first_failing (block_checks b user)
checks_left b kind line user passes e =
    passes_more (user_checks line) (block_checks b (user_at kind b.primary.revoked line)) passes ∙ ap (λ u. first_failing (block_checks b u)) (sym e)
