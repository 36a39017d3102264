-- What a head tells of a key is what the key's line shows, and so of a user ID.
use Rattle.std.proofs.Common.{◌≡◌, ℕ}
use Rattle.wot_types.specs.declared.key.Key.{Key}
use Rattle.wot_types.specs.declared.letter.Letter.{Letter}
use Rattle.wot_types.specs.declared.ownertrust.Ownertrust.{Ownertrust}
use Rattle.wot_types.specs.declared.user.User.{User}
use Rattle.wot_types.specs.Printing.{pub_line, user_line}
use Rattle.wot_table.specs.declared.head.KeyHead.{KeyHead}
use Rattle.wot_table.specs.declared.head.UserHead.{UserHead}
use Rattle.wot_table.specs.Heads.{IsKeyHead, IsUserHead}
use Rattle.wot_lines.specs.Shown.{shown_key, shown_user}

pub pub_shown : (letter : Letter) (kept : Ownertrust) (id : ℕ) (key : Key) (head : KeyHead) → IsKeyHead key head → pub_line letter kept id (shown_key head) ≡ pub_line letter kept id key
pub_shown letter kept id key head h =
    λ i. pub_line letter kept id (record { fpr = h.fpr i; bits = h.bits i; algo = h.algo i; made = h.made i; expires = h.expires i; revoked = h.revoked i; caps = h.caps i; users = key.users })

pub user_shown : (letter : Letter) (user : User) (head : UserHead) → IsUserHead user head → user_line letter (shown_user head) ≡ user_line letter user
user_shown letter user head h =
    λ i. user_line letter (record { kind = h.kind i; text = h.text i; hash = h.hash i; made = h.made i; expires = h.expires i; revoked = h.revoked i; certs = user.certs })
