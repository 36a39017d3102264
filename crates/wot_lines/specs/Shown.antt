-- A key and a user ID as their heads tell them: what their lines show.
use Rattle.std.specs.Prelude.{[]}
use Rattle.wot_types.specs.declared.key.Key.{Key}
use Rattle.wot_types.specs.declared.user.User.{User}
use Rattle.wot_table.specs.declared.head.KeyHead.{KeyHead}
use Rattle.wot_table.specs.declared.head.UserHead.{UserHead}

-- without its user IDs
abbrev pub shown_key : KeyHead → Key
shown_key head = record {
  fpr = head.fpr.now;
  bits = head.bits;
  algo = head.algo;
  made = head.made;
  expires = head.expires;
  revoked = head.revoked;
  caps = head.caps.now;
  users = [];
}

-- without its certifications
abbrev pub shown_user : UserHead → User
shown_user head = record {
  kind = head.kind;
  text = head.text.now;
  hash = head.hash.now;
  made = head.made;
  expires = head.expires;
  revoked = head.revoked;
  certs = [];
}
