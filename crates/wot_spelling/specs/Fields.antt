-- A key and a user ID by their fields and by the lists that they end with.
use Rattle.std.specs.Prelude.{List}
use Rattle.wot_types.specs.declared.cert.Cert.{Cert}
use Rattle.wot_types.specs.declared.key.Key.{Key}
use Rattle.wot_types.specs.declared.user.User.{User}
use Rattle.wot_spelling.specs.declared.fields.KeyFields.{KeyFields}
use Rattle.wot_spelling.specs.declared.fields.UserFields.{UserFields}

abbrev pub key_with : KeyFields → List User → Key
key_with f users = record { fpr = f.fpr.now; bits = f.bits; algo = f.algo; made = f.made; expires = f.expires; revoked = f.revoked; caps = f.caps.now; users = users }

abbrev pub user_with : UserFields → List Cert → User
user_with f certs = record { kind = f.kind; text = f.text.now; hash = f.hash.now; made = f.made; expires = f.expires; revoked = f.revoked; certs = certs }
