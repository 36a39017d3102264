-- How many bytes a spelling has that is written: 8 for a key ID or a seed, 4 for another number, a date, the length of a text or the count
-- of a list, and 1 for a flag, a class, a level, a depth, an amount, a trust number, the length of a fingerprint or the kind
-- of an edit.
use Rattle.std.specs.Prelude.{ℕ, ◌+◌, List, length, sum_by, Option, Some, None}
use Rattle.wot_types.specs.declared.cert.Cert.{Cert}
use Rattle.wot_types.specs.declared.user.User.{User}
use Rattle.wot_types.specs.declared.ownertrust.Entry.{Entry}
use Rattle.wot_types.specs.declared.key.Key.{Key}
use Rattle.wot_types.specs.declared.row.Row.{Row}
use Rattle.wot_types.specs.declared.edit.Edit.{Edit}
use Rattle.wot_types.specs.declared.edit.Edit.TheVariants.{Import, Set, Delete, Options as SetOptions, Ownertrust, Flag, Date, Sample}

-- a flag; of one that is there also its length
unfoldable pub scope_size : Option (List ℕ) → ℕ
scope_size None = 1
scope_size (Some t) = 5 + length t

-- a flag; of one that is there also its length
unfoldable pub issuer_fpr_size : Option (List ℕ) → ℕ
issuer_fpr_size None = 1
issuer_fpr_size (Some fpr) = 2 + length fpr

-- issuer, class, local mark, two dates, depth and amount
unfoldable pub cert_size : Cert → ℕ
cert_size c = 20 + scope_size c.scope + issuer_fpr_size c.issuer_fpr

-- kind, two lengths, two dates, revoked mark and count
unfoldable pub user_size : User → ℕ
user_size u = 22 + length u.text + length u.hash + sum_by cert_size u.certs

-- length of the fingerprint, bits, algorithm, two dates, revoked mark, length and count
unfoldable pub key_size : Key → ℕ
key_size k = 26 + length k.fpr + length k.caps + sum_by user_size k.users

-- length of the fingerprint, and the number of what is kept
unfoldable pub entry_size : Entry → ℕ
entry_size e = 2 + length e.fpr

-- the flag, and a key ID
unfoldable pub via_size : Option ℕ → ℕ
via_size None = 1
via_size (Some id) = 9

-- key, level, trust and depth that is left
unfoldable pub row_size : Row → ℕ
row_size r = 11 + scope_size r.scope + via_size r.via

-- the kind, and what it tells
unfoldable pub payload_size : Edit → ℕ
payload_size (Import keys) = 5 + sum_by key_size keys
payload_size (Ownertrust entries) = 5 + sum_by entry_size entries
payload_size (Set fpr trust) = 3 + length fpr
payload_size (Flag fpr disabled) = 3 + length fpr
payload_size (Delete id) = 9
payload_size (Date date) = 5
payload_size (SetOptions o) = 12
payload_size (Sample seed count) = 13
