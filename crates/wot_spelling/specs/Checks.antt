-- What a decoder tests of the values that it has read.
use Rattle.std.specs.Prelude.{ℕ, Bool, true, not, ◌==◌, ◌&&◌, ◌||◌, nat_le, nat_lt, List, [], ◌∷◌, length, Option, Some, None}
use Rattle.std.specs.List.{list_all, list_any}
use Rattle.wot_types.specs.declared.cert.Cert.{Cert}
use Rattle.wot_types.specs.declared.user.User.{User}
use Rattle.wot_types.specs.declared.key.Key.{Key}
use Rattle.wot_types.specs.declared.options.Options.{Options}
use Rattle.wot_types.specs.declared.ownertrust.Entry.{Entry}
use Rattle.wot_types.specs.Fingerprint.{fpr_cmp}
use Rattle.wot_types.specs.Ownertrust.{is_unset, kept_of}
use Rattle.std.specs.Ordering.{is_lt}
use Rattle.wot_types.specs.Keyring.{id_of, key_certs}
use Rattle.wot_types.specs.Listing.{is_same_user}
use Rattle.wot_types.specs.Limits.{least_completes, least_depth, least_level, least_marginals, least_sample, longest_scope, most_certs, most_level, most_sample, most_users}
use Rattle.wot_types.specs.Records.{is_capability, is_hash_byte, is_kept_class}

-- a regular expression has 1 to 255 bytes
abbrev pub is_scope : List ℕ → Bool
is_scope t = nat_le 1 (length t) && nat_le (length t) longest_scope

-- where there is a scope it is one
abbrev pub is_kept_scope : Option (List ℕ) → Bool
is_kept_scope None = true
is_kept_scope (Some scope) = is_scope scope

-- a certification on the key with this key ID: by another, of a kept class
unfoldable pub is_cert : ℕ → Cert → Bool
is_cert id cert = not (cert.issuer == id) && (is_kept_class cert.class && is_kept_scope cert.scope)

-- a user ID of the key with this key ID
unfoldable pub is_user : ℕ → User → Bool
is_user id user = list_all is_hash_byte user.hash && list_all (is_cert id) user.certs

-- no two agree in kind, text and hash
unfoldable pub are_distinct : List User → Bool
are_distinct [] = true
are_distinct (user ∷ users) = not (list_any (is_same_user user) users) && are_distinct users

-- no user ID of a revoked key is marked revoked
unfoldable pub is_marked_once : Key → Bool
is_marked_once key = not key.revoked || list_all (λ user. not user.revoked) key.users

-- at most 4,194,304 certifications
unfoldable pub has_few_certs : Key → Bool
has_few_certs key = nat_le (key_certs key) most_certs

-- all but the length of the fingerprint, which its type keeps
unfoldable pub is_well_formed : Key → Bool
is_well_formed key =
    list_all is_capability key.caps && (nat_le (length key.users) most_users && (has_few_certs key && (are_distinct key.users && (list_all (is_user (id_of key)) key.users && is_marked_once key))))

-- key IDs strictly rise
unfoldable pub is_rising : List Key → Bool
is_rising [] = true
is_rising (key ∷ []) = true
is_rising (key ∷ next ∷ keys) = nat_lt (id_of key) (id_of next) && is_rising (next ∷ keys)

-- keys of an import
unfoldable pub are_importable : List Key → Bool
are_importable keys = list_all is_well_formed keys && is_rising keys

-- options in their ranges
unfoldable pub is_in_range : Options → Bool
is_in_range o = nat_le least_completes o.completes && (nat_le least_marginals o.marginals && (nat_le least_depth o.depth && (nat_le least_level o.level && nat_le o.level most_level)))

-- how many keys a sample has
unfoldable pub is_sample_count : ℕ → Bool
is_sample_count count = nat_le least_sample count && nat_le count most_sample

-- fingerprints strictly rise
unfoldable pub are_rising_entries : List Entry → Bool
are_rising_entries [] = true
are_rising_entries (entry ∷ []) = true
are_rising_entries (entry ∷ next ∷ entries) = is_lt (fpr_cmp entry.fpr next.fpr) && are_rising_entries (next ∷ entries)

-- entries that may be set
unfoldable pub are_settable : List Entry → Bool
are_settable entries = list_all (λ entry. not (is_unset (kept_of entry))) entries && are_rising_entries entries
