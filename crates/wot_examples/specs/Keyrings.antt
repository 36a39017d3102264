-- Small keyrings. A key is named by a number below 256, which is the last byte of its fingerprint, and its key ID.
use Rattle.std.specs.Prelude.{◌≡◌, ℕ, false, List, [], ◌∷◌, map, Some, None, codes}
use Rattle.std.specs.FinMap as finmap
use Rattle.wot_types.specs.declared.cert.Cert.{Cert}
use Rattle.wot_types.specs.declared.key.Key.{Key}
use Rattle.wot_types.specs.declared.options.Options.{Options}
use Rattle.wot_types.specs.declared.letter.Letter.{Letter}
use Rattle.wot_types.specs.declared.row.Row.{Row}
use Rattle.wot_types.specs.State.{State}
use Rattle.wot_types.specs.declared.trust.Trust.{Trust}
use Rattle.wot_types.specs.declared.trust.Trust.TheVariants.{Unknown, Ultimate}
use Rattle.wot_types.specs.declared.user.User.{User}
use Rattle.wot_types.specs.declared.user.UserKind.TheVariants.{Uid}
use Rattle.wot_types.specs.Candidates.{RowMap, count_of}
use Rattle.wot_types.specs.Keyring.{Keyring, id_of}
use Rattle.wot_types.specs.Letters.{letter_of_count}
use Rattle.wot_types.specs.Levels.{delegation, live_spots, row_by}
use Rattle.wot_types.specs.State.{opening_options, opening_state}

abbrev pub fingerprint : ℕ → List ℕ
fingerprint n = 0 ∷ 0 ∷ 0 ∷ 0 ∷ 0 ∷ 0 ∷ 0 ∷ 0 ∷ 0 ∷ 0 ∷ 0 ∷ 0 ∷ 0 ∷ 0 ∷ 0 ∷ 0 ∷ 0 ∷ 0 ∷ 0 ∷ n ∷ []

-- a certification by a key, of a date
abbrev pub by : ℕ → ℕ → Cert
by issuer made = record { issuer = issuer; class = 19; local = false; made = made; expires = 0; depth = 0; amount = 0; scope = None; issuer_fpr = None }

abbrev pub of_class : ℕ → Cert → Cert
of_class class cert = record cert { class = class }

abbrev pub with_expiry : ℕ → Cert → Cert
with_expiry expires cert = record cert { expires = expires }

-- the same with the fingerprint of its issuer
abbrev pub naming : List ℕ → Cert → Cert
naming fpr cert = record cert { issuer_fpr = Some fpr }

-- a trust signature of a depth and an amount
abbrev pub trust_signature : ℕ → ℕ → Cert → Cert
trust_signature depth amount cert = record cert { depth = depth; amount = amount }

-- a trust signature with a regular expression
abbrev pub with_scope : List ℕ → Cert → Cert
with_scope scope cert = record cert { scope = Some scope }

abbrev pub user : List ℕ → List Cert → User
user text certs = record { kind = Uid; text = text; hash = []; made = 1000; expires = 0; revoked = false; certs = certs }

abbrev pub key : ℕ → List User → Key
key n users = record { fpr = fingerprint n; bits = 255; algo = 22; made = 1000; expires = 0; revoked = false; caps = codes "scSC"; users = users }

-- the same key with an expiry
abbrev pub key_with_expiry : ℕ → Key → Key
key_with_expiry expires k = record k { expires = expires }

-- these are the keys
abbrev pub Hold : Keyring → List Key → Type 0
Hold keys all = finmap.values keys ≡ all

abbrev pub at_date : ℕ → Keyring → State
at_date date keys = record opening_state { date = date; keys = keys }

-- the user ID `N <n@example.org>` with a certification
abbrev pub certified_user : Cert → User
certified_user cert = user (codes "N <n@example.org>") (cert ∷ [])

-- an introducer of a level and a trust, with so much depth left, to which nobody delegated
abbrev pub introducer : ℕ → ℕ → Trust → ℕ → ℕ × Row
introducer n level trust left = (n, record { key = n; level = level; trust = trust; left = left; scope = None; via = None })

abbrev pub ultimate : ℕ → ℕ × Row
ultimate n = introducer n 0 Ultimate 0

-- the same, to which this key delegated
abbrev pub delegated : ℕ → ℕ × Row → ℕ × Row
delegated id entry = (entry.0, record entry.1 { via = Some id })

-- the same for user IDs in this scope alone
abbrev pub in_scope : List ℕ → ℕ × Row → ℕ × Row
in_scope scope entry = (entry.0, record entry.1 { scope = Some scope })

-- these are the introducers
abbrev pub Are : RowMap → List (ℕ × Row) → Type 0
Are rows entries = finmap.entries rows ≡ entries

-- the row of a level that a key of unknown ownertrust gets over these rows
abbrev pub row_over : Options → RowMap → ℕ → Key → ℕ × Row
row_over o rows level key = (id_of key, row_by rows (id_of key) level Unknown (delegation (record opening_state { options = o }) rows key))

-- the letters of a key's user IDs by their candidates
abbrev pub letters_over : RowMap → Key → List Letter
letters_over rows key = map (λ spot. letter_of_count opening_options (count_of opening_state spot rows)) (live_spots 0 key)
