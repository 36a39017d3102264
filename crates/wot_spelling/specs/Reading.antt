-- Reading from the front: a value, and the bytes after it; None where no value's spelling begins the bytes.
use Rattle.std.specs.Prelude.{◌≡◌, ℕ, zero, suc, ◌==◌, ◌||◌, nat_lt, Bool, true, false, List, [], ◌∷◌, length, take, drop, if◌then◌else◌, Option, Some, None, Result, Ok, Err}
use Rattle.std.specs.Prelude.{option_and_then}
use Rattle.std.specs.Int.{w32, w64, from_be_bytes}
use Rattle.wot_types.specs.declared.cert.Cert.{Cert}
use Rattle.wot_types.specs.declared.cert.Form.{Form}
use Rattle.wot_types.specs.declared.cert.Form.TheVariants.{WithoutFpr, WithFpr}
use Rattle.wot_types.specs.declared.format.Format.{Format}
use Rattle.wot_types.specs.declared.format.Format.TheVariants.{First, Second, Third}
use Rattle.wot_types.specs.declared.user.User.{User}
use Rattle.wot_types.specs.declared.user.UserKind.{UserKind}
use Rattle.wot_types.specs.declared.user.UserKind.TheVariants.{Uid, Uat}
use Rattle.wot_types.specs.declared.key.Key.{Key}
use Rattle.wot_types.specs.declared.options.Options.{Options}
use Rattle.wot_types.specs.declared.row.Row.{Row}
use Rattle.wot_types.specs.declared.trust.Trust.{Trust}
use Rattle.wot_types.specs.declared.ownertrust.Entry.{Entry}
use Rattle.wot_types.specs.declared.ownertrust.Ownertrust.{Ownertrust}
use Rattle.wot_types.specs.Ownertrust.{entry_of}
use Rattle.wot_types.specs.OwnertrustText.{ownertrust_of_number}
use Rattle.wot_types.specs.Trust.{trust_of_number}
use Rattle.wot_spelling.specs.declared.no_value.NoValue.{NoValue}
use Rattle.wot_spelling.specs.declared.no_value.NoValue.TheVariants.{NoSpelling, Memory}

-- a reader of a part: the part at the front of the bytes and the rest
abbrev pub Read : Type 0 → Type 0
Read A = List ℕ → Option (A × List ℕ)

-- what a call gave, which leaves these bytes; want of memory says nothing
abbrev pub GivesSeen : {X A : Type 0} → (X → A) → Option (A × List ℕ) → Result X NoValue → List ℕ → Type 0
GivesSeen view read (Ok x) rest = read ≡ Some (view x, rest)
GivesSeen view read (Err NoSpelling) rest = read ≡ None
GivesSeen view read (Err Memory) rest = Unit {0}

abbrev pub Gives : {A : Type 0} → Option (A × List ℕ) → Result A NoValue → List ℕ → Type 0
Gives read result rest = GivesSeen (λ x. x) read result rest

infixl 10 ◌>>=◌
abbrev pub ◌>>=◌ : {A B : Type 0} → Option A → (A → Option B) → Option B
o >>= f = option_and_then f o

-- one part and then another
infixr 20 ◌&◌
abbrev pub ◌&◌ : {A B : Type 0} → Read A → Read B → Read (A × B)
(a & b) bytes = a bytes >>= λ x. b x.1 >>= λ y. Some ((x.0, y.0), y.1)

-- a value made of a part
abbrev pub made : {A B : Type 0} → (A → B) → Read A → Read B
made f a bytes = a bytes >>= λ x. Some (f x.0, x.1)

-- a part that passes a test
abbrev pub kept : {A : Type 0} → (A → Bool) → Read A → Read A
kept test a bytes = a bytes >>= λ x. if test x.0 then Some x else None

-- so many bytes
unfoldable pub bytes_at : ℕ → Read (List ℕ)
bytes_at n bytes = if nat_lt (length bytes) n then None else Some (take n bytes, drop n bytes)

unfoldable pub number_1_at : Read ℕ
number_1_at [] = None
number_1_at (b ∷ rest) = Some (b, rest)

unfoldable pub number_4_at : Read ℕ
number_4_at = made (from_be_bytes w32) (bytes_at 4)

unfoldable pub number_8_at : Read ℕ
number_8_at = made (from_be_bytes w64) (bytes_at 8)

unfoldable pub flag_at : Read Bool
flag_at [] = None
flag_at (zero ∷ rest) = Some (false, rest)
flag_at (suc zero ∷ rest) = Some (true, rest)
flag_at (suc (suc b) ∷ rest) = None

unfoldable pub text_at : Read (List ℕ)
text_at bytes = number_4_at bytes >>= λ n. bytes_at n.0 n.1

-- behind a flag
abbrev pub option_at : {A : Type 0} → Read A → Bool → Read (Option A)
option_at a false bytes = Some (None, bytes)
option_at a true bytes = made Some a bytes

unfoldable pub scope_at : Read (Option (List ℕ))
scope_at bytes = flag_at bytes >>= λ f. option_at text_at f.0 f.1

-- who delegated, which rows of the older formats don't tell
unfoldable pub via_at : Format → Read (Option ℕ)
via_at First bytes = Some (None, bytes)
via_at Second bytes = Some (None, bytes)
via_at (Third rules) bytes = flag_at bytes >>= λ f. option_at number_8_at f.0 f.1

abbrev pub is_fpr : List ℕ → Bool
is_fpr f = length f == 20 || length f == 32

unfoldable pub fpr_at : Read (List ℕ)
fpr_at bytes = number_1_at bytes >>= λ n. kept is_fpr (bytes_at n.0) n.1

abbrev pub or_none : {A : Type 0} → Option A → List ℕ → Option (A × List ℕ)
or_none None rest = None
or_none (Some x) rest = Some (x, rest)

unfoldable pub trust_at : Read Trust
trust_at bytes = number_1_at bytes >>= λ n. or_none (trust_of_number n.0) n.1

abbrev pub kind_of_flag : Bool → UserKind
kind_of_flag false = Uid
kind_of_flag true = Uat

unfoldable pub user_kind_at : Read UserKind
user_kind_at = made kind_of_flag flag_at

unfoldable pub many_at : {A : Type 0} → Read A → ℕ → Read (List A)
many_at a zero bytes = Some ([], bytes)
many_at a (suc n) bytes = a bytes >>= λ x. many_at a n x.1 >>= λ xs. Some (x.0 ∷ xs.0, xs.1)

unfoldable pub list_at : {A : Type 0} → Read A → Read (List A)
list_at a bytes = number_4_at bytes >>= λ n. many_at a n.0 n.1

abbrev pub CertParts : Type 0
CertParts = ℕ × (ℕ × (Bool × (ℕ × (ℕ × (ℕ × (ℕ × (Option (List ℕ) × Option (List ℕ))))))))

abbrev pub cert_of : CertParts → Cert
cert_of p = record { issuer = p.0; class = p.1.0; local = p.1.1.0; made = p.1.1.1.0; expires = p.1.1.1.1.0; depth = p.1.1.1.1.1.0; amount = p.1.1.1.1.1.1.0; scope = p.1.1.1.1.1.1.1.0; issuer_fpr = p.1.1.1.1.1.1.1.1 }

-- the issuer's fingerprint, which the first form doesn't have
unfoldable pub issuer_fpr_at : Form → Read (Option (List ℕ))
issuer_fpr_at WithoutFpr bytes = Some (None, bytes)
issuer_fpr_at WithFpr bytes = flag_at bytes >>= λ f. option_at fpr_at f.0 f.1

unfoldable pub cert_at : Form → Read Cert
cert_at form = made cert_of (number_8_at & number_1_at & flag_at & number_4_at & number_4_at & number_1_at & number_1_at & scope_at & issuer_fpr_at form)

abbrev pub UserParts : Type 0
UserParts = UserKind × (List ℕ × (List ℕ × (ℕ × (ℕ × (Bool × List Cert)))))

abbrev pub user_of : UserParts → User
user_of p = record { kind = p.0; text = p.1.0; hash = p.1.1.0; made = p.1.1.1.0; expires = p.1.1.1.1.0; revoked = p.1.1.1.1.1.0; certs = p.1.1.1.1.1.1 }

unfoldable pub user_at : Form → Read User
user_at form = made user_of (user_kind_at & text_at & text_at & number_4_at & number_4_at & flag_at & list_at (cert_at form))

abbrev pub KeyParts : Type 0
KeyParts = List ℕ × (ℕ × (ℕ × (ℕ × (ℕ × (Bool × (List ℕ × List User))))))

abbrev pub key_of : KeyParts → Key
key_of p = record { fpr = p.0; bits = p.1.0; algo = p.1.1.0; made = p.1.1.1.0; expires = p.1.1.1.1.0; revoked = p.1.1.1.1.1.0; caps = p.1.1.1.1.1.1.0; users = p.1.1.1.1.1.1.1 }

unfoldable pub key_at : Form → Read Key
key_at form = made key_of (fpr_at & number_4_at & number_4_at & number_4_at & number_4_at & flag_at & text_at & list_at (user_at form))

abbrev pub OptionsParts : Type 0
OptionsParts = Bool × (ℕ × (ℕ × (ℕ × ℕ)))

abbrev pub options_of : OptionsParts → Options
options_of p = record { pgp = p.0; completes = p.1.0; marginals = p.1.1.0; depth = p.1.1.1.0; level = p.1.1.1.1 }

unfoldable pub options_at : Read Options
options_at = made options_of (flag_at & number_4_at & number_4_at & number_1_at & number_1_at)

-- a value that one byte stands for
abbrev pub coded_at : {A : Type 0} → (ℕ → Option A) → Read A
coded_at of bytes = number_1_at bytes >>= λ n. or_none (of n.0) n.1

unfoldable pub ownertrust_at : Read Ownertrust
ownertrust_at = coded_at ownertrust_of_number

unfoldable pub entry_at : Read Entry
entry_at = made entry_of (fpr_at & ownertrust_at)

abbrev pub RowParts : Type 0
RowParts = ℕ × (ℕ × (Trust × (ℕ × (Option (List ℕ) × Option ℕ))))

abbrev pub row_of : RowParts → Row
row_of p = record { key = p.0; level = p.1.0; trust = p.1.1.0; left = p.1.1.1.0; scope = p.1.1.1.1.0; via = p.1.1.1.1.1 }

unfoldable pub row_at : Format → Read Row
row_at format = made row_of (number_8_at & number_1_at & trust_at & number_1_at & scope_at & via_at format)
