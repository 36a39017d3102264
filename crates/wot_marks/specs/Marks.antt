-- Marks of user IDs, which tell them apart and put them in order.
use Rattle.std.specs.Prelude.{ℕ, ◌+◌, ◌*◌, ◌%◌, ◌^◌, Bool, true, ◌≡◌, List, [], ◌∷◌, ◌++◌, fold}
use Rattle.std.specs.Int.{to_be_bytes, w32}
use Rattle.std.specs.Ordering.{nat_cmp}
use Rattle.std.specs.Cmp.Lexicographic.{slice_cmp}
use Rattle.std.specs.BTreeSet as tree
use Rattle.std.specs.BTreeSet.{BTreeSet}
use Rattle.wot_types.specs.declared.user.User.{User}
use Rattle.wot_types.specs.declared.user.UserKind.{UserKind}
use Rattle.wot_types.specs.declared.user.UserKind.TheVariants.{Uid, Uat}

-- a byte that no hash has
abbrev pub kind_byte : UserKind → ℕ
kind_byte Uid = 0
kind_byte Uat = 1

-- arithmetic on 32 bits, which wraps
abbrev pub low_32_bits : ℕ → ℕ
low_32_bits n = n % 2 ^ 32

-- a number with one more byte; the factor is the prime of the hashes by Fowler, Noll and Vo
abbrev pub with_byte : ℕ → ℕ → ℕ
with_byte number byte = low_32_bits (low_32_bits (number * 16777619) + byte)

-- tells user IDs apart that nobody made to agree
unfoldable pub number_of : User → ℕ
number_of user = fold with_byte (fold with_byte 0 user.text) user.hash

-- the number, the text, the byte of the kind, and the hash
abbrev pub mark_of : User → List ℕ
mark_of user = to_be_bytes w32 (number_of user) ++ user.text ++ kind_byte user.kind ∷ user.hash

abbrev pub has_mark : BTreeSet (List ℕ) → List ℕ → Bool
has_mark marks mark = tree.contains (slice_cmp nat_cmp) marks mark

-- no mark is taken away
abbrev pub KeepsMarks : BTreeSet (List ℕ) → BTreeSet (List ℕ) → Type 0
KeepsMarks old new = (mark : List ℕ) → has_mark old mark ≡ true → has_mark new mark ≡ true

-- each of these user IDs has its mark among these marks
abbrev pub AreMarked : BTreeSet (List ℕ) → List User → Type 0
AreMarked marks [] = Unit {0}
AreMarked marks (user ∷ users) = (has_mark marks (mark_of user) ≡ true) × AreMarked marks users
