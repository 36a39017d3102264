-- The hash of a user ID as it is kept.
use Rattle.std.specs.Prelude.{◌≡◌, ℕ, List, [], length}
use Rattle.hex.specs.Hex.{encode_upper}
use Rattle.wot_types.specs.declared.user_hash.KeptHash.{KeptHash}
use Rattle.wot_types.specs.declared.user_hash.KeptHash.TheVariants.{Empty, Other, Spelled}

abbrev pub hash_of : KeptHash → List ℕ
hash_of Empty = []
hash_of (Spelled bytes) = encode_upper bytes
hash_of (Other text) = text.value

abbrev pub HasItsSize : KeptHash → Type 0
HasItsSize (Spelled bytes) = length bytes ≡ 20
HasItsSize _ = Unit {0}
