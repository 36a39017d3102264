-- What the engine keeps of ownertrust.
use Rattle.std.specs.Prelude.{◌≡◌, ℕ, false, List}
use Rattle.hex.specs.Hex.{IsBytes}
use Rattle.wot_types.specs.declared.ownertrust.Ownertrust.{Ownertrust}
use Rattle.wot_types.specs.Fingerprint.{IsFprLength}
use Rattle.wot_types.specs.Ownertrust.{is_unset}

-- an entry that is kept: the bytes of a fingerprint, whose trust is known or whose key is disabled
pub record IsKept (entry : List ℕ × Ownertrust) : Type 0 where
  pub bytes : IsBytes entry.0
  pub sized : IsFprLength entry.0
  pub set : is_unset entry.1 ≡ false
