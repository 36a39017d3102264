-- Gates.
pub use Rattle.wot_types.specs.PagePlaces.{most_side}
use Rattle.std.specs.Prelude.{ℕ, ◌≢◌, ◌<◌, List, length, slice_index}

-- the byte of an open gate
abbrev pub open_gate : ℕ
open_gate = 165

-- a gate stands here, and it is closed
pub record IsClosed (bytes : List ℕ) (at : ℕ) : Type 0 where
  pub within : at < length bytes
  pub closed : slice_index bytes at ≢ open_gate
