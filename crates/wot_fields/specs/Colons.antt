-- Where the colons of a line stand, as the bits of a number.
use Rattle.std.specs.Prelude.{◌≡◌, ℕ, ◌+◌, ◌<◌, ◌≤◌, false, if◌then◌else◌, List, length, slice_index}
use Rattle.std.specs.Int.{bit_at}
use Rattle.wot_types.specs.Fields.{is_colon}

-- bit k tells of a colon at block + k, for each place of the 32 from block on that is in the line and not before `from`
pub record Marks (line : List ℕ) (block bits from : ℕ) : Type 0 where
  pub each : (k : ℕ) → k < 32 → from ≤ block + k → block + k < length line → bit_at bits k ≡ (if is_colon (slice_index line (block + k)) then 1 else 0)
  pub only : (k : ℕ) → bit_at bits k ≡ 1 → (k < 32) × (from ≤ block + k) × (block + k < length line)

-- and no colon stands between `from` and block
pub record IsAhead (line : List ℕ) (block bits from : ℕ) : Type 0 where
  pub marks : Marks line block bits from
  pub near : from ≤ block + 32
  pub passed : (j : ℕ) → from ≤ j → j < block → is_colon (slice_index line j) ≡ false
