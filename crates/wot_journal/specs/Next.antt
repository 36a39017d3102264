-- What stands at a place of a journal.
use Rattle.std.specs.Prelude.{ℕ, ◌≡◌, ◌+◌, ◌<◌, min, List, ◌++◌, length, take, drop, slice_index}
use Rattle.std.specs.Int.{from_be_bytes, w32}
use Rattle.wot_journal.specs.Record.{record_of, open_gate, most_side}

-- a record of this payload stands here, and the gate behind it, at the place end, lies within the side and its limit
pub record HasRecord (bytes : List ℕ) (at : ℕ) (payload : List ℕ) (end : ℕ) : Type 0 where
  pub spelled : drop at bytes ≡ record_of payload ++ drop end bytes
  pub place : end ≡ at + length payload + 5
  pub within : end < length bytes
  pub bound : end < most_side

-- the length that stands behind a gate
abbrev pub length_at : List ℕ → ℕ → ℕ
length_at bytes at = from_be_bytes w32 (take 4 (drop (at + 1) bytes))

-- the gate here is open, and its record, with the gate behind it, passes the side or its limit
pub record IsTruncated (bytes : List ℕ) (at : ℕ) : Type 0 where
  pub opened : slice_index bytes at ≡ open_gate
  pub passes : min (length bytes) most_side < at + length_at bytes at + 6
