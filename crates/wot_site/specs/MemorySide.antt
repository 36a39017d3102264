-- A side of the store in memory: its disk, and beside it what it read at its last sync.
use Rattle.std.specs.Prelude.{ℕ, ◌≡◌, ◌<◌, List, [], ◌∷◌, ◌++◌, length, slice_index}
use Rattle.wot_site.specs.Disk.{Disk, Disks, Range, IsOutside, bytes_after_write}
use Rattle.wot_site.specs.declared.memory.crash.Pick.{Pick}
use Rattle.wot_site.specs.declared.memory.crash.Pick.TheVariants.{Nothing, All, Fill}
use Rattle.wot_site.specs.declared.side.Side.{Side}
use Rattle.wot_site.specs.declared.side.Side.TheVariants.{Zero, One}

-- what a read gives, what one gave at the last sync that succeeded, and the ranges written since
pub record Bytes : Type 0 where
  pub reads : List ℕ
  pub synced : List ℕ
  pub pending : List Range

abbrev pub disk : Bytes → Disk
disk b = record { reads = b.reads; synced = length b.synced; pending = b.pending }

-- bytes with nothing pending
abbrev pub at_rest : List ℕ → Bytes
at_rest bytes = record { reads = bytes; synced = bytes; pending = [] }

abbrev pub after_writing : ℕ → List ℕ → Bytes → Bytes
after_writing at bytes b = record { reads = bytes_after_write b.reads at bytes; synced = b.synced; pending = b.pending ++ record { at = at; len = length bytes } ∷ [] }

abbrev pub synced_now : Bytes → Bytes
synced_now b = at_rest b.reads

-- all that is pending was made, but each range holds this byte throughout
pub record IsFilled (byte : ℕ) (d : Disk) (c : List ℕ) : Type 0 where
  pub long : length c ≡ length d.reads
  pub outside : (i : ℕ) → IsOutside i d.pending → slice_index c i ≡ slice_index d.reads i
  pub inside : (i : ℕ) → i < length c → (IsOutside i d.pending → ⊥) → slice_index c i ≡ byte

-- the image that a pick gives
abbrev pub IsPicked : Pick → Bytes → List ℕ → Type 0
IsPicked Nothing b c = c ≡ b.synced
IsPicked All b c = c ≡ b.reads
IsPicked (Fill byte) b c = IsFilled byte (disk b) c

-- the two sides
pub record Both : Type 0 where
  pub zero : Bytes
  pub one : Bytes

abbrev pub bytes_of : Side → Both → Bytes
bytes_of Zero b = b.zero
bytes_of One b = b.one

abbrev pub with_bytes : Side → Bytes → Both → Both
with_bytes Zero bytes b = record b { zero = bytes }
with_bytes One bytes b = record b { one = bytes }

abbrev pub disks_of : Both → Disks
disks_of b = record { zero = disk b.zero; one = disk b.one }
