-- The disk model: what a side of the store holds, and what a crash may leave of it.
use Rattle.std.specs.Prelude.{ℕ, ◌≡◌, ◌⊎◌, ◌+◌, ◌<◌, ◌≤◌, min, List, [], ◌∷◌, ◌++◌, length, take, drop, slice_index, All}
pub use Rattle.wot_site.specs.declared.range.Range.{Range}
use Rattle.wot_site.specs.declared.side.Side.{Side}
use Rattle.wot_site.specs.declared.side.Side.TheVariants.{Zero, One}

-- a side: what a read gives, how many bytes there were at the last sync that succeeded, and the ranges written since
pub record Disk : Type 0 where
  pub reads : List ℕ
  pub synced : ℕ
  pub pending : List Range

-- a place is in none of the ranges
abbrev pub IsOutside : ℕ → List Range → Type 0
IsOutside i ranges = All (λ r. (i < r.at) ⊎ (r.at + r.len ≤ i)) ranges

-- a crash may leave this of a side: each written range and what lies past the last synced length may hold anything,
-- the length lies between the last synced one and the furthest written end, and all other bytes stay
pub record IsCrashImage (d : Disk) (c : List ℕ) : Type 0 where
  pub no_shorter : min d.synced (length d.reads) ≤ length c
  pub no_longer : length c ≤ length d.reads
  pub kept : (i : ℕ) → i < d.synced → i < length d.reads → IsOutside i d.pending → slice_index c i ≡ slice_index d.reads i

-- bytes written over others from a place on, and past their end
abbrev pub bytes_after_write : List ℕ → ℕ → List ℕ → List ℕ
bytes_after_write old at bytes = take at old ++ (bytes ++ drop (at + length bytes) old)

abbrev pub after_write : ℕ → List ℕ → Disk → Disk
after_write at bytes d = record { reads = bytes_after_write d.reads at bytes; synced = d.synced; pending = d.pending ++ record { at = at; len = length bytes } ∷ [] }

-- a side with these bytes and nothing pending
abbrev pub settled_disk : List ℕ → Disk
settled_disk bytes = record { reads = bytes; synced = length bytes; pending = [] }

abbrev pub after_sync : Disk → Disk
after_sync d = settled_disk d.reads

-- the two sides
pub record Disks : Type 0 where
  pub zero : Disk
  pub one : Disk

abbrev pub disk_of : Side → Disks → Disk
disk_of Zero d = d.zero
disk_of One d = d.one

abbrev pub with_disk : Side → Disk → Disks → Disks
with_disk Zero disk d = record d { zero = disk }
with_disk One disk d = record d { one = disk }

-- the bytes of both sides
pub record Image : Type 0 where
  pub zero : List ℕ
  pub one : List ℕ

-- a crash may leave this: the sides are independent
pub record IsImageOf (d : Disks) (c : Image) : Type 0 where
  pub zero : IsCrashImage d.zero c.zero
  pub one : IsCrashImage d.one c.one

abbrev pub reads_of : Disks → Image
reads_of d = record { zero = d.zero.reads; one = d.one.reads }

-- whatever a crash leaves is P
abbrev pub Leaves : (Image → Type 0) → Disks → Type 0
Leaves P d = (c : Image) → IsImageOf d c → P c
