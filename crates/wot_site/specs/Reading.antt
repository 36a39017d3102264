-- Bytes of a side that are read.
use Rattle.std.specs.Prelude.{ℕ, ◌≡◌, ◌+◌, ◌<◌, List, length, take, drop}
use Rattle.wot_site.specs.Disk.{disk_of}
use Rattle.wot_site.specs.Seen.{Seen}
use Rattle.wot_site.specs.declared.side.Side.{Side}

-- these are the bytes of the side from a place on, and nothing was changed
pub record IsRange (side : Side) (at len : ℕ) (bytes : List ℕ) (old new : Seen) : Type 0 where
  pub stays : new ≡ old
  pub these : bytes ≡ take len (drop at (disk_of side old.disks).reads)
  pub long : length bytes ≡ len

-- the side ends before so many bytes from a place on
pub record IsShort (side : Side) (at len : ℕ) (old new : Seen) : Type 0 where
  pub stays : new ≡ old
  pub short : length (disk_of side old.disks).reads < at + len
