-- What was written by some moment.
use Rattle.std.specs.Prelude.{ℕ, ◌≡◌, List, take, drop, Some, option_map}
use Rattle.wot_site.specs.Disk.{Disks, IsCrashImage, disk_of}
use Rattle.wot_site.specs.declared.side.Side.{Side}
use Rattle.wot_store.specs.declared.header.Header.{Header}
use Rattle.wot_store.specs.Base.{header_of, other_side, shown_side}

-- of the sides this one alone was written, and from the one place to the other alone: whatever a crash leaves of it has before the first
-- and from the second on the bytes that it read
pub record WritesBetween (side : Side) (from till : ℕ) (start now : Disks) : Type 0 where
  pub other : disk_of (other_side side) now ≡ disk_of (other_side side) start
  pub front : (c : List ℕ) → IsCrashImage (disk_of side now) c → take from c ≡ take from (disk_of side start).reads
  pub back : (c : List ℕ) → IsCrashImage (disk_of side now) c → drop till c ≡ drop till (disk_of side start).reads

-- this side was not written
abbrev pub Spares : Side → Disks → Disks → Type 0
Spares side start now = disk_of side now ≡ disk_of side start

-- by the headers as they read this side is shown
abbrev pub IsShownSide : Side → Disks → Type 0
IsShownSide side d = option_map (λ (shown : Side × Header). shown.0) (shown_side (header_of d.zero.reads) (header_of d.one.reads)) ≡ Some side
