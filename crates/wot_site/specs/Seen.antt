-- What a site tells of itself: what was read, told and written, what a crash might have left, and how often its calls failed.
use Rattle.std.specs.Prelude.{ℕ, List, Option, Some, None}
use Rattle.wot_site.specs.Disk.{Disks}
use Rattle.wot_site.specs.declared.asked.Asked.{Asked}

-- a point of the one clock: the sides, and the bytes told by then
pub record Moment : Type 0 where
  pub disks : Disks
  pub told : List ℕ

pub record Seen : Type 0 where
  pub left : List ℕ  -- the input left
  pub told : List ℕ  -- the bytes told
  pub taken : ℕ  -- how many bytes were taken
  pub asks : List Asked  -- each call of `take`: how many bytes were taken and told before it
  pub disks : Disks  -- the two sides of the store
  pub moments : List Moment  -- a moment in each write and sync and for each byte told, the oldest first

-- how often the calls of each kind have failed
pub record Faults : Type 0 where
  pub take : ℕ
  pub tell : ℕ
  pub disk : ℕ

-- the step is P where the site tells of itself, and a site tells after it exactly where it told before
abbrev pub Honestly : Option Seen → Option Seen → (Seen → Seen → Type 0) → Type 0
Honestly None None P = Unit {0}
Honestly (Some old) (Some new) P = P old new
Honestly None (Some new) P = ⊥
Honestly (Some old) None P = ⊥

-- what the site tells, if it tells, is P
abbrev pub IfHonest : Option Seen → (Seen → Type 0) → Type 0
IfHonest None P = Unit {0}
IfHonest (Some seen) P = P seen
