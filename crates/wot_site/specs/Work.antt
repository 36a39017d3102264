-- A run of calls on the disk, and what held at each moment of it.
use Rattle.std.specs.Prelude.{ℕ, ◌≡◌, List, ◌++◌, All}
use Rattle.wot_site.specs.Disk.{Disks}
use Rattle.wot_site.specs.Seen.{Seen, Moment}

-- the moment at which the outside is so
abbrev pub moment_of : Seen → Moment
moment_of s = record { disks = s.disks; told = s.told }

-- P at the moment of the start and at each since then
pub record Since (P : Moment → Type 0) (old new : Seen) : Type 0 where
  pub first : P (moment_of old)
  pub moments : List Moment
  pub is : new.moments ≡ old.moments ++ moments
  pub each : All P moments

-- the sides are P at a moment at which these bytes were told
pub record Quiet (P : Disks → Type 0) (text : List ℕ) (m : Moment) : Type 0 where
  pub disks : P m.disks
  pub told : m.told ≡ text

-- calls of the disk alone were made, and at each moment from the first on the sides were P
pub record Works (P : Disks → Type 0) (old new : Seen) : Type 0 where
  pub left : new.left ≡ old.left
  pub told : new.told ≡ old.told
  pub taken : new.taken ≡ old.taken
  pub asks : new.asks ≡ old.asks
  pub since : Since (Quiet P old.told) old new
  pub last : P new.disks
