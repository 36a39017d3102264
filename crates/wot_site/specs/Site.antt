-- What the calls of a site do, as steps between what it tells before and after.
use Rattle.std.specs.Prelude.{ℕ, ◌≡◌, ◌⊎◌, ◌+◌, ◌-◌, ◌^◌, ◌<◌, ◌≤◌, List, [], ◌∷◌, ◌++◌, length, take, drop, Result, IsErr, IsErrOf, OnOk}
use Rattle.wot_site.specs.Disk.{Disk, Disks, disk_of, with_disk, after_write, after_sync}
use Rattle.wot_site.specs.Seen.{Seen, Moment, Faults}
use Rattle.wot_site.specs.declared.asked.Asked.{Asked}
use Rattle.wot_site.specs.declared.side.Side.{Side}

-- a call of `take` here
abbrev pub asked_at : Seen → Asked
asked_at s = record { taken = s.taken; told = length s.told }

-- after a call of `take` that moved nothing: the call is noted
abbrev pub after_asking : Seen → Seen
after_asking s = record s { asks = s.asks ++ asked_at s ∷ [] }

-- after the next n bytes of the input were given
abbrev pub after_giving : ℕ → Seen → Seen
after_giving n s = record s { left = drop n s.left; taken = s.taken + n }

-- after a call of `take` that moved n bytes
abbrev pub after_take : ℕ → Seen → Seen
after_take n s = after_giving n (after_asking s)

-- a moment for each byte told, where these were told before
abbrev pub moments_telling : Disks → List ℕ → List ℕ → List Moment
moments_telling disks told [] = []
moments_telling disks told (b ∷ bytes) = record { disks = disks; told = told ++ b ∷ [] } ∷ moments_telling disks (told ++ b ∷ []) bytes

-- after these bytes were told
abbrev pub after_tell : List ℕ → Seen → Seen
after_tell bytes s = record s { told = s.told ++ bytes; moments = s.moments ++ moments_telling s.disks s.told bytes }

-- after the disk came to this
abbrev pub with_disks : Disks → Seen → Seen
with_disks disks s = record s { disks = disks; moments = s.moments ++ record { disks = disks; told = s.told } ∷ [] }

abbrev pub on_disk : Side → (Disk → Disk) → Seen → Seen
on_disk side f s = with_disks (with_disk side (f (disk_of side s.disks)) s.disks) s

-- `take` moved the first n bytes that were left into the front of the buffer, and none only where none was left
pub record Takes (n : ℕ) (buf : List ℕ) (old new : Seen) : Type 0 where
  pub after : new ≡ after_take n old
  pub front : take n buf ≡ take n old.left
  pub within : n ≤ length old.left
  pub last : n ≡ 0 → 0 < length buf → old.left ≡ []

-- `take` failed: the call is noted, or there was no memory for the note
abbrev pub TakesNothing : Seen → Seen → Type 0
TakesNothing old new = (new ≡ after_asking old) ⊎ (new ≡ old)

-- `tell` appended the first n of these bytes
abbrev pub Tells : ℕ → List ℕ → Seen → Seen → Type 0
Tells n bytes old new = new ≡ after_tell (take n bytes) old

-- nothing was done
abbrev pub Stays : Seen → Seen → Type 0
Stays old new = new ≡ old

-- the side has n bytes
pub record Sizes (side : Side) (n : ℕ) (old new : Seen) : Type 0 where
  pub stays : new ≡ old
  pub size : n ≡ length (disk_of side old.disks).reads

-- n bytes of the side from a place on stand in the front of the buffer, and none only where none is there
pub record Reads (side : Side) (at n : ℕ) (buf : List ℕ) (old new : Seen) : Type 0 where
  pub stays : new ≡ old
  pub front : take n buf ≡ take n (drop at (disk_of side old.disks).reads)
  pub within : n ≤ length (drop at (disk_of side old.disks).reads)
  pub last : n ≡ 0 → 0 < length buf → length (disk_of side old.disks).reads ≤ at

abbrev pub Writes : Side → ℕ → List ℕ → Seen → Seen → Type 0
Writes side at bytes old new = new ≡ on_disk side (after_write at bytes) old

-- a write that failed: it counts as made, or there was no memory for its note
abbrev pub WritesOrNot : Side → ℕ → List ℕ → Seen → Seen → Type 0
WritesOrNot side at bytes old new = (new ≡ on_disk side (after_write at bytes) old) ⊎ (new ≡ old)

abbrev pub Syncs : Side → Seen → Seen → Type 0
Syncs side old new = new ≡ on_disk side after_sync old

-- a count rose; one at 2^64 - 1 stays there
abbrev pub Rose : ℕ → ℕ → Type 0
Rose old new = old < 2 ^ 64 - 1 → old < new

-- the count of the calls of `take` that failed rose, and the others are as they were
pub record TakeRose (old new : Faults) : Type 0 where
  pub rose : Rose old.take new.take
  pub no_less : old.take ≤ new.take
  pub tell : new.tell ≡ old.tell
  pub disk : new.disk ≡ old.disk

-- the count of the calls of `tell` that failed rose, and the others are as they were
pub record TellRose (old new : Faults) : Type 0 where
  pub rose : Rose old.tell new.tell
  pub no_less : old.tell ≤ new.tell
  pub take : new.take ≡ old.take
  pub disk : new.disk ≡ old.disk

-- the count of the disk's calls that failed rose, and the others are as they were
pub record DiskRose (old new : Faults) : Type 0 where
  pub rose : Rose old.disk new.disk
  pub no_less : old.disk ≤ new.disk
  pub take : new.take ≡ old.take
  pub tell : new.tell ≡ old.tell

-- a call fails only where its count rose and no other, and one that succeeds leaves every count
pub record HasCause {T E : Type 0} (Raised : Faults → Faults → Type 0) (old new : Faults) (result : Result T E) : Type 0 where
  pub failed : IsErr result → Raised old new
  pub quiet : OnOk result (new ≡ old)

-- a call fails by this fault only where the disk's count rose and no other, and in any other case it leaves every count
pub record FailsOnlyBy {T E : Type 0} (fault : E) (old new : Faults) (result : Result T E) : Type 0 where
  pub rose : IsErrOf result fault → DiskRose old new
  pub quiet : (IsErrOf result fault → ⊥) → new ≡ old
