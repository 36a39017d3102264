-- What opening a store does.
use Rattle.std.specs.Prelude.{ℕ, ◌≡◌, ◌⊎◌, ◌+◌, ◌≤◌, nat_le, List, ◌++◌, length, All, Option, Some, None, MatchOption}
use Rattle.wot_site.specs.Disk.{Disk, Disks, IsCrashImage, Leaves, disk_of, reads_of, settled_disk, with_disk}
use Rattle.wot_site.specs.Seen.{Moment, Seen}
use Rattle.wot_site.specs.Work.{Quiet, Works}
use Rattle.wot_site.specs.declared.side.Side.{Side}
use Rattle.wot_site.specs.declared.side.Side.TheVariants.{Zero}
use Rattle.wot_types.specs.declared.edit.Edit.{Edit}
use Rattle.wot_journal.specs.Commit.{MakesCalls}
use Rattle.wot_pages.specs.Pages.{contents_of}
use Rattle.wot_types.specs.Image.{image_bytes}
use Rattle.wot_types.specs.Levels.{rows_of}
use Rattle.wot_types.specs.State.{State, opening_state}
use Rattle.wot_store.specs.declared.header.Header.{Header}
use Rattle.wot_store.specs.Base.{IsBaseOf, IsBlank, IsNoBase, base_fault, header_of, headers_fault, shown_side}
use Rattle.wot_store.specs.declared.opening.Sizes.{Sizes}
use Rattle.wot_store.specs.declared.pair.Headers.{Headers}
use Rattle.wot_store.specs.declared.place.Place.{Place}
use Rattle.wot_store.specs.declared.error.BadStore.{BadStore}
use Rattle.wot_types.specs.Store.{Store}
use Rattle.wot_store.specs.Shows.{Shows, ShowsBase, FailsBase, IsBad, ShowsAs, IsStored, all_settled}
use Rattle.wot_store.specs.Writing.{base_bytes, calls_for}

-- a side has so many bytes: those of both
pub record AreSizes (sizes : Sizes) (d : Disks) : Type 0 where
  pub zero : sizes.zero ≡ length d.zero.reads
  pub one : sizes.one ≡ length d.one.reads

-- both sides are on the disk as they read, and have so many bytes
pub record Settles (sizes : Sizes) (old new : Seen) : Type 0 where
  pub disks : new.disks ≡ all_settled old.disks
  pub long : AreSizes sizes old.disks

-- nothing of a side was written since: it reads as it did, and each image of it is one that there was
pub record IsUnwritten (start now : Disk) : Type 0 where
  pub reads : now.reads ≡ start.reads
  pub images : (c : List ℕ) → IsCrashImage now c → IsCrashImage start c

-- nor of either side
pub record AreUnwritten (start now : Disks) : Type 0 where
  pub zero : IsUnwritten start.zero now.zero
  pub one : IsUnwritten start.one now.one

-- both sides are blank
abbrev pub AreBlank : Disks → Type 0
AreBlank d = IsBlank d.zero.reads × IsBlank d.one.reads

-- of side One nothing was written, and of side Zero only where both were blank
pub record WritesOnlyBlank (start now : Disks) : Type 0 where
  pub one : IsUnwritten start.one now.one
  pub zero : (AreBlank start → ⊥) → IsUnwritten start.zero now.zero

-- whatever a crash leaves is what the sides read at the start, or shows what that shows
abbrev pub Keeps : Disks → Disks → Type 0
Keeps start now = Leaves (λ c. (c ≡ reads_of start) ⊎ ShowsAs c (reads_of start)) now

abbrev pub Keeping : Seen → Seen → Type 0
Keeping old new = Works (Keeps old.disks) old new

-- calls of the disk alone were made. At the first moment at most, that of the first of the two opening syncs, a crash leaves what it could
-- have left at the start; from the moment of the second sync on it leaves what the sides read, or what shows the same
pub record Opening (old new : Seen) : Type 0 where
  pub left : new.left ≡ old.left
  pub told : new.told ≡ old.told
  pub taken : new.taken ≡ old.taken
  pub asks : new.asks ≡ old.asks
  pub first : List Moment
  pub later : List Moment
  pub is : new.moments ≡ old.moments ++ (first ++ later)
  pub few : length first ≤ 1
  pub before : All (Quiet (AreUnwritten old.disks) old.told) first
  pub each : All (Quiet (Keeps old.disks) old.told) later
  pub last : AreUnwritten old.disks new.disks ⊎ Keeps old.disks new.disks

-- the same, and nothing was written
pub record Settling (old new : Seen) : Type 0 where
  pub unwritten : Works (AreUnwritten old.disks) old new
  pub opening : Opening old new

-- the sides as read showed a store of this state, and it is stored after it, at this place
pub record Opens (place : Place) (state : State) (old new : Seen) : Type 0 where
  pub shown : Store
  pub is_state : shown.state ≡ state
  pub before : Shows (reads_of old.disks) shown
  pub stored : IsStored place shown new.disks

-- the sides as read have this fault first, and are on the disk as they were
pub record FindsBad (first : BadStore) (old new : Seen) : Type 0 where
  pub bad : IsBad (reads_of old.disks) first
  pub disks : new.disks ≡ all_settled old.disks

-- both sides are on the disk as they were
abbrev pub IsSettled : Seen → Seen → Type 0
IsSettled old new = new.disks ≡ all_settled old.disks

-- the headers of both sides
pub record AreHeaders (headers : Headers) (d : Disks) : Type 0 where
  pub zero : headers.zero ≡ header_of d.zero.reads
  pub one : headers.one ≡ header_of d.one.reads

-- the headers were read, and nothing was changed
pub record Inspects (headers : Headers) (old new : Seen) : Type 0 where
  pub stays : new ≡ old
  pub are : AreHeaders headers old.disks

-- the header of a side was read, and nothing was changed
pub record InspectsSide (side : Side) (header : Option Header) (old new : Seen) : Type 0 where
  pub stays : new ≡ old
  pub is : header ≡ header_of (disk_of side old.disks).reads

-- nothing is pending, both sides are blank, and they have so many bytes
pub record IsReady (sizes : Sizes) (d : Disks) : Type 0 where
  pub settled : d ≡ all_settled d
  pub blank : AreBlank d
  pub long : AreSizes sizes d

-- nothing is pending, these are the headers and sizes of the sides, their headers have no fault, and this side is shown
pub record IsShownBy (headers : Headers) (sizes : Sizes) (side : Side) (header : Header) (d : Disks) : Type 0 where
  pub settled : d ≡ all_settled d
  pub are : AreHeaders headers d
  pub long : AreSizes sizes d
  pub sound : headers_fault headers.zero headers.one ≡ None
  pub shown : shown_side headers.zero headers.one ≡ Some (side, header)

-- the base of a side was read, and nothing was changed
pub record ReadsBase (side : Side) (header : Header) (base : State) (old new : Seen) : Type 0 where
  pub stays : new ≡ old
  pub sound : base_fault side (disk_of side old.disks).reads header ≡ None
  pub is_base : IsBaseOf (contents_of header.pages (disk_of side old.disks).reads) base

-- the side has no base: it has this fault first, and nothing was changed
pub record LacksBase (side : Side) (header : Header) (bad : BadStore) (old new : Seen) : Type 0 where
  pub stays : new ≡ old
  pub first : MatchOption (base_fault side (disk_of side old.disks).reads header) (IsNoBase (contents_of header.pages (disk_of side old.disks).reads) bad) (λ first. bad ≡ first)

-- the base and the journal of a side were read, which has so many records, and nothing was changed
pub record Resumes (side : Side) (header : Header) (state : State) (records end : ℕ) (old new : Seen) : Type 0 where
  pub stays : new ≡ old
  pub base : State
  pub edits : List Edit
  pub count : records ≡ length edits
  pub shows : ShowsBase side (disk_of side old.disks).reads header (record { state = state; epoch = header.epoch; end = end; base = base; edits = edits })

-- the base or the journal of a side has this fault first, and nothing was changed
pub record FailsBy (side : Side) (header : Header) (bad : BadStore) (old new : Seen) : Type 0 where
  pub stays : new ≡ old
  pub first : MatchOption (base_fault side (disk_of side old.disks).reads header) (FailsBase side (disk_of side old.disks).reads header bad) (λ first. bad ≡ first)

-- a first side: epoch 1 and the state of a new store, over what was there
abbrev pub first_side : List ℕ → List ℕ
first_side = base_bytes 1 (image_bytes opening_state (rows_of opening_state))

-- the two syncs alone were made, or where both sides were blank a first side was written on Zero too
pub record FindsOrCreates (old new : Seen) : Type 0 where
  pub found : (AreBlank old.disks → ⊥) → (new.disks ≡ all_settled old.disks) × MakesCalls 2 old new
  pub created : AreBlank old.disks → (new.disks ≡ with_disk Zero (settled_disk (first_side old.disks.zero.reads)) (all_settled old.disks))
      × MakesCalls (2 + calls_for (nat_le 24 (length old.disks.zero.reads)) 1) old new
