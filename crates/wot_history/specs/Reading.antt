-- What reading an earlier state does.
use Rattle.std.specs.Prelude.{ℕ, ◌≡◌, List}
use Rattle.wot_types.specs.State.{State}
use Rattle.wot_site.specs.Disk.{disk_of}
use Rattle.wot_site.specs.Seen.{Seen}
use Rattle.wot_site.specs.declared.side.Side.{Side}
use Rattle.wot_journal.specs.declared.reading.ReplayError.{ReplayError}
use Rattle.wot_pages.specs.declared.reading.PagesError.{PagesError}
use Rattle.wot_store.specs.declared.records.RecordError.{RecordError}
use Rattle.wot_history.specs.declared.error.HistoryError.{HistoryError}
use Rattle.wot_history.specs.declared.error.HistoryError.TheVariants.{DiskFault, Short, Seal, Spelling, BadPayload, BadEdit, Memory}
use Rattle.wot_history.specs.History.{HasBase, HasBaseFault, HoldsState, IsAnswerOf, IsNone, Leads, Stops}

-- what is answered where pages or a record weren't read
abbrev pub unread_pages : PagesError → HistoryError
unread_pages PagesError.DiskFault = DiskFault
unread_pages (PagesError.Seal page) = Seal page
unread_pages PagesError.Memory = Memory

abbrev pub unread_record : ReplayError → HistoryError
unread_record ReplayError.DiskFault = DiskFault
unread_record (ReplayError.Short q) = Short q
unread_record ReplayError.Memory = Memory

-- where the record with this number makes no edit
abbrev pub unmade_record : ℕ → RecordError → HistoryError
unmade_record number RecordError.BadPayload = BadPayload number
unmade_record number RecordError.BadEdit = BadEdit number
unmade_record number RecordError.Memory = Memory

-- contents hold no base
abbrev pub NoBase : List ℕ → HistoryError → Type 0
NoBase contents Spelling = IsNone contents
NoBase contents Memory = Unit {0}
NoBase contents _ = ⊥

-- the base of a side was read, and nothing was changed
pub record FindsBase (side : Side) (epoch pages : ℕ) (base : State) (old new : Seen) : Type 0 where
  pub stays : new ≡ old
  pub has_base : HasBase (disk_of side old.disks).reads epoch pages base

-- an answer that tells nothing of the bytes says nothing
abbrev pub IsBaseAnswer : List ℕ → ℕ → ℕ → HistoryError → Type 0
IsBaseAnswer bytes epoch pages DiskFault = Unit {0}
IsBaseAnswer bytes epoch pages Memory = Unit {0}
IsBaseAnswer bytes epoch pages fault = HasBaseFault bytes epoch pages fault

pub record LacksBase (side : Side) (epoch pages : ℕ) (fault : HistoryError) (old new : Seen) : Type 0 where
  pub stays : new ≡ old
  pub answer : IsBaseAnswer (disk_of side old.disks).reads epoch pages fault

-- so many records were read, and nothing was changed
pub record Replays (side : Side) (start : ℕ) (base : State) (count : ℕ) (state : State) (old new : Seen) : Type 0 where
  pub stays : new ≡ old
  pub at : ℕ
  pub leads : Leads (disk_of side old.disks).reads start base count at state

abbrev pub IsStop : List ℕ → ℕ → State → ℕ → HistoryError → Type 0
IsStop bytes start base count DiskFault = Unit {0}
IsStop bytes start base count Memory = Unit {0}
IsStop bytes start base count fault = Stops bytes start base count fault

pub record StopsAt (side : Side) (start : ℕ) (base : State) (count : ℕ) (fault : HistoryError) (old new : Seen) : Type 0 where
  pub stays : new ≡ old
  pub answer : IsStop (disk_of side old.disks).reads start base count fault

-- an earlier state was read, and nothing was changed
pub record FindsState (side : Side) (epoch pages count : ℕ) (state : State) (old new : Seen) : Type 0 where
  pub stays : new ≡ old
  pub holds : HoldsState (disk_of side old.disks).reads epoch pages count state

pub record LacksIt (side : Side) (epoch pages count : ℕ) (fault : HistoryError) (old new : Seen) : Type 0 where
  pub stays : new ≡ old
  pub answer : IsAnswerOf (disk_of side old.disks).reads epoch pages count fault
