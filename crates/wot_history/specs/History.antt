-- An earlier state, as the shown side holds it.
use Rattle.std.specs.Prelude.{ℕ, ◌≡◌, ◌⊎◌, ◌+◌, ◌<◌, ◌≤◌, min, List, length, Option, Some, None, Result, Ok, Err}
use Rattle.wot_types.specs.Candidates.{RowMap}
use Rattle.wot_types.specs.EarlierStates.{earlier_state}
use Rattle.wot_types.specs.Image.{IsBase}
use Rattle.wot_types.specs.PagePlaces.{content_size, first_page, page_place}
use Rattle.wot_types.specs.State.{State}
use Rattle.wot_types.specs.Store.{Store}
use Rattle.wot_site.specs.declared.side.Side.{Side}
use Rattle.wot_journal.specs.Record.{IsClosed, most_side}
use Rattle.wot_journal.specs.Next.{HasRecord, IsTruncated}
use Rattle.wot_pages.specs.Pages.{contents_of, seal_fault}
use Rattle.wot_store.specs.declared.place.Place.{Place}
use Rattle.wot_store.specs.declared.records.RecordError.{RecordError}
use Rattle.wot_store.specs.declared.error.BadStore.TheVariants as bad
use Rattle.wot_store.specs.Base.{IsNoBase}
use Rattle.wot_store.specs.Journal.{MakesNone, Reaches, Recorded}
use Rattle.wot_history.specs.declared.error.HistoryError.{HistoryError}
use Rattle.wot_history.specs.declared.error.HistoryError.TheVariants.{DiskFault, Short, Seal, Spelling, Lost, BadPayload, BadEdit, Memory}

-- ---- the base

-- so many pages, and the gate behind them, lie within a side and its limit
abbrev pub Fits : List ℕ → ℕ → Type 0
Fits bytes pages = page_place pages < min (length bytes) most_side

-- they have their seals, and hold an image of this state; the rows in it needn't be those of the state
pub record HasBase (bytes : List ℕ) (epoch pages : ℕ) (base : State) : Type 0 where
  pub fits : Fits bytes pages
  pub sealed : seal_fault epoch pages bytes ≡ None
  pub current : Option RowMap
  pub is_base : IsBase content_size (contents_of pages bytes) base current

-- contents spell no state
abbrev pub IsNone : List ℕ → Type 0
IsNone contents = IsNoBase contents bad.Spelling

-- the first fault of a base; want of memory and a fault of the disk are none
abbrev pub HasBaseFault : List ℕ → ℕ → ℕ → HistoryError → Type 0
HasBaseFault bytes epoch pages (Short q) = (q ≡ first_page) × (min (length bytes) most_side ≤ page_place pages)
HasBaseFault bytes epoch pages (Seal k) = Fits bytes pages × (seal_fault epoch pages bytes ≡ Some k)
HasBaseFault bytes epoch pages Spelling = Fits bytes pages × (seal_fault epoch pages bytes ≡ None) × IsNone (contents_of pages bytes)
HasBaseFault bytes epoch pages _ = ⊥

-- ---- the records behind it

-- so many records from a place on, each of an edit that is accepted in the state reached, lead to this place and state
pub record Leads (bytes : List ℕ) (start : ℕ) (base : State) (count at : ℕ) (state : State) : Type 0 where
  pub recorded : List Recorded
  pub many : count ≡ length recorded
  pub reaches : Reaches bytes start base recorded at state

-- a record stands here that makes no edit
pub record IsBad (bytes : List ℕ) (at : ℕ) (s : State) (why : RecordError) : Type 0 where
  pub spelling : List ℕ
  pub end : ℕ
  pub here : HasRecord bytes at spelling end
  pub none : MakesNone s spelling why

-- what is wrong with the record that has this number and is to stand here
abbrev pub HasRecordFault : List ℕ → ℕ → ℕ → State → HistoryError → Type 0
HasRecordFault bytes at number s (Lost n) = (n ≡ number) × IsClosed bytes at
HasRecordFault bytes at number s (Short q) = (q ≡ at) × IsTruncated bytes at
HasRecordFault bytes at number s (BadPayload n) = (n ≡ number) × IsBad bytes at s RecordError.BadPayload
HasRecordFault bytes at number s (BadEdit n) = (n ≡ number) × IsBad bytes at s RecordError.BadEdit
HasRecordFault bytes at number s _ = ⊥

-- of so many records the first that isn't right has this fault
pub record Stops (bytes : List ℕ) (start : ℕ) (base : State) (count : ℕ) (fault : HistoryError) : Type 0 where
  pub done : ℕ
  pub few : done < count
  pub at : ℕ
  pub state : State
  pub leads : Leads bytes start base done at state
  pub wrong : HasRecordFault bytes at (done + 1) state fault

-- ---- both

-- the side holds this state: so many edits led from its base to it
pub record HoldsState (bytes : List ℕ) (epoch pages count : ℕ) (state : State) : Type 0 where
  pub base : State
  pub has_base : HasBase bytes epoch pages base
  pub at : ℕ
  pub leads : Leads bytes (page_place pages) base count at state

-- the side has this fault first
abbrev pub LacksState : List ℕ → ℕ → ℕ → ℕ → HistoryError → Type 0
LacksState bytes epoch pages count fault =
    HasBaseFault bytes epoch pages fault ⊎ ((base : State) × HasBase bytes epoch pages base × Stops bytes (page_place pages) base count fault)

-- an answer that tells nothing of the bytes says nothing; any other one is the first fault
abbrev pub IsAnswerOf : List ℕ → ℕ → ℕ → ℕ → HistoryError → Type 0
IsAnswerOf bytes epoch pages count DiskFault = Unit {0}
IsAnswerOf bytes epoch pages count Memory = Unit {0}
IsAnswerOf bytes epoch pages count fault = LacksState bytes epoch pages count fault

-- ---- where the store is open

-- it is open at a place with this side, this epoch and so many pages, and so many edits were made since its base
pub record IsAsked (place : Place) (shown : Store) (side : Side) (epoch pages count : ℕ) : Type 0 where
  pub is_side : place.side ≡ side
  pub is_epoch : place.epoch ≡ epoch
  pub is_pages : place.pages ≡ pages
  pub made : count ≤ length shown.edits

-- the answer is the state after so many edits, unless the disk failed or memory was wanted
abbrev pub IsEarlier : Store → ℕ → Result State HistoryError → Type 0
IsEarlier shown count (Ok state) = state ≡ earlier_state shown count
IsEarlier shown count (Err DiskFault) = Unit {0}
IsEarlier shown count (Err Memory) = Unit {0}
IsEarlier shown count (Err fault) = ⊥
