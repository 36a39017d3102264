-- The headers of the sides, and which side is shown.
use Rattle.std.specs.Prelude.{ℕ, ◌≡◌, ◌==◌, ◌&&◌, nat_eq, nat_lt, not, Bool, min, List, ◌++◌, length, take, drop, slice_index, codes, if◌then◌else◌, Option, Some, None, option_map}
use Rattle.std.specs.Int.{to_be_bytes, from_be_bytes, w64}
use Rattle.std.specs.Option.{option_or}
use Rattle.std.specs.Cmp.Lexicographic.{pointwise}
use Rattle.wot_site.specs.Disk.{Image}
use Rattle.wot_site.specs.declared.side.Side.{Side}
use Rattle.wot_site.specs.declared.side.Side.TheVariants.{Zero, One}
use Rattle.wot_journal.specs.Record.{open_gate, most_side}
use Rattle.wot_types.specs.Candidates.{RowMap}
use Rattle.wot_types.specs.Image.{IsBase}
use Rattle.wot_types.specs.Levels.{rows_of}
use Rattle.wot_types.specs.State.{State}
use Rattle.wot_types.specs.PagePlaces.{content_size, page_place}
use Rattle.wot_pages.specs.Pages.{seal_fault}
use Rattle.wot_check.specs.Stored.{IsLeastFault}
use Rattle.wot_store.specs.declared.header.Header.{Header}
use Rattle.wot_store.specs.declared.error.BadStore.{BadStore}
use Rattle.wot_store.specs.declared.error.BadStore.TheVariants.{Magic, SameEpoch, Short, Seal, Spelling, Row}

abbrev pub magic : List ℕ
magic = codes "WOTBASE"

-- the header behind its gate
abbrev pub header_tail : ℕ → ℕ → List ℕ
header_tail epoch pages = magic ++ (to_be_bytes w64 epoch ++ to_be_bytes w64 pages)

-- what 24 bytes say behind an open gate
abbrev pub header_in : List ℕ → Header
header_in bytes = record {
  has_magic = pointwise nat_eq (take 7 (drop 1 bytes)) magic;
  epoch = from_be_bytes w64 (take 8 (drop 8 bytes));
  pages = from_be_bytes w64 (take 8 (drop 16 bytes));
}

-- the header of a side, where the side isn't blank: it is blank where it has fewer than 24 bytes, or its gate is closed
abbrev pub header_of : List ℕ → Option Header
header_of bytes = if nat_lt (length bytes) 24 then None else if slice_index bytes 0 == open_gate then Some (header_in (take 24 bytes)) else None

abbrev pub IsBlank : List ℕ → Type 0
IsBlank bytes = header_of bytes ≡ None

-- the gate of a side is closed, in front of room for a header
abbrev pub has_closed_gate : List ℕ → Bool
has_closed_gate bytes = not (nat_lt (length bytes) 24) && not (slice_index bytes 0 == open_gate)

abbrev pub other_side : Side → Side
other_side Zero = One
other_side One = Zero

abbrev pub bytes_of : Side → Image → List ℕ
bytes_of Zero image = image.zero
bytes_of One image = image.one

-- a side that isn't blank has another magic
abbrev pub magic_fault : Side → Option Header → Option BadStore
magic_fault side None = None
magic_fault side (Some header) = if header.has_magic then None else Some (Magic side)

-- neither side is blank, and their epochs are the same
abbrev pub epoch_fault : Option Header → Option Header → Option BadStore
epoch_fault (Some zero) (Some one) = if zero.epoch == one.epoch then Some (SameEpoch zero.epoch) else None
epoch_fault zero one = None

-- the first fault of two headers
abbrev pub headers_fault : Option Header → Option Header → Option BadStore
headers_fault zero one = option_or (magic_fault Zero zero) (option_or (magic_fault One one) (epoch_fault zero one))

-- the shown side: of those that aren't blank the one with the greater epoch
abbrev pub shown_side : Option Header → Option Header → Option (Side × Header)
shown_side None None = None
shown_side (Some zero) None = Some (Zero, zero)
shown_side None (Some one) = Some (One, one)
shown_side (Some zero) (Some one) = if nat_lt zero.epoch one.epoch then Some (One, one) else Some (Zero, zero)

-- the pages, or the gate behind them, pass the side or its limit; or else the first page whose seal is wrong
abbrev pub base_fault : Side → List ℕ → Header → Option BadStore
base_fault side bytes header =
    if nat_lt (page_place header.pages) (min (length bytes) most_side) then option_map Seal (seal_fault header.epoch header.pages bytes) else Some (Short side 24)

-- a state's rows, or none that were counted by the rules of now
abbrev pub AreRowsOf : State → Option RowMap → Type 0
AreRowsOf s None = Unit {0}
AreRowsOf s (Some rows) = rows ≡ rows_of s

-- the contents of a base: an image of this state, with its rows where these were counted by the rules of now, and fewer bytes 00 than a page has of content
pub record IsBaseOf (contents : List ℕ) (s : State) : Type 0 where
  pub current : Option RowMap
  pub spelled : IsBase content_size contents s current
  pub rows : AreRowsOf s current

-- contents that are no base: they spell no state, or one with rows by the rules of now that don't all stand; the fault is that of the least key whose row doesn't
abbrev pub IsNoBase : List ℕ → BadStore → Type 0
IsNoBase contents Spelling = (s : State) (current : Option RowMap) → IsBase content_size contents s current → ⊥
IsNoBase contents (Row fault) = (s : State) × (rows : RowMap) × IsBase content_size contents s (Some rows) × IsLeastFault s rows fault
IsNoBase contents bad = ⊥
