-- The base image: how the store spells a state and the rows of its introducers as bytes, by which rules these were counted,
-- and what is still read of images that were written before.
use Rattle.std.specs.Prelude.{◌≡◌, ◌≤◌, ◌==◌, ℕ, ◌<◌, ◌^◌, List, ◌++◌, length, map, All, Option, Some, None, if◌then◌else◌}
use Rattle.std.specs.FinMap as finmap
use Rattle.wot_types.specs.declared.cert.Form.{Form}
use Rattle.wot_types.specs.declared.cert.Form.TheVariants.{WithoutFpr, WithFpr}
use Rattle.wot_types.specs.declared.format.Format.{Format}
use Rattle.wot_types.specs.declared.format.Format.TheVariants.{First, Second, Third}
use Rattle.wot_types.specs.declared.row.Row.{Row}
use Rattle.wot_types.specs.declared.ownertrust.Entry.{Entry}
use Rattle.wot_types.specs.Candidates.{RowMap}
use Rattle.wot_types.specs.Ownertrust.{OwnertrustMap, entry_of}
use Rattle.wot_types.specs.Rows.{IsOwnRow}
use Rattle.wot_types.specs.WellFormedState.{IsWellFormedState}
use Rattle.wot_types.specs.Spelling.{number_1, number_4, number_8, entry_bytes, key_bytes, list_bytes, older_row_bytes, options_bytes, row_bytes, EntryFits, KeyFits, ListFits, OlderRowFits, OptionsFit, RowFits}
use Rattle.wot_types.specs.State.{State}
use Rattle.wot_types.specs.WellFormed.{IsScope}

-- the number of the rules of validity by which rows are counted now; those of earlier versions have lesser numbers, from 1 on
abbrev pub current_rules : ℕ
current_rules = 2

-- the format that is written
abbrev pub written_format : Format
written_format = Third current_rules

-- rules that there have been
abbrev pub IsFormat : Format → Type 0
IsFormat First = Unit {0}
IsFormat Second = Unit {0}
IsFormat (Third rules) = (1 ≤ rules) × (rules ≤ current_rules)

-- the number of a format, and in the third one that of the rules
unfoldable pub format_bytes : Format → List ℕ
format_bytes First = number_1 1
format_bytes Second = number_1 2
format_bytes (Third rules) = number_1 3 ++ number_1 rules

-- from the second format on certifications may name their issuers' fingerprints
abbrev pub form_of : Format → Form
form_of First = WithoutFpr
form_of Second = WithFpr
form_of (Third rules) = WithFpr

-- in the third format rows name who delegated
abbrev pub row_bytes_in : Format → Row → List ℕ
row_bytes_in First row = older_row_bytes row
row_bytes_in Second row = older_row_bytes row
row_bytes_in (Third rules) row = row_bytes row

abbrev pub RowFitsIn : Format → Row → Type 0
RowFitsIn First row = OlderRowFits row
RowFitsIn Second row = OlderRowFits row
RowFitsIn (Third rules) row = RowFits row

-- what is kept of each fingerprint, in rising order of (length, bytes)
abbrev pub entries_of : OwnertrustMap → List Entry
entries_of trusts = map entry_of (finmap.entries trusts)

-- what follows the length: the format, the date, the options, the entries, and the keys and the rows in rising order of key ID
unfoldable pub image_body : Format → State → RowMap → List ℕ
image_body format s rows =
    format_bytes format ++ (number_4 s.date ++ (options_bytes s.options ++ (list_bytes entry_bytes (entries_of s.trusts) ++ (list_bytes (key_bytes (form_of format)) (finmap.values s.keys) ++ list_bytes (row_bytes_in format) (finmap.values rows)))))

-- the length of what follows, and that
unfoldable pub image_in : Format → State → RowMap → List ℕ
image_in format s rows = number_8 (length (image_body format s rows)) ++ image_body format s rows

-- the image that is written
abbrev pub image_bytes : State → RowMap → List ℕ
image_bytes s rows = image_in written_format s rows

-- each number of more than one byte is within its bytes, and so is each length
pub record ImageFits (format : Format) (s : State) (stored : RowMap) : Type 0 where
  pub whole : length (image_body format s stored) < 2 ^ 64
  pub date : s.date < 2 ^ 32
  pub options : OptionsFit s.options
  pub entries : ListFits EntryFits (entries_of s.trusts)
  pub keys : ListFits (KeyFits (form_of format)) (finmap.values s.keys)
  pub rows : ListFits (RowFitsIn format) (finmap.values stored)

-- a row that is stored: it stands under its own key ID, and its regular expression has 1 to 255 bytes
pub record IsStoredRow (entry : ℕ × Row) : Type 0 where
  pub own : IsOwnRow entry
  pub scope : IsScope entry.1.scope

-- these bytes spell this state with these rows, which need not be the state's, in a format
pub record IsImageIn (format : Format) (bytes : List ℕ) (s : State) (rows : RowMap) : Type 0 where
  pub known : IsFormat format
  pub fits : ImageFits format s rows
  pub sound : IsWellFormedState s
  pub stored : All IsStoredRow (finmap.entries rows)
  pub is : bytes ≡ image_in format s rows

-- these bytes are the image of this state with these rows that is written
abbrev pub IsWrittenImage : List ℕ → State → RowMap → Type 0
IsWrittenImage bytes s rows = IsImageIn written_format bytes s rows

-- the rows of an image, where they were counted by the rules of now
abbrev pub current_rows : Format → RowMap → Option RowMap
current_rows First rows = None
current_rows Second rows = None
current_rows (Third rules) rows = if rules == current_rules then Some rows else None

-- these bytes spell this state, with these rows by the rules of now, or with others, which are dropped: every format is read
pub record IsImage (bytes : List ℕ) (s : State) (current : Option RowMap) : Type 0 where
  pub format : Format
  pub rows : RowMap
  pub spelled : IsImageIn format bytes s rows
  pub kept : current ≡ current_rows format rows

-- the contents of a base whose pages have so many bytes of content each: an image, and then fewer bytes 00 than that
pub record IsBase (size : ℕ) (contents : List ℕ) (s : State) (current : Option RowMap) : Type 0 where
  pub image : List ℕ
  pub rest : List ℕ
  pub spelled : IsImage image s current
  pub zeros : All (λ byte. byte ≡ 0) rest
  pub few : length rest < size
  pub is : contents ≡ image ++ rest
