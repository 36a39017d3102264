-- Reading an edit: the bytes after its tag, and the whole of a payload.
use Rattle.std.specs.Prelude.{◌≡◌, ℕ, ◌==◌, Bool, List, length, if◌then◌else◌, Option, Some, None, Result, Ok, Err}
use Rattle.wot_types.specs.declared.cert.Form.{Form}
use Rattle.wot_types.specs.declared.cert.Form.TheVariants.{WithoutFpr, WithFpr}
use Rattle.wot_types.specs.declared.key.Key.{Key}
use Rattle.wot_types.specs.declared.options.Options.{Options}
use Rattle.wot_types.specs.declared.trust.Trust.{Trust}
use Rattle.wot_types.specs.declared.ownertrust.Entry.{Entry}
use Rattle.wot_types.specs.declared.edit.Edit.{Edit}
use Rattle.wot_types.specs.declared.edit.Edit.TheVariants.{Import, Ownertrust, Set, Flag, Delete, Date, Options as SetOptions, Sample}
use Rattle.wot_spelling.specs.declared.no_value.NoValue.{NoValue}
use Rattle.wot_spelling.specs.declared.no_value.NoValue.TheVariants.{NoSpelling, Memory}
use Rattle.wot_spelling.specs.Reading.{◌>>=◌, Read, ◌&◌, made, kept, number_1_at, number_4_at, number_8_at, flag_at, entry_at, fpr_at, trust_at, list_at, key_at, options_at}
use Rattle.wot_spelling.specs.Checks.{are_importable, are_settable, is_in_range, is_sample_count}

-- keys that may be imported, whose certifications have this form
unfoldable pub keys_at : Form → Read (List Key)
keys_at form = kept are_importable (list_at (key_at form))

-- options in their ranges
unfoldable pub range_at : Read Options
range_at = kept is_in_range options_at

-- entries that may be set
unfoldable pub entries_at : Read (List Entry)
entries_at = kept are_settable (list_at entry_at)

-- how many keys a sample has
unfoldable pub sample_count_at : Read ℕ
sample_count_at = kept is_sample_count number_4_at

abbrev pub flag_of : List ℕ × Bool → Edit
flag_of p = Flag p.0 p.1

abbrev pub set_of : List ℕ × Trust → Edit
set_of p = Set p.0 p.1

abbrev pub sample_of : ℕ × ℕ → Edit
sample_of p = Sample p.0 p.1

-- what follows the tag
abbrev pub edit_after : ℕ → Read Edit
edit_after tag bytes =
    if tag == 1 then made Import (keys_at WithoutFpr) bytes else
    if tag == 2 then made Ownertrust entries_at bytes else
    if tag == 3 then made set_of (fpr_at & trust_at) bytes else
    if tag == 4 then made flag_of (fpr_at & flag_at) bytes else
    if tag == 5 then made Delete number_8_at bytes else
    if tag == 6 then made Date number_4_at bytes else
    if tag == 7 then made SetOptions range_at bytes else
    if tag == 8 then made sample_of (number_8_at & sample_count_at) bytes else
    if tag == 9 then made Import (keys_at WithFpr) bytes else None

-- a tag, and what is edited
unfoldable pub edit_at : Read Edit
edit_at bytes = number_1_at bytes >>= λ tag. edit_after tag.0 tag.1

-- all of the bytes
unfoldable pub edit_of : List ℕ → Option Edit
edit_of bytes = edit_at bytes >>= λ x. if length x.1 == 0 then Some x.0 else None

-- what a reader of all the bytes gave; want of memory says nothing
abbrev pub GivesAll : {A : Type 0} → Option A → Result A NoValue → Type 0
GivesAll read (Ok x) = read ≡ Some x
GivesAll read (Err NoSpelling) = read ≡ None
GivesAll read (Err Memory) = Unit {0}
