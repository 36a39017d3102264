-- What `compact` does to the store: the state moves to the other side, as the base of the next epoch.
use Rattle.std.specs.Prelude.{ℕ, ◌+◌, ◌-◌, ◌^◌, List, [], length, if◌then◌else◌, nat_eq}
use Rattle.wot_types.specs.declared.edit.Edit.{Edit}
use Rattle.wot_types.specs.Image.{image_bytes}
use Rattle.wot_types.specs.Levels.{rows_of}
use Rattle.wot_types.specs.PagePlaces.{page_place, pages_needed}
use Rattle.wot_types.specs.State.{State}
use Rattle.wot_types.specs.Store.{Store}

-- no epoch follows this one
abbrev pub last_epoch : ℕ
last_epoch = 2 ^ 64 - 1

-- the length of the image of a state with its rows
abbrev pub image_length : State → ℕ
image_length s = length (image_bytes s (rows_of s))

-- where the journal begins behind a base of this state
abbrev pub base_end : State → ℕ
base_end s = page_place (pages_needed (image_length s))

-- the epoch after it; the last one stays
unfoldable pub next_epoch : Store → ℕ
next_epoch s = if nat_eq s.epoch last_epoch then s.epoch else s.epoch + 1

-- where the journal ends after it: it is empty behind the new base, and in the last epoch it stays as it is
unfoldable pub compacted_end : Store → ℕ
compacted_end s = if nat_eq s.epoch last_epoch then s.end else base_end s.state

-- the state of the base after it, and the edits since: the state is the base, and in the last epoch both stay
unfoldable pub compacted_base : Store → State
compacted_base s = if nat_eq s.epoch last_epoch then s.base else s.state

unfoldable pub compacted_edits : Store → List Edit
compacted_edits s = if nat_eq s.epoch last_epoch then s.edits else []

-- the store after it
abbrev pub compacted_store : Store → Store
compacted_store s = record { state = s.state; epoch = next_epoch s; end = compacted_end s; base = compacted_base s; edits = compacted_edits s }
