-- What a plain edit makes of a state.
use Rattle.std.specs.Prelude.{◌≡◌, ◌&&◌, not, Bool, All, None, IsSome}
use Rattle.std.specs.FinMap as map
use Rattle.wot_types.specs.declared.key.Key.{Key}
use Rattle.wot_types.specs.Candidates.{RowMap}
use Rattle.wot_types.specs.Explanation.{KeySet}
use Rattle.wot_types.specs.Keyring.{Keyring, id_of, taken_id, with_keys, without_key}
use Rattle.wot_types.specs.Ownertrust.{with_entries}
use Rattle.wot_types.specs.Payload.{IsInRange}
use Rattle.wot_types.specs.State.{State}
use Rattle.wot_types.specs.Touched.{named_by_date, named_by_options, named_by_put, named_by_remove}
use Rattle.wot_types.specs.WellFormed.{IsWellFormed}
use Rattle.wot_live.specs.declared.plain_edit.PlainEdit.{PlainEdit}
use Rattle.wot_live.specs.declared.plain_edit.PlainEdit.TheVariants.{Put, Remove, SetDate, SetOptions}

-- the state after it
abbrev pub after_plain : State → PlainEdit → State
after_plain s (Put keys entries) = record s { keys = with_keys s.keys keys; trusts = with_entries s.trusts entries }
after_plain s (Remove id) = record s { keys = without_key s.keys id }
after_plain s (SetDate date) = record s { date = date }
after_plain s (SetOptions options) = record s { options = options }

-- the keys that it names
abbrev pub named_by_plain : State → PlainEdit → KeySet
named_by_plain s (Put keys entries) = named_by_put s keys entries
named_by_plain s (Remove id) = named_by_remove id
named_by_plain s (SetDate date) = named_by_date s date
named_by_plain s (SetOptions options) = named_by_options

-- its key ID had one of these rows and has no key now
abbrev pub is_back : Keyring → RowMap → Key → Bool
is_back keys kept key = not (map.contains_key keys (id_of key)) && map.contains_key kept (id_of key)

-- it may be made in a state: keys that are put are well formed and none has the key ID of another, one that is taken away is there, options are in their ranges
abbrev pub IsAllowed : State → PlainEdit → Type 0
IsAllowed s (Put keys entries) = All IsWellFormed keys × (taken_id s.keys keys ≡ None)
IsAllowed s (Remove id) = IsSome (map.get s.keys id)
IsAllowed s (SetDate date) = Unit {0}
IsAllowed s (SetOptions options) = IsInRange options
