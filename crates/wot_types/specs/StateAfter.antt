-- What an edit makes of a state.
use Rattle.wot_types.specs.declared.edit.Edit.{Edit}
use Rattle.wot_types.specs.declared.edit.Edit.TheVariants.{Import, Ownertrust, Set, Flag, Delete, Date, Options, Sample}
use Rattle.wot_types.specs.Keyring.{with_keys, without_key}
use Rattle.wot_types.specs.Ownertrust.{with_entries, with_flag, with_trust}
use Rattle.wot_types.specs.Sample.{sample_entries, sample_keys}
use Rattle.wot_types.specs.State.{State}

-- the state after an edit
abbrev pub state_after : State → Edit → State
state_after s (Import keys) = record s { keys = with_keys s.keys keys }
state_after s (Ownertrust entries) = record s { trusts = with_entries s.trusts entries }
state_after s (Set fpr trust) = record s { trusts = with_trust s.trusts fpr trust }
state_after s (Flag fpr disabled) = record s { trusts = with_flag s.trusts fpr disabled }
state_after s (Delete id) = record s { keys = without_key s.keys id }
state_after s (Date date) = record s { date = date }
state_after s (Options options) = record s { options = options }
state_after s (Sample seed count) = record s { keys = with_keys s.keys (sample_keys seed count); trusts = with_entries s.trusts (sample_entries seed count) }
