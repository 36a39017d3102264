-- An edit that may be supposed leaves the keys as they are.
use Rattle.std.proofs.Common.{◌≡◌, refl}
use Rattle.wot_types.specs.declared.edit.Edit.{Edit}
use Rattle.wot_types.specs.declared.edit.Edit.TheVariants.{Import, Ownertrust, Set, Flag, Delete, Date, Options, Sample}
use Rattle.wot_types.specs.StateAfter.{state_after}
use Rattle.wot_types.specs.State.{State}
use Rattle.wot_types.specs.Supposing.{IsSupposable}

pub same_keys : (s : State) (edit : Edit) → IsSupposable edit → (state_after s edit).keys ≡ s.keys
same_keys s (Import keys) supposable = absurd supposable
same_keys s (Ownertrust entries) supposable = absurd supposable
same_keys s (Set fpr trust) supposable = refl
same_keys s (Flag fpr disabled) supposable = absurd supposable
same_keys s (Delete id) supposable = absurd supposable
same_keys s (Date date) supposable = refl
same_keys s (Options options) supposable = refl
same_keys s (Sample seed count) supposable = absurd supposable
