-- The states that a store has had since its base.
use Rattle.std.specs.Prelude.{ℕ, List, fold, take}
use Rattle.wot_types.specs.declared.edit.Edit.{Edit}
use Rattle.wot_types.specs.StateAfter.{state_after}
use Rattle.wot_types.specs.State.{State}
use Rattle.wot_types.specs.Store.{Store}

-- the state after these edits, one after the other, each of which was accepted
abbrev pub with_edits : State → List Edit → State
with_edits s edits = fold state_after s edits

-- the state after the first n edits since the base
abbrev pub earlier_state : Store → ℕ → State
earlier_state store n = with_edits store.base (take n store.edits)
