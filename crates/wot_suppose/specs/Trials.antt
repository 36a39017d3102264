-- An edit that is tried and taken back.
use Rattle.std.specs.Prelude.{◌≡◌}
use Rattle.wot_types.specs.State.{State}
use Rattle.wot_live.specs.PlainEdit.{IsAllowed, after_plain}
use Rattle.wot_suppose.specs.declared.trial.Trial.{Trial}
use Rattle.wot_suppose.specs.declared.tried.Tried.{Tried}

-- both edits may be made in any state, and made one after the other they leave this one as it was
pub record IsTakenBack (s : State) (trial : Trial) : Type 0 where
  pub edit_allowed : (t : State) → IsAllowed t trial.edit
  pub back_allowed : (t : State) → IsAllowed t trial.back
  pub restored : after_plain (after_plain s trial.edit) trial.back ≡ s

-- the state to which an engine is taken back
abbrev pub state_before : Tried → State
state_before tried = after_plain tried.engine tried.back
