-- A run from its opened store on: a session, or one command.
use Rattle.std.specs.Prelude.{ℕ, Bool, true, false, ◌≡◌, ◌⊎◌, ◌-◌, ◌<◌, ◌≤◌, List, ◌++◌, length, take}
use Rattle.wot_types.specs.Store.{Store}
use Rattle.wot_types.specs.Commands.{takes_input}
use Rattle.wot_types.specs.Commands.Division.{over}
use Rattle.wot_types.specs.LineByLine.{Position, at_first}
use Rattle.wot_types.specs.Session.{at_start, commands_of, end_of, output_of}
use Rattle.wot_site.specs.Seen.{Seen}
use Rattle.wot_site.specs.Work.{Since, moment_of}
use Rattle.wot_session.specs.Input.{HasQuit, IsPunctual, IsRead, division_at, so_far_at}
use Rattle.wot_tell.specs.Telling.{IsPrefixOf}
use Rattle.wot_session.specs.CrashImages.{IsWhole, Kept}
use Rattle.wot_session.specs.OpenStore.{IsOpen}
use Rattle.wot_session.specs.Written.{Written}
use Rattle.wot_session.specs.Turn.{IsBetween}
use Rattle.wot_session.specs.Stop.{IsNoBadStore}
use Rattle.wot_session.specs.declared.stop.Stop.{Stop}
use Rattle.wot_session.specs.declared.stop.Stop.TheVariants.{ReadFault, TooLong}

-- the input was not touched
pub record IsUnread (old new : Seen) : Type 0 where
  pub left : new.left ≡ old.left
  pub taken : new.taken ≡ old.taken
  pub asks : new.asks ≡ old.asks

-- the input was read to its end, within the bound, or up to an accepted `quit`; a run of one command without a block takes nothing
abbrev pub Read : Position → Bool → ℕ → Seen → Seen → Type 0
Read s true most old new = IsRead most old new ⊎ HasQuit s most old new
Read s false most old new = IsUnread old new

-- a run with these words over an opened store came to its end
pub record WordsEnded (store : Store) (words : List (List ℕ)) (most : ℕ) (refused : Bool) (old new : Seen) : Type 0 where
  pub told : new.told ≡ old.told ++ output_of store words old.left
  pub refusals : refused ≡ (end_of store words old.left).refused
  pub read : Read (at_first store words) (takes_input words) most old new
  pub stored : IsOpen (end_of store words old.left).store new.disks
  pub punctual : IsPunctual (at_first store words) old new
  pub since : Since (Kept (at_start store) (commands_of words old.left) old.told) old new
  pub written : Written (at_start store) (commands_of words old.left) old new

-- it stopped. A run of one command without a block took nothing, and an input is too long only where more bytes than the bound were taken
pub record WordsStopped (store : Store) (words : List (List ℕ)) (most : ℕ) (stop : Stop) (old new : Seen) : Type 0 where
  pub sound : IsNoBadStore stop
  pub text : List ℕ
  pub told : new.told ≡ old.told ++ text
  pub is_prefix : IsPrefixOf text (output_of store words old.left)
  pub unread : takes_input words ≡ false → IsUnread old new
  pub read_fault : stop ≡ ReadFault → (new.taken - old.taken ≤ most) × (new.told ≡ old.told ++ so_far_at (at_first store words) (take (new.taken - old.taken) old.left))
  pub too_long : stop ≡ TooLong → (most < length old.left) × (most < new.taken - old.taken)
      × (new.told ≡ old.told ++ so_far_at (at_first store words) (take most old.left))
      × (division_at (at_first store words) (take most old.left) ≡ over → ⊥)
  pub punctual : IsPunctual (at_first store words) old new
  pub since : Since (Kept (at_start store) (commands_of words old.left) old.told) old new
  pub here : Kept (at_start store) (commands_of words old.left) old.told (moment_of new)
  pub whole : IsBetween stop → IsWhole (at_start store) (commands_of words old.left) old.told new
  pub written : Written (at_start store) (commands_of words old.left) old new
