-- A session from where it stands to the end of its input, or to `quit`.
use Rattle.std.specs.Prelude.{ℕ, Bool, ◌≡◌, ◌⊎◌, ◌-◌, ◌<◌, ◌≤◌, List, [], ◌++◌, length, map, take, All, AllPairs}
use Rattle.wot_types.specs.Lines.{lines, read_line, whole_lines}
use Rattle.wot_types.specs.Commands.{Command, Division, commands_from, division_after, whole_commands}
use Rattle.wot_types.specs.Commands.Division.{over}
use Rattle.wot_types.specs.LineByLine.{Position}
use Rattle.wot_types.specs.Session.{Progress, after_all, replies}
use Rattle.wot_site.specs.Seen.{Seen}
use Rattle.wot_site.specs.Work.{Since, moment_of}
use Rattle.wot_site.specs.declared.asked.Asked.{Asked}
use Rattle.wot_tell.specs.Telling.{IsPrefixOf}
use Rattle.wot_session.specs.CrashImages.{IsWhole, Kept}
use Rattle.wot_session.specs.OpenStore.{IsOpen}
use Rattle.wot_session.specs.Written.{Written}
use Rattle.wot_session.specs.Turn.{IsBetween}
use Rattle.wot_session.specs.Stop.{IsNoBadStore}
use Rattle.wot_session.specs.declared.stop.Stop.{Stop}
use Rattle.wot_session.specs.declared.stop.Stop.TheVariants.{ReadFault, TooLong}

-- the commands of an input, where a session stands so before it
abbrev pub commands_at : Position → List ℕ → List Command
commands_at s input = commands_from s.division (map read_line (lines input))

-- those that are whole in these bytes, the replies to them, and how they are divided
abbrev pub whole_at : Position → List ℕ → List Command
whole_at s bytes = whole_commands s.division (map read_line (whole_lines bytes))

abbrev pub so_far_at : Position → List ℕ → List ℕ
so_far_at s bytes = replies s.progress (whole_at s bytes)

abbrev pub division_at : Position → List ℕ → Division
division_at s bytes = division_after s.division (map read_line (whole_lines bytes))

abbrev pub end_at : Position → List ℕ → Progress
end_at s input = after_all s.progress (commands_at s input)

-- when `take` was called, the bytes told were all replies to the commands that are whole in the bytes taken, and none of these was `quit`
pub record IsOnTime (s : Position) (old new : Seen) (ask : Asked) : Type 0 where
  pub told : take ask.told new.told ≡ old.told ++ so_far_at s (take (ask.taken - old.taken) old.left)
  pub goes : division_at s (take (ask.taken - old.taken) old.left) ≡ over → ⊥

-- more bytes were taken before the later call of `take` than before this one
abbrev pub IsFurther : Asked → Asked → Type 0
IsFurther ask later = ask.taken < later.taken

-- each call of `take` was, and only the last may have moved nothing
pub record IsPunctual (s : Position) (old new : Seen) : Type 0 where
  pub since : List Asked
  pub asks : new.asks ≡ old.asks ++ since
  pub each : All (IsOnTime s old new) since
  pub rising : AllPairs IsFurther since

-- an accepted `quit` is whole in these first bytes of the input, which were taken and are within the bound
pub record HasQuit (s : Position) (most : ℕ) (old new : Seen) : Type 0 where
  pub bytes : List ℕ
  pub is_prefix : IsPrefixOf bytes old.left
  pub within : length bytes ≤ most
  pub taken : length bytes ≤ new.taken - old.taken
  pub quits : division_at s bytes ≡ over

-- the input was read to its end, which is within the bound
pub record IsRead (most : ℕ) (old new : Seen) : Type 0 where
  pub all : new.left ≡ []
  pub within : length old.left ≤ most

-- the session came to its end, and all replies were told
pub record SessionEnded (s : Position) (most : ℕ) (refused : Bool) (old new : Seen) : Type 0 where
  pub told : new.told ≡ old.told ++ replies s.progress (commands_at s old.left)
  pub read : IsRead most old new ⊎ HasQuit s most old new
  pub refusals : refused ≡ (end_at s old.left).refused
  pub stored : IsOpen (end_at s old.left).store new.disks
  pub punctual : IsPunctual s old new
  pub since : Since (Kept s.progress (commands_at s old.left) old.told) old new
  pub written : Written s.progress (commands_at s old.left) old new

-- it stopped, and a prefix of the replies was told. The input is too long only where more bytes than the bound were taken
pub record SessionStopped (s : Position) (most : ℕ) (stop : Stop) (old new : Seen) : Type 0 where
  pub sound : IsNoBadStore stop
  pub text : List ℕ
  pub is_prefix : IsPrefixOf text (replies s.progress (commands_at s old.left))
  pub told : new.told ≡ old.told ++ text
  pub punctual : IsPunctual s old new
  pub read_fault : stop ≡ ReadFault → (new.taken - old.taken ≤ most) × (new.told ≡ old.told ++ so_far_at s (take (new.taken - old.taken) old.left))
  pub too_long : stop ≡ TooLong → (most < length old.left) × (most < new.taken - old.taken) × (new.told ≡ old.told ++ so_far_at s (take most old.left))
      × (division_at s (take most old.left) ≡ over → ⊥)
  pub since : Since (Kept s.progress (commands_at s old.left) old.told) old new
  pub here : Kept s.progress (commands_at s old.left) old.told (moment_of new)
  pub whole : IsBetween stop → IsWhole s.progress (commands_at s old.left) old.told new
  pub written : Written s.progress (commands_at s old.left) old new
