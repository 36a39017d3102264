-- One call of `take`, and the lines that its bytes end.
use Rattle.std.specs.Prelude.{ℕ, ◌≡◌, ◌⊎◌, ◌+◌, ◌-◌, ◌<◌, ◌≤◌, List, [], ◌∷◌, ◌++◌, length, take, Option}
use Rattle.wot_types.specs.Commands.{Command, Division, division_after}
use Rattle.wot_types.specs.Commands.Division.{over}
use Rattle.wot_types.specs.LineByLine.{Position, commands_in}
use Rattle.wot_types.specs.Session.{replies}
use Rattle.wot_site.specs.Seen.{Seen}
use Rattle.wot_site.specs.Site.{asked_at}
use Rattle.wot_site.specs.Work.{Since, moment_of}
use Rattle.wot_session.specs.OpenLine.{whole_from}
use Rattle.wot_tell.specs.Telling.{IsPrefixOf}
use Rattle.wot_session.specs.CrashImages.{IsWhole, Kept}
use Rattle.wot_session.specs.Written.{Written}
use Rattle.wot_session.specs.Stop.{IsNoBadStore}
use Rattle.wot_session.specs.declared.stop.Stop.{Stop}
use Rattle.wot_session.specs.declared.stop.Stop.TheVariants.{Memory, ReadFault, TooLong}

-- the commands that are whole in the lines that these bytes end, where they follow this open line
abbrev pub commands_fed : Position → Option (List ℕ) → List ℕ → List Command
commands_fed p line bytes = commands_in p (whole_from line bytes)

abbrev pub division_fed : Position → Option (List ℕ) → List ℕ → Division
division_fed p line bytes = division_after p.division (whole_from line bytes)

-- stops that leave no command half answered
abbrev pub IsBetween : Stop → Type 0
IsBetween stop = (stop ≡ ReadFault) ⊎ (stop ≡ TooLong) ⊎ (stop ≡ Memory)

-- these bytes are all that was taken, and none only at the end of the input
pub record TookAll (piece : List ℕ) (old new : Seen) : Type 0 where
  pub input : old.left ≡ piece ++ new.left
  pub taken : new.taken ≡ old.taken + length piece
  pub last : piece ≡ [] → old.left ≡ []

-- this piece of the input was taken, and all commands that are whole then were answered; more was taken only where `quit` came
pub record Turned (p : Position) (line : Option (List ℕ)) (piece : List ℕ) (old new : Seen) : Type 0 where
  pub input : IsPrefixOf piece old.left
  pub taken : old.taken + length piece ≤ new.taken
  pub took : TookAll piece old new ⊎ (division_fed p line piece ≡ over)
  pub told : new.told ≡ old.told ++ replies p.progress (commands_fed p line piece)
  pub asks : new.asks ≡ old.asks ++ asked_at old ∷ []
  pub since : Since (Kept p.progress (commands_fed p line piece) old.told) old new
  pub written : Written p.progress (commands_fed p line piece) old new

-- it stopped: a piece of the input was taken, and a prefix of the replies to its commands was told
pub record StoppedTurn (p : Position) (line : Option (List ℕ)) (room : ℕ) (stop : Stop) (old new : Seen) : Type 0 where
  pub sound : IsNoBadStore stop
  pub piece : List ℕ
  pub input : IsPrefixOf piece old.left
  pub text : List ℕ
  pub is_prefix : IsPrefixOf text (replies p.progress (commands_fed p line piece))
  pub told : new.told ≡ old.told ++ text
  pub asks : (new.asks ≡ old.asks ++ asked_at old ∷ []) ⊎ (new.asks ≡ old.asks)
  pub read_fault : stop ≡ ReadFault → (new.taken ≡ old.taken) × (new.told ≡ old.told)
  pub too_long : stop ≡ TooLong → (room < length old.left) × (room < new.taken - old.taken)
      × (new.told ≡ old.told ++ replies p.progress (commands_fed p line (take room old.left)))
      × (division_fed p line (take room old.left) ≡ over → ⊥)
  pub since : Since (Kept p.progress (commands_fed p line piece) old.told) old new
  pub here : Kept p.progress (commands_fed p line piece) old.told (moment_of new)
  pub whole : IsBetween stop → IsWhole p.progress (commands_fed p line piece) old.told new
  pub written : Written p.progress (commands_fed p line piece) old new
