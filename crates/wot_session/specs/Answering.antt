-- What was told, and what a crash left meanwhile.
use Rattle.std.specs.Prelude.{ℕ, ◌≡◌, List, Result, OnOk, IfErr}
use Rattle.wot_types.specs.Store.{Store}
use Rattle.wot_types.specs.Commands.{Command}
use Rattle.wot_types.specs.Session.{Progress, replies}
use Rattle.wot_site.specs.Seen.{Faults, Seen}
use Rattle.wot_site.specs.Work.{Since, moment_of}
use Rattle.wot_tell.specs.Telling.{Told, ToldPrefix}
use Rattle.wot_session.specs.CrashImages.{IsAround, IsWhole, Kept}
use Rattle.wot_session.specs.Written.{IsAnswered, WritesTo, Written}
use Rattle.wot_session.specs.Stop.{IsNoBadStore, StopCauses}
use Rattle.wot_session.specs.declared.stop.Stop.{Stop}
use Rattle.wot_session.specs.declared.stop.Stop.TheVariants.{BadStore, DiskFault, TellFault, Memory}

-- the store was led from the one to the other, and then the reply was told; nothing was written but what leads there
pub record Given (s t : Store) (reply : List ℕ) (old new : Seen) : Type 0 where
  pub told : Told reply old new
  pub since : Since (IsAround s t reply old.told) old new
  pub writes : Since (IsAnswered (WritesTo s t old.disks) reply old.told new.disks) old new
  pub last : WritesTo s t old.disks new.disks

-- it stopped on the way
pub record GivenPrefix (s t : Store) (reply : List ℕ) (stop : Stop) (old new : Seen) : Type 0 where
  pub sound : IsNoBadStore stop
  pub told : ToldPrefix reply old new
  pub since : Since (IsAround s t reply old.told) old new
  pub here : IsAround s t reply old.told (moment_of new)
  pub writes : Since (IsAnswered (WritesTo s t old.disks) reply old.told new.disks) old new
  pub last : WritesTo s t old.disks new.disks

-- these commands were answered by a session that had come so far, and each wrote what its change may write
pub record Said (p : Progress) (commands : List Command) (old new : Seen) : Type 0 where
  pub told : Told (replies p commands) old new
  pub since : Since (Kept p commands old.told) old new
  pub written : Written p commands old new

-- it stopped while it answered them. Where memory was wanted, some were answered wholly and nothing was done for the others
pub record SaidPrefix (p : Progress) (commands : List Command) (stop : Stop) (old new : Seen) : Type 0 where
  pub sound : IsNoBadStore stop
  pub told : ToldPrefix (replies p commands) old new
  pub since : Since (Kept p commands old.told) old new
  pub here : Kept p commands old.told (moment_of new)
  pub whole : stop ≡ Memory → IsWhole p commands old.told new
  pub written : Written p commands old new

-- an answer that succeeds leaves every count of faults, and one that stops says why
pub record HasStopCause {T : Type 0} (old new : Faults) (result : Result T Stop) : Type 0 where
  pub quiet : OnOk result (new ≡ old)
  pub cause : IfErr result (λ stop. StopCauses stop old new)

-- why answering stops
abbrev pub IsAnswering : Stop → Type 0
IsAnswering TellFault = Unit {0}
IsAnswering DiskFault = Unit {0}
IsAnswering (BadStore bad) = Unit {0}
IsAnswering Memory = Unit {0}
IsAnswering _ = ⊥

pub record StopsTelling {T : Type 0} (old new : Faults) (result : Result T Stop) : Type 0 where
  pub why : HasStopCause old new result
  pub kinds : IfErr result IsAnswering
