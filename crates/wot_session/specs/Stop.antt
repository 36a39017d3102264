-- Why a run stops: its status, and what it says of the counts of faults.
use Rattle.std.specs.Prelude.{◌≡◌}
use Rattle.wot_site.specs.Seen.{Faults}
use Rattle.wot_site.specs.Site.{DiskRose, TakeRose, TellRose}
use Rattle.wot_session.specs.declared.stop.Stop.{Stop}
use Rattle.wot_session.specs.declared.stop.Stop.TheVariants.{ReadFault, TellFault, DiskFault, BadStore, Memory, TooLong}
use Rattle.wot_session.specs.declared.status.Status.{Status}
use Rattle.wot_session.specs.declared.status.Status.TheVariants as status

abbrev pub status_of : Stop → Status
status_of ReadFault = status.ReadFault
status_of TellFault = status.TellFault
status_of DiskFault = status.DiskFault
status_of (BadStore bad) = status.BadStore bad
status_of Memory = status.Memory
status_of TooLong = status.TooLong

-- a fault ends a run only where the count of such faults rose and the two others are as they were, and no other status comes where a count rose
abbrev pub Causes : Status → Faults → Faults → Type 0
Causes status.ReadFault old new = TakeRose old new
Causes status.TellFault old new = TellRose old new
Causes status.DiskFault old new = DiskRose old new
Causes other old new = new ≡ old

-- it is not that the store's bytes have a fault
abbrev pub IsNoBadStore : Stop → Type 0
IsNoBadStore (BadStore bad) = ⊥
IsNoBadStore _ = Unit {0}

-- a session stops by the cause of its status
abbrev pub StopCauses : Stop → Faults → Faults → Type 0
StopCauses stop = Causes (status_of stop)
