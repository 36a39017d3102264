-- The exit status and the line on standard error of each way to end.
use Rattle.std.specs.Prelude.{ℕ, List, [], codes}
use Rattle.wot_store.specs.declared.error.BadStore as bad
use Rattle.wot_store.specs.declared.error.BadStore.TheVariants.{Magic, SameEpoch, Short, Seal, Spelling, Row, BadPayload, BadEdit, Lost}
use Rattle.wot_session.specs.declared.status.Status.{Status}
use Rattle.wot_session.specs.declared.status.Status.TheVariants.{Done, Refused, Usage, ReadFault, TellFault, DiskFault, BadStore, Memory, TooLong}

abbrev pub code_of : Status → ℕ
code_of Done = 0
code_of Refused = 1
code_of Usage = 2
code_of ReadFault = 3
code_of TellFault = 4
code_of DiskFault = 5
code_of (BadStore fault) = 6
code_of Memory = 7
code_of TooLong = 8

-- a store's bytes have this fault
abbrev pub bad_store_line : bad.BadStore → List ℕ
bad_store_line (Magic side) = codes "wot: bad store: Magic"
bad_store_line (SameEpoch epoch) = codes "wot: bad store: SameEpoch"
bad_store_line (Short side place) = codes "wot: bad store: Short"
bad_store_line (Seal page) = codes "wot: bad store: Seal"
bad_store_line Spelling = codes "wot: bad store: Spelling"
bad_store_line (Row fault) = codes "wot: bad store: Row"
bad_store_line (BadPayload number) = codes "wot: bad store: BadPayload"
bad_store_line (BadEdit number) = codes "wot: bad store: BadEdit"
bad_store_line (Lost number) = codes "wot: bad store: Lost"

abbrev pub line_of : Status → List ℕ
line_of Done = []
line_of Refused = []
line_of Usage = codes "usage: wot [--workers N] [WORD]..."
line_of ReadFault = codes "wot: read fault"
line_of TellFault = codes "wot: write fault"
line_of DiskFault = codes "wot: disk fault"
line_of (BadStore fault) = bad_store_line fault
line_of Memory = codes "wot: out of memory"
line_of TooLong = codes "wot: input too long"
