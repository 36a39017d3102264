-- What the store answers where reading a side failed.
use Rattle.std.specs.Prelude.{ℕ}
use Rattle.wot_site.specs.declared.side.Side.{Side}
use Rattle.wot_journal.specs.declared.reading.ReplayError.{ReplayError}
use Rattle.wot_pages.specs.declared.reading.PagesError.{PagesError}
use Rattle.wot_store.specs.declared.error.BadStore.TheVariants.{Short, Seal, BadPayload, BadEdit}
use Rattle.wot_store.specs.declared.error.StoreError.{StoreError}
use Rattle.wot_store.specs.declared.records.RecordError.{RecordError}
use Rattle.wot_store.specs.declared.error.StoreError.TheVariants.{DiskFault, Bad, Memory}

-- where a record of a side was not read
abbrev pub unread_record : Side → ReplayError → StoreError
unread_record side ReplayError.DiskFault = DiskFault
unread_record side (ReplayError.Short q) = Bad (Short side q)
unread_record side ReplayError.Memory = Memory

-- where the record with this number makes no edit
abbrev pub unmade_record : ℕ → RecordError → StoreError
unmade_record number RecordError.BadPayload = Bad (BadPayload number)
unmade_record number RecordError.BadEdit = Bad (BadEdit number)
unmade_record number RecordError.Memory = Memory

-- where the pages of a base were not read
abbrev pub unread_pages : PagesError → StoreError
unread_pages PagesError.DiskFault = DiskFault
unread_pages (PagesError.Seal page) = Bad (Seal page)
unread_pages PagesError.Memory = Memory
