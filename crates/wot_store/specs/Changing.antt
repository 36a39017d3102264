-- How a store is led to another, by an edit or by a compaction.
use Rattle.std.specs.Prelude.{◌⊎◌}
use Rattle.wot_types.specs.Store.{Store}
use Rattle.wot_site.specs.Disk.{Leaves}
use Rattle.wot_site.specs.Seen.{Seen}
use Rattle.wot_site.specs.Work.{Works}
use Rattle.wot_store.specs.declared.place.Place.{Place}
use Rattle.wot_store.specs.Shows.{Shows, IsStored}

-- at each moment since, each image shows what was stored, or the store after it
abbrev pub ShowsEither : Store → Store → Seen → Seen → Type 0
ShowsEither shown after old new = Works (Leaves (λ c. Shows c shown ⊎ Shows c after)) old new

-- it is stored at this place
abbrev pub IsStoredAfter : Place → Store → Seen → Seen → Type 0
IsStoredAfter place after old new = IsStored place after new.disks
