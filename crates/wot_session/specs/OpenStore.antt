-- A store that is open.
use Rattle.wot_types.specs.Store.{Store}
use Rattle.wot_site.specs.Disk.{Disks}
use Rattle.wot_store.specs.Shows.{IsStored}
use Rattle.wot_store.specs.declared.place.Place.{Place}

-- the store is open at some place: nothing is pending, and the shown side shows it
pub record IsOpen (store : Store) (disks : Disks) : Type 0 where
  pub place : Place
  pub stored : IsStored place store disks
