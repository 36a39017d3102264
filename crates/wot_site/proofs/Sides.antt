-- The two sides.
use Rattle.std.proofs.Common.{◌≡◌, refl}
use Rattle.wot_site.specs.Disk.{Disk, Disks, disk_of, with_disk}
use Rattle.wot_site.specs.declared.side.Side.{Side}
use Rattle.wot_site.specs.declared.side.Side.TheVariants.{Zero, One}

pub disk_with : (side : Side) (d : Disk) (ds : Disks) → disk_of side (with_disk side d ds) ≡ d
disk_with Zero d ds = refl
disk_with One d ds = refl

pub with_with : (side : Side) (d e : Disk) (ds : Disks) → with_disk side e (with_disk side d ds) ≡ with_disk side e ds
with_with Zero d e ds = refl
with_with One d e ds = refl

pub with_same : (side : Side) (ds : Disks) → with_disk side (disk_of side ds) ds ≡ ds
with_same Zero ds = refl
with_same One ds = refl
