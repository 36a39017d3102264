-- One call on a side at a time.
use Rattle.std.proofs.Common.{◌≡◌, inl, inr, ℕ, List, ◌∙◌, ap}
use Rattle.wot_site.specs.Disk.{Disk, Disks, disk_of, with_disk, after_write, after_sync}
use Rattle.wot_site.specs.Seen.{Seen}
use Rattle.wot_site.specs.Site.{on_disk, Writes, WritesOrNot, Syncs, Stays}
use Rattle.wot_site.specs.Work.{Works}
use Rattle.wot_site.specs.declared.side.Side.{Side}
use Rattle.wot_site.proofs.Sides.{disk_with, with_with}
use Rattle.wot_site.proofs.Works.{works_start, works_push, works_to}

-- one side alone is other than it was, and is this
abbrev pub IsAlone : Side → Disk → Seen → Seen → Type 0
IsAlone side d x y = y.disks ≡ with_disk side d x.disks

pub alone_disk : (side : Side) (d : Disk) (x y : Seen) → IsAlone side d x y → disk_of side y.disks ≡ d
alone_disk side d x y alone = ap (λ (e : Disks). disk_of side e) alone ∙ disk_with side d x.disks

pub alone_over : (side : Side) (d e : Disk) (x y : Seen) → IsAlone side d x y → with_disk side e y.disks ≡ with_disk side e x.disks
alone_over side d e x y alone = ap (λ (f : Disks). with_disk side e f) alone ∙ with_with side d e x.disks

pub wrote_alone : (side : Side) (at : ℕ) (bytes : List ℕ) (x y : Seen) → Writes side at bytes x y → IsAlone side (after_write at bytes (disk_of side x.disks)) x y
wrote_alone side at bytes x y writes = ap (λ (s : Seen). s.disks) writes

pub synced_alone : (side : Side) (x y : Seen) → Syncs side x y → IsAlone side (after_sync (disk_of side x.disks)) x y
synced_alone side x y syncs = ap (λ (s : Seen). s.disks) syncs

pub writes_work : (P : Disks → Type 0) (side : Side) (at : ℕ) (bytes : List ℕ) (x y : Seen) → P x.disks
    → P (with_disk side (after_write at bytes (disk_of side x.disks)) x.disks) → Writes side at bytes x y → Works P x y
writes_work P side at bytes x y first second writes =
    works_to P x (on_disk side (after_write at bytes) x) y writes (works_push P x x (with_disk side (after_write at bytes (disk_of side x.disks)) x.disks) (works_start P x first) second)

pub writes_not_work : (P : Disks → Type 0) (side : Side) (at : ℕ) (bytes : List ℕ) (x y : Seen) → P x.disks
    → P (with_disk side (after_write at bytes (disk_of side x.disks)) x.disks) → WritesOrNot side at bytes x y → Works P x y
writes_not_work P side at bytes x y first second (inl wrote) = writes_work P side at bytes x y first second wrote
writes_not_work P side at bytes x y first second (inr not) = works_to P x x y not (works_start P x first)

pub syncs_work : (P : Disks → Type 0) (side : Side) (x y : Seen) → P x.disks → P (with_disk side (after_sync (disk_of side x.disks)) x.disks) → Syncs side x y → Works P x y
syncs_work P side x y first second syncs =
    works_to P x (on_disk side after_sync x) y syncs (works_push P x x (with_disk side (after_sync (disk_of side x.disks)) x.disks) (works_start P x first) second)

pub stays_work : (P : Disks → Type 0) (x y : Seen) → P x.disks → Stays x y → Works P x y
stays_work P x y first stays = works_to P x x y stays (works_start P x first)
