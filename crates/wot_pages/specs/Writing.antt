-- What writing pages does.
use Rattle.std.specs.Prelude.{ℕ, zero, suc, ◌≡◌, ◌⊎◌, ◌+◌, ◌<◌, ◌≤◌, List, ◌++◌, length, take, All}
use Rattle.wot_site.specs.declared.range.Range.{Range}
use Rattle.wot_site.specs.declared.side.Side.{Side}
use Rattle.wot_site.specs.Disk.{Disk, Disks, IsCrashImage, disk_of, with_disk, after_write, bytes_after_write}
use Rattle.wot_site.specs.Seen.{Seen}
use Rattle.wot_site.specs.Site.{on_disk}
use Rattle.wot_site.specs.Work.{Works}
use Rattle.wot_site.specs.Gate.{IsClosed}
use Rattle.wot_types.specs.PagePlaces.{first_page, page_place, pages_needed}
use Rattle.wot_pages.specs.Page.{page}
use Rattle.wot_pages.specs.Pages.{content_in, contents_for, pages_for}

-- a side has a header, and in each image the gate in front of it is closed
pub record IsShut (d : Disk) : Type 0 where
  pub long : first_page ≤ length d.reads
  pub images : (c : List ℕ) → IsCrashImage d c → IsClosed c 0

-- bytes of a side from a place on alone were written since
pub record IsWrittenFrom (place : ℕ) (old new : Disk) : Type 0 where
  pub front : take place new.reads ≡ take place old.reads
  pub no_shorter : length old.reads ≤ length new.reads
  pub synced : new.synced ≡ old.synced
  pub ranges : List Range
  pub pending : new.pending ≡ old.pending ++ ranges
  pub behind : All (λ r. place ≤ r.at) ranges

-- these bytes begin as an image of the side does
pub record HasHeaderOf (d : Disk) (c : List ℕ) : Type 0 where
  pub image : List ℕ
  pub is : IsCrashImage d image
  pub same : take first_page c ≡ take first_page image

-- of this side bytes behind the header alone were written, of the other none;
-- in each image the header is as in one that there was, and its gate is closed
pub record FillsPages (side : Side) (old new : Disks) : Type 0 where
  pub other : new ≡ with_disk side (disk_of side new) old
  pub written : IsWrittenFrom first_page (disk_of side old) (disk_of side new)
  pub header : (c : List ℕ) → IsCrashImage (disk_of side new) c → HasHeaderOf (disk_of side old) c
  pub shut : (c : List ℕ) → IsCrashImage (disk_of side new) c → IsClosed c 0

-- no more calls wrote or synced than there are pages
abbrev pub WritesAtMost : ℕ → Seen → Seen → Type 0
WritesAtMost pages old new = length new.moments ≤ length old.moments + pages

-- the first k pages of an image are written, one behind the other, each in a call of its own
abbrev pub after_pages : Side → ℕ → List ℕ → ℕ → Seen → Seen
after_pages side epoch image zero old = old
after_pages side epoch image (suc k) old = on_disk side (after_write (page_place k) (page epoch k (content_in (contents_for image) k))) (after_pages side epoch image k old)

-- it stopped at a page, whose call counts as made or as not made, and nothing was done after it
pub record StopsAtPage (side : Side) (epoch : ℕ) (image : List ℕ) (old new : Seen) : Type 0 where
  pub page : ℕ
  pub within : page < pages_needed (length image)
  pub is : (new ≡ after_pages side epoch image (suc page) old) ⊎ (new ≡ after_pages side epoch image page old)

-- all pages of an image were written over what stood behind the header, in one call each and no other call that writes or syncs
pub record WritesPages (side : Side) (epoch : ℕ) (image : List ℕ) (old new : Seen) : Type 0 where
  pub steps : new ≡ after_pages side epoch image (pages_needed (length image)) old
  pub works : Works (FillsPages side old.disks) old new
  pub calls : length new.moments ≡ length old.moments + pages_needed (length image)
  pub reads : (disk_of side new.disks).reads ≡ bytes_after_write (disk_of side old.disks).reads first_page (pages_for epoch image)
