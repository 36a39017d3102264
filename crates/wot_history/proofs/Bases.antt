-- The base of a side that is read again.
use Rattle.std.proofs.Common.{◌≡◌, ℕ, ◌<◌, ◌≤◌, Bool, true, false, List, length, refl, subst, arith, Option, Some, None}
use Rattle.std.specs.Prelude.{min, nat_lt, if◌then◌else◌}
use Rattle.std.proofs.lemmas.Bool.Decides.{nat_tests}
use Rattle.wot_types.specs.Candidates.{RowMap}
use Rattle.wot_types.specs.Image.{IsBase}
use Rattle.wot_types.specs.PagePlaces.{content_size, page_place}
use Rattle.wot_types.specs.State.{State}
use Rattle.wot_site.specs.Disk.{disk_of}
use Rattle.wot_site.specs.Seen.{Honestly, IfHonest, Seen}
use Rattle.wot_site.specs.Site.{Stays}
use Rattle.wot_site.proofs.Honest.{honest_weaker, honest_with}
use Rattle.wot_site.specs.declared.side.Side.{Side}
use Rattle.wot_journal.specs.Record.{most_side}
use Rattle.wot_pages.specs.Reading.{FindsFault, ReadsPages}
use Rattle.wot_pages.specs.declared.reading.PagesError.{PagesError}
use Rattle.wot_history.specs.declared.error.HistoryError.{HistoryError}
use Rattle.wot_history.specs.declared.error.HistoryError.TheVariants.{DiskFault, Short, Seal, Spelling, Lost, BadPayload, BadEdit, Memory}
use Rattle.wot_history.specs.History.{IsNone}
use Rattle.wot_history.specs.Reading.{FindsBase, LacksBase, NoBase, unread_pages}

-- pages that pass the side
pub not_started : (pages size : ℕ) → ◌≡◌ {A = Option ℕ} None (if nat_lt (page_place pages) (min size most_side) then Some (page_place pages) else None) → min size most_side ≤ page_place pages
not_started pages size is = on (nat_lt (page_place pages) (min size most_side)) refl is
  where
    past : (a b : ℕ) → nat_lt a b ≡ false → b ≤ a
    past a b not_less = grind (arith, nat_tests)

    on : (b : Bool) → nat_lt (page_place pages) (min size most_side) ≡ b → ◌≡◌ {A = Option ℕ} None (if b then Some (page_place pages) else None) → min size most_side ≤ page_place pages
    on true is e = absurd (cc e)
    on false is e = past (page_place pages) (min size most_side) is

pub lacks_room : (side : Side) (epoch pages size : ℕ) (a : Option Seen) → IfHonest a (λ s. size ≡ length (disk_of side s.disks).reads) → min size most_side ≤ page_place pages
    → Honestly a a (LacksBase side epoch pages (Short 24))
lacks_room side epoch pages size None long past = tt
lacks_room side epoch pages size (Some x) long past = record { stays = refl; answer = (refl, omega (arith, long, past)) }

module _ (side : Side) (epoch pages size : ℕ) (x y : Seen) (long : size ≡ length (disk_of side x.disks).reads) (fits : page_place pages < min size most_side) where
  fits_there : page_place pages < min (length (disk_of side x.disks).reads) most_side
  fits_there = omega (arith, long, fits)

  pub lacks_seal : (k : ℕ) → FindsFault side epoch pages k x y → LacksBase side epoch pages (Seal k) x y
  lacks_seal k found = record { stays = found.stays; answer = (fits_there, found.fault) }

  pub finds_base : (contents : List ℕ) (base : State) → ReadsPages side epoch pages contents x y → (current : Option RowMap) × IsBase content_size contents base current → FindsBase side epoch pages base x y
  finds_base contents base read found = record {
    stays = read.stays;
    has_base = record {
      fits = fits_there;
      sealed = read.whole;
      current = found.0;
      is_base = subst (λ (l : List ℕ). IsBase content_size l base found.0) read.these found.1;
    };
  }

  lacks_image : (contents : List ℕ) → ReadsPages side epoch pages contents x y → IsNone contents → LacksBase side epoch pages Spelling x y
  lacks_image contents read none = record { stays = read.stays; answer = (fits_there, read.whole, subst IsNone read.these none) }

  pub lacks_taken : (contents : List ℕ) (fault : HistoryError) → ReadsPages side epoch pages contents x y → NoBase contents fault → LacksBase side epoch pages fault x y
  lacks_taken contents Spelling read none = lacks_image contents read none
  lacks_taken contents Memory read none = record { stays = read.stays; answer = tt }
  lacks_taken contents DiskFault read none = absurd none
  lacks_taken contents (Short q) read none = absurd none
  lacks_taken contents (Seal k) read none = absurd none
  lacks_taken contents (Lost n) read none = absurd none
  lacks_taken contents (BadPayload n) read none = absurd none
  lacks_taken contents (BadEdit n) read none = absurd none

-- pages that weren't read
pub pages_lacked : (side : Side) (epoch pages size : ℕ) (e : PagesError) (a b : Option Seen) → IfHonest a (λ s. size ≡ length (disk_of side s.disks).reads) → page_place pages < min size most_side → Honestly a b Stays
    → ((k : ℕ) → e ≡ PagesError.Seal k → Honestly a b (FindsFault side epoch pages k)) → Honestly a b (LacksBase side epoch pages (unread_pages e))
pages_lacked side epoch pages size PagesError.DiskFault a b long fits stays found =
    honest_weaker Stays (LacksBase side epoch pages DiskFault) a b stays (λ x y same. record { stays = same; answer = tt })
pages_lacked side epoch pages size (PagesError.Seal k) a b long fits stays found =
    honest_with (λ s. size ≡ length (disk_of side s.disks).reads) (FindsFault side epoch pages k) (LacksBase side epoch pages (Seal k)) a b long (found k refl) (λ x y is fault. lacks_seal side epoch pages size x y is fits k fault)
pages_lacked side epoch pages size PagesError.Memory a b long fits stays found =
    honest_weaker Stays (LacksBase side epoch pages Memory) a b stays (λ x y same. record { stays = same; answer = tt })
