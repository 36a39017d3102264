-- What the images of a compaction show.
use Rattle.std.proofs.Common.{◌≡◌, ◌⊎◌, inl, inr, ⊎_elim, ℕ, ◌+◌, ◌^◌, ◌<◌, true, false, List, [], length, refl, sym, ◌∙◌, ap, subst, arith, Option, None, Some}
use Rattle.std.specs.Prelude.{◌==◌, nat_eq, if◌then◌else◌}
use Rattle.std.proofs.lemmas.Bool.Decides.{nat_tests}
use Rattle.wot_types.specs.State.{State}
use Rattle.wot_types.specs.Store.{Store}
use Rattle.wot_types.specs.Compaction.{base_end, compacted_base, compacted_edits, compacted_end, compacted_store, image_length, last_epoch, next_epoch}
use Rattle.wot_store.specs.Base.{IsBaseOf}
use Rattle.wot_site.specs.Disk.{Disks, Image, IsImageOf, disk_of, reads_of}
use Rattle.wot_site.specs.Seen.{Honestly, IfHonest, Seen}
use Rattle.wot_site.specs.declared.side.Side.{Side}
use Rattle.wot_site.specs.declared.side.Side.TheVariants.{Zero, One}
use Rattle.wot_site.proofs.Works.{works_start, works_weaker}
use Rattle.wot_journal.specs.Record.{most_side}
use Rattle.wot_types.specs.PagePlaces.{page_place, pages_needed}
use Rattle.wot_pages.specs.Pages.{contents_for}
use Rattle.wot_store.specs.declared.place.Place.{Place}
use Rattle.wot_store.specs.Changing.{IsStoredAfter, ShowsEither}
use Rattle.wot_store.specs.Base.{bytes_of, has_closed_gate, header_of, other_side}
use Rattle.wot_store.specs.Compacting.{compacted_place}
use Rattle.wot_store.specs.Shows.{IsStored, Shows, ShowsBase}
use Rattle.wot_store.specs.Writing.{Becomes, IsWriting, Writing, base_bytes}
use Rattle.wot_store.proofs.Headers.{shown_header}
use Rattle.wot_store.proofs.Unwritten.{settled_images}
use Rattle.wot_store.proofs.Pairs.{IsShown, base_here, image_on, opened_not_closed, reads_bytes, replaced, shown_alone, shown_kept, shown_magic, shown_next, shows_here}
use Rattle.wot_store.proofs.Wholes.{base_header, whole_header, whole_shows}

twice : (side : Side) → other_side (other_side side) ≡ side
twice Zero = refl
twice One = refl

-- the compacted store, before the last epoch and in it
compacted_before : (s : Store) → nat_eq s.epoch last_epoch ≡ false → compacted_store s ≡ record { state = s.state; epoch = s.epoch + 1; end = base_end s.state; base = s.state; edits = [] }
unfolding next_epoch compacted_end compacted_base compacted_edits
compacted_before s not_yet = λ i. record {
  state = s.state;
  epoch = if not_yet i then s.epoch else s.epoch + 1;
  end = if not_yet i then s.end else base_end s.state;
  base = if not_yet i then s.base else s.state;
  edits = if not_yet i then s.edits else [];
}

compacted_last : (s : Store) → s.epoch ≡ last_epoch → compacted_store s ≡ s
unfolding next_epoch compacted_end compacted_base compacted_edits
compacted_last s last =
    let same : nat_eq s.epoch last_epoch ≡ true = ap (λ (n : ℕ). nat_eq n last_epoch) last in
    λ i. record {
      state = s.state;
      epoch = if same i then s.epoch else s.epoch + 1;
      end = if same i then s.end else base_end s.state;
      base = if same i then s.base else s.state;
      edits = if same i then s.edits else [];
    }

-- nothing was done
pub unmoved : (place : Place) (shown : Store) (x : Seen) → IsStored place shown x.disks → ShowsEither shown shown x x
unmoved place shown x stored = works_start _ x (λ c image. inl (subst (λ (k : Image). Shows k shown) (sym (settled_images x.disks c (subst (λ (d : Disks). IsImageOf d c) stored.settled image))) stored.shows))

pub still_stored : (place : Place) (shown : Store) (after : Store) (seen : Option Seen) → IfHonest seen (λ x. IsStored place shown x.disks) → Honestly seen seen (ShowsEither shown after)
still_stored place shown after None stored = tt
still_stored place shown after (Some x) stored = works_weaker _ _ x x (λ d shows c image. ⊎_elim (λ h. inl h) (λ h. inl h) (shows c image)) (unmoved place shown x stored)

-- before the last epoch
module _ (place : Place) (shown : Store) (image : List ℕ) (x y : Seen) (stored : IsStored place shown x.disks) (base : IsBaseOf (contents_for image) shown.state)
    (room : page_place (pages_needed (length image)) < most_side) (small : place.epoch + 1 < 2 ^ 64) where
  abbrev pub after : Store
  after = record { state = shown.state; epoch = place.epoch + 1; end = page_place (pages_needed (length image)); base = shown.state; edits = [] }

  here : IsShown (reads_of x.disks) place.side stored.header
  here = record { sound = stored.shows.sound; is_side = stored.side }

  is_header : header_of (bytes_of place.side (reads_of x.disks)) ≡ Some stored.header
  is_header = shown_header (reads_of x.disks) place.side stored.header stored.side

  old_base : ShowsBase place.side (bytes_of place.side (reads_of x.disks)) stored.header shown
  old_base = base_here (reads_of x.disks) place.side stored.header shown stored.side stored.shows

  kept : (c : Image) → bytes_of (other_side (other_side place.side)) c ≡ bytes_of (other_side (other_side place.side)) (reads_of x.disks) → bytes_of place.side c ≡ bytes_of place.side (reads_of x.disks)
  kept c same = subst (λ (s : Side). bytes_of s c ≡ bytes_of s (reads_of x.disks)) (twice place.side) same

  kept_base : (c : Image) → bytes_of place.side c ≡ bytes_of place.side (reads_of x.disks) → ShowsBase place.side (bytes_of place.side c) stored.header shown
  kept_base c same = subst (λ (l : List ℕ). ShowsBase place.side l stored.header shown) (sym same) old_base

  kept_header : (c : Image) → bytes_of place.side c ≡ bytes_of place.side (reads_of x.disks) → header_of (bytes_of place.side c) ≡ Some stored.header
  kept_header c same = ap (λ (l : List ℕ). header_of l) same ∙ is_header

  abbrev pub written : List ℕ
  written = base_bytes (place.epoch + 1) image (disk_of (other_side place.side) x.disks).reads

  whole_is : (c : Image) → bytes_of (other_side place.side) c ≡ written → header_of (bytes_of (other_side place.side) c) ≡ Some (base_header (place.epoch + 1) image)
  whole_is c whole = ap (λ (l : List ℕ). header_of l) whole ∙ whole_header (place.epoch + 1) image (disk_of (other_side place.side) x.disks).reads small room

  whole_shown : (c : Image) → bytes_of place.side c ≡ bytes_of place.side (reads_of x.disks) → bytes_of (other_side place.side) c ≡ written → IsShown c (other_side place.side) (base_header (place.epoch + 1) image)
  whole_shown c same whole = shown_next stored.header (base_header (place.epoch + 1) image) (shown_magic (reads_of x.disks) place.side stored.header here) refl
      (ap (λ (n : ℕ). n + 1) (stored.epoch ∙ old_base.epoch)) c place.side (kept_header c same) (whole_is c whole)

  whole_image : (c : Image) → bytes_of place.side c ≡ bytes_of place.side (reads_of x.disks) → bytes_of (other_side place.side) c ≡ written → Shows c after
  whole_image c same whole = shows_here c (other_side place.side) (base_header (place.epoch + 1) image) after (whole_shown c same whole)
      (subst (λ (l : List ℕ). ShowsBase (other_side place.side) l (base_header (place.epoch + 1) image) after) (sym whole)
      (whole_shows (place.epoch + 1) image (disk_of (other_side place.side) x.disks).reads small room (other_side place.side) shown.state base))

  image_shows : (c : Image) → bytes_of place.side c ≡ bytes_of place.side (reads_of x.disks) → IsWriting (disk_of (other_side place.side) x.disks).reads (place.epoch + 1) image (bytes_of (other_side place.side) c)
      → Shows c shown ⊎ Shows c after
  image_shows c same (inl was) = inl (shows_here c place.side stored.header shown
      (shown_kept (reads_of x.disks) c place.side stored.header here (kept_header c same) (was ∙ reads_bytes (other_side place.side) x.disks)) (kept_base c same))
  image_shows c same (inr (inl blank)) = inl (shows_here c place.side stored.header shown
      (shown_alone c place.side stored.header (shown_magic (reads_of x.disks) place.side stored.header here) (kept_header c same) blank) (kept_base c same))
  image_shows c same (inr (inr whole)) = inr (whole_image c same whole)

  moments : Writing (other_side place.side) (place.epoch + 1) image x y → ShowsEither shown after x y
  moments works = works_weaker _ _ x y (λ d on c left.
      let seen = image_on (other_side place.side) (IsWriting (disk_of (other_side place.side) x.disks).reads (place.epoch + 1) image) x.disks d stored.settled on c left in
      image_shows c (kept c seen.other) seen.here) works

  done : Becomes (other_side place.side) (base_bytes (place.epoch + 1) image) x y
      → IsStoredAfter (record { side = other_side place.side; epoch = place.epoch + 1; end = page_place (pages_needed (length image)); other_closed = false; pages = pages_needed (length image); records = 0 }) after x y
  done becomes =
      let now = replaced (other_side place.side) written x.disks y.disks stored.settled becomes in
      let same = kept (reads_of y.disks) now.other in
      record {
        header = base_header (place.epoch + 1) image;
        side = (whole_shown (reads_of y.disks) same now.here).is_side;
        epoch = refl;
        end = refl;
        pages = refl;
        records = refl;
        closed = opened_not_closed (bytes_of place.side (reads_of y.disks)) stored.header (kept_header (reads_of y.disks) same) ∙ ap (λ (s : Side). has_closed_gate (bytes_of s (reads_of y.disks))) (sym (twice place.side));
        shows = whole_image (reads_of y.disks) same now.here;
        settled = now.settled;
      }

  module _ (long : length image ≡ image_length shown.state) where
    not_last : nat_eq place.epoch last_epoch ≡ false
    not_last = grind (arith, nat_tests)

    after_is : after ≡ compacted_store shown
    after_is = (λ i. record { state = shown.state; epoch = stored.epoch i + 1; end = page_place (pages_needed (long i)); base = shown.state; edits = [] }) ∙ sym (compacted_before shown (ap (λ (n : ℕ). nat_eq n last_epoch) (sym stored.epoch) ∙ not_last))

    pub compact_moments : Writing (other_side place.side) (place.epoch + 1) image x y → ShowsEither shown (compacted_store shown) x y
    compact_moments works = subst (λ (s : Store). ShowsEither shown s x y) after_is (moments works)

    pub compact_done : (new : Place) → new ≡ record { side = other_side place.side; epoch = place.epoch + 1; end = page_place (pages_needed (length image)); other_closed = false; pages = pages_needed (length image); records = 0 }
        → Becomes (other_side place.side) (base_bytes (place.epoch + 1) image) x y → IsStoredAfter new (compacted_store shown) x y
    compact_done new is becomes = subst (λ (p : Place). IsStoredAfter p (compacted_store shown) x y) (sym is)
        (subst (λ (s : Store). IsStoredAfter (record { side = other_side place.side; epoch = place.epoch + 1; end = page_place (pages_needed (length image)); other_closed = false; pages = pages_needed (length image); records = 0 }) s x y) after_is (done becomes))

-- the place on the other side
pub place_next : (place : Place) (s : State) (n : ℕ) → place.epoch + 1 < 2 ^ 64 → n ≡ image_length s
    → compacted_place place s ≡ record { side = other_side place.side; epoch = place.epoch + 1; end = page_place (pages_needed n); other_closed = false; pages = pages_needed n; records = 0 }
place_next place s n small long = rw (not_yet place.epoch small) (λ i. record { side = other_side place.side; epoch = place.epoch + 1; end = page_place (pages_needed (sym long i)); other_closed = false; pages = pages_needed (sym long i); records = 0 })
  where
    not_yet : (epoch : ℕ) → epoch + 1 < 2 ^ 64 → (epoch == last_epoch) ≡ false
    not_yet epoch small = grind (arith, nat_tests)

-- at the last epoch
module _ (place : Place) (shown : Store) (last : place.epoch ≡ last_epoch) where
  place_last : (s : State) → compacted_place place s ≡ place
  place_last s = rw last refl

  store_last : (d : Disks) → IsStored place shown d → compacted_store shown ≡ shown
  store_last d stored = compacted_last shown (sym stored.epoch ∙ last)

  pub still_compacted : (s : State) (seen : Option Seen) → IfHonest seen (λ x. IsStored place shown x.disks) → Honestly seen seen (IsStoredAfter (compacted_place place s) (compacted_store shown))
  still_compacted s None stored = tt
  still_compacted s (Some x) stored = subst (λ (p : Place). IsStored p (compacted_store shown) x.disks) (sym (place_last s))
      (subst (λ (t : Store). IsStored place t x.disks) (sym (store_last x.disks stored)) stored)

  pub still_compacting : (seen : Option Seen) → IfHonest seen (λ x. IsStored place shown x.disks) → Honestly seen seen (ShowsEither shown (compacted_store shown))
  still_compacting None stored = tt
  still_compacting (Some x) stored = subst (λ (t : Store). ShowsEither shown t x x) (sym (store_last x.disks stored)) (unmoved place shown x stored)
