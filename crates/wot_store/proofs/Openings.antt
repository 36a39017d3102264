-- What a crash leaves while a store is opened.
use Rattle.std.proofs.Common.{◌≡◌, inl, inr, ℕ, ◌<◌, ◌≤◌, Bool, true, false, List, [], length, get_or, take, drop, refl, sym, ◌∙◌, ap, subst, arith, Option, None, Some}
use Rattle.std.specs.Prelude.{MatchOption, ◌&&◌, ◌==◌, is_none, min, nat_le, nat_lt, option_map, if◌then◌else◌}
use Rattle.std.proofs.lemmas.List.{get_or-take}
use Rattle.std.proofs.lemmas.Bool.{cases_lt}
use Rattle.std.proofs.lemmas.Bool.Decides.{nat_tests}
use Rattle.wot_types.specs.State.{State, opening_state}
use Rattle.wot_types.specs.Store.{Store}
use Rattle.wot_store.specs.Base.{IsBaseOf}
use Rattle.wot_site.specs.Disk.{Disks, Image, IsImageOf, disk_of, reads_of}
use Rattle.wot_site.specs.Seen.{Honestly, IfHonest, Seen}
use Rattle.wot_site.specs.Work.{Works}
use Rattle.wot_site.specs.declared.side.Side.{Side}
use Rattle.wot_site.specs.declared.side.Side.TheVariants.{Zero, One}
use Rattle.wot_site.proofs.Works.{works_weaker, works_start}
use Rattle.wot_journal.specs.Record.{most_side, open_gate}
use Rattle.wot_types.specs.PagePlaces.{page_place, pages_needed}
use Rattle.wot_pages.specs.Pages.{contents_for, contents_of}
use Rattle.wot_pages.specs.Reading.{FindsFault, ReadsPages}
use Rattle.wot_store.specs.declared.error.BadStore.{BadStore}
use Rattle.wot_store.specs.declared.error.BadStore.TheVariants.{Seal}
use Rattle.wot_store.specs.declared.header.Header.{Header}
use Rattle.wot_store.specs.declared.opening.Sizes.{Sizes}
use Rattle.wot_store.specs.declared.pair.Headers.{Headers}
use Rattle.wot_store.specs.declared.place.Place.{Place}
use Rattle.wot_store.specs.Base.{IsBlank, IsNoBase, base_fault, bytes_of, has_closed_gate, header_in, header_of, headers_fault, other_side, shown_side}
use Rattle.wot_store.specs.Journal.{Ends, Fails, FailsAt, Replays}
use Rattle.wot_store.specs.Shows.{FailsBase, IsBad, IsStored, Shows, ShowsBase, all_settled, new_store}
use Rattle.wot_store.specs.Writing.{Becomes, IsWriting, Writing, base_bytes}
use Rattle.wot_store.specs.Opening.{AreBlank, AreHeaders, AreSizes, FailsBy, FindsBad, Inspects, IsReady, IsShownBy, Keeping, LacksBase, Opening, Opens, ReadsBase, Resumes, Settles, Settling, WritesOnlyBlank}
use Rattle.wot_store.specs.Written.{Spares}
use Rattle.wot_store.proofs.Unwritten.{blank_written, opening_then, settled_images}
use Rattle.wot_store.proofs.Headers.{fitting}
use Rattle.wot_store.proofs.Pairs.{IsShown, blank_shows, closed_by, image_on, reads_bytes, replaced, shown_alone, shows_here}
use Rattle.wot_store.proofs.Wholes.{base_header, whole_header, whole_shows}

-- the header of a side that has one, by its first bytes
pub says_there : (R : List ℕ) (size : ℕ) (bytes : List ℕ) → size ≡ length R → 24 ≤ size → bytes ≡ take 24 (drop 0 R)
    → (if get_or bytes 0 0 == open_gate then Some (header_in bytes) else None) ≡ header_of R
says_there R size bytes is low there =
    ap (λ (l : List ℕ). if get_or l 0 0 == open_gate then Some (header_in l) else None) there
    ∙ ap (λ (n : ℕ). if n == open_gate then Some (header_in (take 24 R)) else None) (get_or-take 24 R 0 0 (omega arith)) ∙ sym (long R (omega (arith, is, low)))
  where
    long : (R : List ℕ) → 24 ≤ length R → header_of R ≡ (if get_or R 0 0 == open_gate then Some (header_in (take 24 R)) else None)
    long R low = grind (arith, nat_tests)

-- a first side is written
module _ (sizes : Sizes) (image : List ℕ) (x y : Seen) (ready : IsReady sizes x.disks) (base : IsBaseOf (contents_for image) opening_state) (room : page_place (pages_needed (length image)) < most_side)
    (end : page_place (pages_needed (length image)) ≡ 4120) where
  first_image : (c : Image) → c.one ≡ x.disks.one.reads → c.zero ≡ base_bytes 1 image x.disks.zero.reads → IsShown c Zero (base_header 1 image) × Shows c new_store
  first_image c one zero =
      let is : header_of c.zero ≡ Some (base_header 1 image) = ap (λ (l : List ℕ). header_of l) zero ∙ whole_header 1 image x.disks.zero.reads (omega arith) room in
      let blank : IsBlank c.one = subst IsBlank (sym one) ready.blank.1 in
      let here = shown_alone c Zero (base_header 1 image) refl is blank in (
        here,
        shows_here c Zero (base_header 1 image) new_store here (subst (λ (l : List ℕ). ShowsBase Zero l (base_header 1 image) new_store) (sym zero)
            (subst (λ (n : ℕ). ShowsBase Zero (base_bytes 1 image x.disks.zero.reads) (base_header 1 image) (record { state = opening_state; epoch = 1; end = n; base = opening_state; edits = [] })) end
            (whole_shows 1 image x.disks.zero.reads (omega arith) room Zero opening_state base))),
      )

  pub create_moments : Writing Zero 1 image x y → Keeping x y
  create_moments works = works_weaker _ _ x y (λ d on c left.
      let seen = image_on Zero (IsWriting x.disks.zero.reads 1 image) x.disks d ready.settled on c left in
      inr (record { shown = new_store; here = shows c seen.other seen.here; there = blank_shows (reads_of x.disks) ready.blank.0 ready.blank.1 })) works
    where
      shows : (c : Image) → c.one ≡ x.disks.one.reads → IsWriting x.disks.zero.reads 1 image c.zero → Shows c new_store
      shows c one (inl same) = blank_shows c (subst IsBlank (sym same) ready.blank.0) (subst IsBlank (sym one) ready.blank.1)
      shows c one (inr (inl blank)) = blank_shows c blank (subst IsBlank (sym one) ready.blank.1)
      shows c one (inr (inr whole)) = (first_image c one whole).1

  pub create_opens : (state : State) (at pages : ℕ) (closed : Bool) → state ≡ opening_state → at ≡ page_place (pages_needed (length image)) → pages ≡ pages_needed (length image) → closed ≡ nat_le 24 sizes.one
      → Becomes Zero (base_bytes 1 image) x y → Opens (record { side = Zero; epoch = 1; end = at; other_closed = closed; pages = pages; records = 0 }) state x y
  create_opens state at pages closed opens place many other becomes =
      let now = replaced Zero (base_bytes 1 image x.disks.zero.reads) x.disks y.disks ready.settled becomes in
      let first = first_image (reads_of y.disks) now.other now.here in
      record {
        shown = new_store;
        is_state = sym opens;
        before = blank_shows (reads_of x.disks) ready.blank.0 ready.blank.1;
        stored = record {
          header = base_header 1 image;
          side = first.0.is_side;
          epoch = refl;
          end = place ∙ end;
          pages = many;
          records = refl;
          closed = other ∙ (λ i. is_none (sym ready.blank.1 i) && nat_le 24 (ready.long.one i)) ∙ closed_by x.disks.one.reads ∙ ap (λ (l : List ℕ). has_closed_gate l) (sym now.other);
          shows = first.1;
          settled = now.settled;
        };
      }

pub same_reads : (x y : Seen) → y.disks ≡ all_settled x.disks → reads_of y.disks ≡ reads_of x.disks
same_reads x y disks = ap (λ (d : Disks). reads_of d) disks

-- neither side is shown where both are blank
pub none_shown : (zero one : Option Header) → shown_side zero one ≡ None → (zero ≡ None) × (one ≡ None)
none_shown None None e = (refl, refl)
none_shown (Some h) None e = absurd (cc e)
none_shown None (Some k) e = absurd (cc e)
none_shown (Some h) (Some k) e = either (nat_lt h.epoch k.epoch) e
  where
    either : (b : Bool) → ◌≡◌ {A = Option (Side × Header)} (if b then Some (One, k) else Some (Zero, h)) None → (Some h ≡ None) × (Some k ≡ None)
    either true e = absurd (cc e)
    either false e = absurd (cc e)

-- after both syncs, and after the headers were read
module _ (sizes : Sizes) (headers : Headers) (x y z : Seen) (settles : Settles sizes x y) (found : Inspects headers y z) where
  same : z.disks ≡ all_settled x.disks
  same = ap (λ (s : Seen). s.disks) found.stays ∙ settles.disks

  settled : z.disks ≡ all_settled z.disks
  settled = same ∙ ap (λ (d : Disks). all_settled d) (sym same)

  now_headers : AreHeaders headers z.disks
  now_headers = subst (λ (s : Seen). AreHeaders headers s.disks) (sym found.stays) found.are

  now_sizes : AreSizes sizes z.disks
  now_sizes = subst (λ (d : Disks). AreSizes sizes d) (sym same) (record { zero = settles.long.zero; one = settles.long.one })

  pub ready_then : shown_side headers.zero headers.one ≡ None → IsReady sizes z.disks
  ready_then none =
      let blank = none_shown headers.zero headers.one none in
      record { settled = settled; blank = (sym now_headers.zero ∙ blank.0, sym now_headers.one ∙ blank.1); long = now_sizes }

  pub shown_then : (side : Side) (header : Header) → headers_fault headers.zero headers.one ≡ None → shown_side headers.zero headers.one ≡ Some (side, header) → IsShownBy headers sizes side header z.disks
  shown_then side header sound is = record { settled = settled; are = now_headers; long = now_sizes; sound = sound; shown = is }

  pub blank_then : shown_side headers.zero headers.one ≡ None → AreBlank x.disks
  blank_then none = subst (λ (d : Disks). AreBlank d) same (ready_then none).blank

  pub opening_created : (w : Seen) → Settling x y → Keeping z w → Opening x w
  opening_created w settling keeping = opening_then x y w settling settles.disks (subst (λ (s : Seen). Keeping s w) found.stays keeping)

  pub blank_created : (w : Seen) → Settling x y → shown_side headers.zero headers.one ≡ None → Works (Spares One z.disks) z w → Works (WritesOnlyBlank x.disks) x w
  blank_created w settling none works = blank_written x y w settling settles.disks (blank_then none) (subst (λ (s : Seen). Works (Spares One s.disks) s w) found.stays works)

  pub finds_headers : (bad : BadStore) → headers_fault headers.zero headers.one ≡ Some bad → FindsBad bad x z
  finds_headers bad is = record {
    bad = subst (λ (c : Image). IsBad c bad) (same_reads x z same) (rw ((λ i. headers_fault (sym now_headers.zero i) (sym now_headers.one i)) ∙ is) refl);
    disks = same;
  }

  pub opens_then : (w : Seen) (place : Place) (state : State) → Opens place state z w → Opens place state x w
  opens_then w place state opens = record {
    shown = opens.shown;
    is_state = opens.is_state;
    before = subst (λ (c : Image). Shows c opens.shown) (same_reads x z same) opens.before;
    stored = opens.stored;
  }

  pub bad_then : (w : Seen) (bad : BadStore) → FindsBad bad z w → FindsBad bad x w
  bad_then w bad found = record { bad = subst (λ (c : Image). IsBad c bad) (same_reads x z same) found.bad; disks = found.disks ∙ sym settled ∙ same }

-- the shown side is read
module _ (headers : Headers) (sizes : Sizes) (side : Side) (header : Header) (z w : Seen) (by : IsShownBy headers sizes side header z.disks) where
  here : IsShown (reads_of z.disks) side header
  here = record { sound = (λ i. headers_fault (sym by.are.zero i) (sym by.are.one i)) ∙ by.sound; is_side = (λ i. shown_side (sym by.are.zero i) (sym by.are.one i)) ∙ by.shown }

  pub shown_opens : (state : State) (records end : ℕ) (closed : Bool) → closed ≡ has_closed_gate (bytes_of (other_side side) (reads_of z.disks)) → Resumes side header state records end z w
      → Opens (record { side = side; epoch = header.epoch; end = end; other_closed = closed; pages = header.pages; records = records }) state z w
  shown_opens state records end closed other resumes =
      let place : Place = record { side = side; epoch = header.epoch; end = end; other_closed = closed; pages = header.pages; records = records } in
      let shown : Store = record { state = state; epoch = header.epoch; end = end; base = resumes.base; edits = resumes.edits } in
      let shows : Shows (reads_of z.disks) shown =
      shows_here (reads_of z.disks) side header shown here (subst (λ (l : List ℕ). ShowsBase side l header shown) (reads_bytes side z.disks) resumes.shows) in
      record {
        shown = shown;
        is_state = refl;
        before = shows;
        stored = subst (λ (s : Seen). IsStored place shown s.disks) (sym resumes.stays)
            (record { header = header; side = here.is_side; epoch = refl; end = refl; pages = refl; records = resumes.count; closed = other; shows = shows; settled = by.settled });
      }

  pub shown_fails : (bad : BadStore) → FailsBy side header bad z w → FindsBad bad z w
  shown_fails bad fails = record {
    bad = rw (here.sound, here.is_side) (subst (λ (l : List ℕ). MatchOption (base_fault side l header) (FailsBase side l header bad) (λ first. bad ≡ first)) (reads_bytes side z.disks) fails.first);
    disks = ap (λ (s : Seen). s.disks) fails.stays ∙ by.settled;
  }

-- whether the gate of the other side is closed
pub zero_other : (headers : Headers) (sizes : Sizes) (side : Side) (header : Header) (z : Seen) → side ≡ Zero → IsShownBy headers sizes side header z.disks
    → (is_none headers.one && nat_le 24 sizes.one) ≡ has_closed_gate (bytes_of (other_side side) (reads_of z.disks))
zero_other headers sizes side header z is by = (λ i. is_none (by.are.one i) && nat_le 24 (by.long.one i)) ∙ closed_by z.disks.one.reads ∙ ap (λ (s : Side). has_closed_gate (bytes_of (other_side s) (reads_of z.disks))) (sym is)

pub one_other : (headers : Headers) (sizes : Sizes) (side : Side) (header : Header) (z : Seen) → side ≡ One → IsShownBy headers sizes side header z.disks
    → (is_none headers.zero && nat_le 24 sizes.zero) ≡ has_closed_gate (bytes_of (other_side side) (reads_of z.disks))
one_other headers sizes side header z is by = (λ i. is_none (by.are.zero i) && nat_le 24 (by.long.zero i)) ∙ closed_by z.disks.zero.reads ∙ ap (λ (s : Side). has_closed_gate (bytes_of (other_side s) (reads_of z.disks))) (sym is)

-- nothing was done to blank sides
keeps : (sizes : Sizes) (x : Seen) → IsReady sizes x.disks → Keeping x x
keeps sizes x ready = works_start _ x (λ c is. inl (settled_images x.disks c (subst (λ (d : Disks). IsImageOf d c) ready.settled is)))

pub still_keeping : (sizes : Sizes) (seen : Option Seen) → IfHonest seen (λ s. IsReady sizes s.disks) → Honestly seen seen Keeping
still_keeping sizes None ready = tt
still_keeping sizes (Some x) ready = keeps sizes x ready

-- the base of a side, and then its journal
module _ (side : Side) (header : Header) (base : State) (x y z : Seen) (read : ReadsBase side header base x y) where
  pub resumes_then : (state : State) (records end : ℕ) → Replays side (page_place header.pages) base state records end y z → Resumes side header state records end x z
  resumes_then state records end replays = record {
    stays = replays.stays ∙ read.stays;
    base = base;
    edits = replays.edits;
    count = replays.count;
    shows = record {
      sound = read.sound;
      epoch = refl;
      is_base = read.is_base;
      journal = subst (λ (s : Seen). Ends (disk_of side s.disks).reads (page_place header.pages) base replays.edits state end) read.stays replays.ends;
    };
  }

  pub fails_then : (bad : BadStore) → FailsAt side (page_place header.pages) base bad y z → FailsBy side header bad x z
  fails_then bad fails = record {
    stays = fails.stays ∙ read.stays;
    first = rw read.sound (inr (base, read.is_base, subst (λ (s : Seen). Fails side (disk_of side s.disks).reads (page_place header.pages) base bad) read.stays fails.fails));
  }

-- a side without a base
pub lacks_base : (side : Side) (header : Header) (bad : BadStore) (x y : Seen) → LacksBase side header bad x y → FailsBy side header bad x y
lacks_base side header bad x y lacks = record { stays = lacks.stays; first = either (base_fault side (disk_of side x.disks).reads header) lacks.first }
  where
    either : (first : Option BadStore) → MatchOption first (IsNoBase (contents_of header.pages (disk_of side x.disks).reads) bad) (λ found. bad ≡ found)
        → MatchOption first (FailsBase side (disk_of side x.disks).reads header bad) (λ found. bad ≡ found)
    either None h = inl h
    either (Some found) h = h

-- the first page whose seal is wrong
pub started : (pages size start : ℕ) → Some start ≡ (if nat_lt (page_place pages) (min size most_side) then Some (page_place pages) else None) → page_place pages < min size most_side
started pages size start is = elim (cases_lt (page_place pages) (min size most_side)) [
  | inl fits ↦ fits
  | inr past ↦ absurd (none (nat_lt (page_place pages) (min size most_side)) (not_less (page_place pages) (min size most_side) past) is)
]
  where
    not_less : (a b : ℕ) → b ≤ a → nat_lt a b ≡ false
    not_less a b past = grind (arith, nat_tests)

    none : (b : Bool) → b ≡ false → Some start ≡ (if b then Some (page_place pages) else None) → ⊥
    none true e is = absurd (cc e)
    none false e is = cc is

pub lacks_seal : (side : Side) (header : Header) (size page : ℕ) (x y : Seen) → size ≡ length (disk_of side x.disks).reads → page_place header.pages < min size most_side → FindsFault side header.epoch header.pages page x y
    → LacksBase side header (Seal page) x y
lacks_seal side header size page x y long fits found = record {
  stays = found.stays;
  first = rw (fitting side (disk_of side x.disks).reads header (omega (arith, long, fits)) ∙ ap (λ (o : Option ℕ). option_map Seal o) found.fault) refl;
}

-- what is known after a step
pub known_after : (P : Seen → Seen → Type 0) (K : Seen → Type 0) (a b : Option Seen) → Honestly a b P → ((x y : Seen) → P x y → K y) → IfHonest b K
known_after P K None None h goes = tt
known_after P K None (Some y) h goes = absurd h
known_after P K (Some x) None h goes = absurd h
known_after P K (Some x) (Some y) h goes = goes x y h

pub none_left : (o : Option BadStore) → ((bad : BadStore) → o ≡ Some bad → ⊥) → o ≡ None
none_left None not = refl
none_left (Some bad) not = absurd (not bad refl)

-- pages that were read: their contents are a base, or none
module _ (side : Side) (header : Header) (size : ℕ) (contents : List ℕ) (x y : Seen) (long : size ≡ length (disk_of side x.disks).reads) (fits : page_place header.pages < min size most_side)
    (read : ReadsPages side header.epoch header.pages contents x y) where
  whole_pages : base_fault side (disk_of side x.disks).reads header ≡ None
  whole_pages = fitting side (disk_of side x.disks).reads header (omega (arith, long, fits)) ∙ ap (λ (o : Option ℕ). option_map Seal o) read.whole

  pub reads_base : (state : State) → IsBaseOf contents state → ReadsBase side header state x y
  reads_base state base = record { stays = read.stays; sound = whole_pages; is_base = subst (λ (l : List ℕ). IsBaseOf l state) read.these base }

  pub reads_none : (bad : BadStore) → IsNoBase contents bad → LacksBase side header bad x y
  reads_none bad none = record { stays = read.stays; first = rw whole_pages (subst (λ (l : List ℕ). IsNoBase l bad) read.these none) }
