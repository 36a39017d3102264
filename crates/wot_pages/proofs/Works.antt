-- What a crash leaves while pages are written.
use Rattle.std.proofs.Common.{◌≡◌, ◌⊎◌, inl, inr, ℕ, suc, ◌+◌, ◌-◌, ◌*◌, ◌<◌, ◌≤◌, Option, Some, None, List, [], ◌∷◌, ◌++◌, length, get_or, take, drop, refl, sym, ◌∙◌, ap, subst, arith, append_assoc, flat_map}
use Rattle.std.specs.List.{range_with_len}
use Rattle.std.proofs.lemmas.Bool.{cases_lt}
use Rattle.std.proofs.lemmas.List.{append-nil, length-append, length-take-le, length-drop, take-take, take_at, take-append-drop, drop-drop, get_or-take, get_or-drop, get_or_append_left, get_or-append_right}
use Rattle.std.proofs.lemmas.List.Elements.{All-nil, All-push, All-append, All-weaker}
use Rattle.wot_site.specs.declared.range.Range.{Range}
use Rattle.wot_site.specs.declared.side.Side.{Side}
use Rattle.wot_site.specs.Disk.{Disk, Disks, IsCrashImage, IsOutside, disk_of, with_disk, after_write, bytes_after_write}
use Rattle.wot_site.specs.Seen.{Seen, IfHonest, Honestly}
use Rattle.wot_site.specs.Site.{Writes, WritesOrNot, on_disk}
use Rattle.wot_site.specs.Work.{Works}
use Rattle.wot_site.proofs.Calls.{writes_not_work}
use Rattle.wot_site.proofs.Images.{take_written, length_written, length_written_end, back_written}
use Rattle.wot_site.proofs.Sides.{disk_with, with_with, with_same}
use Rattle.wot_site.proofs.Works.{works_start, works_push, works_then}
use Rattle.wot_site.specs.Gate.{IsClosed}
use Rattle.wot_types.specs.PagePlaces.{pages_needed}
use Rattle.wot_pages.specs.Page.{page}
use Rattle.wot_pages.specs.Pages.{contents_for, content_in}
use Rattle.wot_pages.proofs.Held.{content_long, page_long}
use Rattle.wot_pages.proofs.Runs.{flat_length, flat_more}
use Rattle.wot_pages.specs.Writing.{IsShut, IsWrittenFrom, HasHeaderOf, FillsPages, StopsAtPage, WritesPages, after_pages}

-- ---- one write behind the header

pub longer_written : (old : List ℕ) (at : ℕ) (bytes : List ℕ) → at ≤ length old → length old ≤ length (bytes_after_write old at bytes)
longer_written old at bytes low = elim (cases_lt (length old) (at + length bytes)) [
  | inl lt ↦ omega (arith, length_written_end old at bytes low (omega arith))
  | inr le ↦ omega (arith, length_written old at bytes low le)
]

pub written_none : (place : ℕ) (d : Disk) → IsWrittenFrom place d d
written_none place d = record {
  front = refl;
  no_shorter = omega arith;
  synced = refl;
  ranges = [];
  pending = sym (append-nil d.pending);
  behind = All-nil (λ (r : Range). place ≤ r.at);
}

pub written_more : (place : ℕ) (d e : Disk) (at : ℕ) (bytes : List ℕ) → IsWrittenFrom place d e → place ≤ at → at ≤ length e.reads → IsWrittenFrom place d (after_write at bytes e)
written_more place d e at bytes before past low = record {
  front = sym (take-take place at (bytes_after_write e.reads at bytes) past) ∙ ap (λ (l : List ℕ). take place l) (take_written e.reads at bytes low)
      ∙ take-take place at e.reads past ∙ before.front;
  no_shorter = omega (arith, before.no_shorter, longer_written e.reads at bytes low);
  synced = before.synced;
  ranges = before.ranges ++ record { at = at; len = length bytes } ∷ [];
  pending = ap (λ (l : List Range). l ++ record { at = at; len = length bytes } ∷ []) before.pending
      ∙ append_assoc d.pending before.ranges (record { at = at; len = length bytes } ∷ []);
  behind = All-push (λ (r : Range). place ≤ r.at) before.ranges (record { at = at; len = length bytes }) before.behind past;
}

-- ---- the header in the images

module _ (d e : Disk) (long : 24 ≤ length d.reads) (written : IsWrittenFrom 24 d e) (c : List ℕ) (image : IsCrashImage e c) where
  -- a byte of the header that was there at the last sync and isn't pending
  kept_low : (i : ℕ) → i < 24 → i < d.synced → IsOutside i d.pending → get_or c i 0 ≡ get_or d.reads i 0
  kept_low i low old outside =
      image.kept i (omega (arith, written.synced, old)) (omega (arith, written.no_shorter, long, low))
      (subst (λ (l : List Range). IsOutside i l) (sym written.pending)
      (All-append (λ (r : Range). (i < r.at) ⊎ (r.at + r.len ≤ i)) d.pending written.ranges outside
      (All-weaker (λ (r : Range). 24 ≤ r.at) (λ (r : Range). (i < r.at) ⊎ (r.at + r.len ≤ i)) (λ r h. inl (omega (arith, h, low))) written.ranges written.behind)))
      ∙ sym (get_or-take 24 e.reads i 0 low) ∙ ap (λ (l : List ℕ). get_or l i 0) written.front ∙ get_or-take 24 d.reads i 0 low

  short_image : length c ≤ 24 → IsCrashImage d c
  short_image short = record {
    no_shorter = omega (arith, image.no_shorter, written.synced, written.no_shorter);
    no_longer = omega (arith, short, long);
    kept = λ i old within outside. kept_low i (omega (arith, image.no_shorter, written.synced, written.no_shorter, old, within, short)) old outside;
  }

  -- the header of this image in front of what was read
  abbrev pub before_it : List ℕ
  before_it = take 24 c ++ drop 24 d.reads

  long_image : 24 < length c → IsCrashImage d before_it
  long_image more =
      let head : length (take 24 c) ≡ 24 = length-take-le 24 c (omega (arith, more)) in
      let whole : length before_it ≡ length d.reads = length-append (take 24 c) (drop 24 d.reads) ∙ omega (arith, head, length-drop 24 d.reads, long) in
      record {
        no_shorter = omega (arith, whole);
        no_longer = omega (arith, whole);
        kept = λ i old within outside. elim (cases_lt i 24) [
          | inl low ↦ get_or_append_left (take 24 c) (drop 24 d.reads) 0 i (omega (arith, head, low)) ∙ get_or-take 24 c i 0 low ∙ kept_low i low old outside
          | inr high ↦ get_or-append_right (take 24 c) (drop 24 d.reads) 24 i 0 head high ∙ get_or-drop 24 d.reads (i - 24) 0
              ∙ (let place : 24 + (i - 24) ≡ i = omega (arith, high) in ap (λ (k : ℕ). get_or d.reads k 0) place)
        ];
      }

  pub header_kept : HasHeaderOf d c
  header_kept = elim (cases_lt 24 (length c)) [
    | inl more ↦ record { image = before_it; is = long_image more; same = sym (take_at (take 24 c) (drop 24 d.reads) 24 (length-take-le 24 c (omega (arith, more)))) }
    | inr short ↦ record { image = c; is = short_image short; same = refl }
  ]

-- a gate is closed where the header is as one whose gate is closed
pub closed_as : (c b : List ℕ) → take 24 c ≡ take 24 b → IsClosed b 0 → IsClosed c 0
closed_as c b same gate =
    let first : get_or c 0 0 ≡ get_or b 0 0 = sym (get_or-take 24 c 0 0 (omega arith)) ∙ ap (λ (l : List ℕ). get_or l 0 0) same ∙ get_or-take 24 b 0 0 (omega arith) in
    record {
      within = some c b same gate.within;
      closed = λ e. gate.closed (sym first ∙ e);
    }
  where
    some : (c b : List ℕ) → take 24 c ≡ take 24 b → 0 < length b → 0 < length c
    some c [] same low = absurd (omega arith)
    some [] (x ∷ b) same low = absurd (omega (arith, ap length same))
    some (y ∷ c) (x ∷ b) same low = omega arith

pub fills : (side : Side) (old new : Disks) → IsShut (disk_of side old) → new ≡ with_disk side (disk_of side new) old → IsWrittenFrom 24 (disk_of side old) (disk_of side new) → FillsPages side old new
fills side old new known other written = record {
  other = other;
  written = written;
  header = λ c image. header_kept (disk_of side old) (disk_of side new) known.long written c image;
  shut = λ c image.
      let head = header_kept (disk_of side old) (disk_of side new) known.long written c image in
      closed_as c head.image head.same (known.images head.image head.is);
}

-- ---- page after page

-- bytes that are written behind others that were written
pub written_on : (old : List ℕ) (at : ℕ) (first second : List ℕ) → at ≤ length old
    → bytes_after_write (bytes_after_write old at first) (at + length first) second ≡ bytes_after_write old at (first ++ second)
written_on old at first second low =
    let head : take (at + length first) (bytes_after_write old at first) ≡ take at old ++ first =
    ap (λ (l : List ℕ). take (at + length first) l) (sym (append_assoc (take at old) first (drop (at + length first) old)))
    ∙ take_at (take at old ++ first) (drop (at + length first) old) (at + length first) (length-append (take at old) first ∙ omega (arith, length-take-le at old low)) in
    let tail : drop (at + length first + length second) (bytes_after_write old at first) ≡ drop (at + length (first ++ second)) old =
    sym (drop-drop (length second) (at + length first) (bytes_after_write old at first)) ∙ ap (λ (l : List ℕ). drop (length second) l) (back_written old at first low)
    ∙ drop-drop (length second) (at + length first) old ∙ (let place : at + length first + length second ≡ at + length (first ++ second) = omega (arith, length-append first second) in ap (λ (k : ℕ). drop k old) place) in
    (λ i. head i ++ (second ++ tail i)) ∙ append_assoc (take at old) first (second ++ drop (at + length (first ++ second)) old)
    ∙ ap (λ (l : List ℕ). take at old ++ l) (sym (append_assoc first second (drop (at + length (first ++ second)) old)))

-- the first pages of an image, one behind the other
abbrev pub first_pages : ℕ → List ℕ → ℕ → List ℕ
first_pages epoch image k = flat_map (λ j. page epoch j (content_in (contents_for image) j)) (range_with_len 0 k)

firsts_long : (epoch : ℕ) (image : List ℕ) (k : ℕ) → k ≤ pages_needed (length image) → length (first_pages epoch image k) ≡ 4096 * k
firsts_long epoch image k few =
    flat_length (λ j. page epoch j (content_in (contents_for image) j)) 4096 k
    (λ j lt. page_long epoch j (content_in (contents_for image) j) (content_long image j (omega (arith, lt, few))))

written_end : (old : List ℕ) (at : ℕ) (bytes : List ℕ) → at ≤ length old → at + length bytes ≤ length (bytes_after_write old at bytes)
written_end old at bytes low = elim (cases_lt (length old) (at + length bytes)) [
  | inl lt ↦ omega (arith, length_written_end old at bytes low (omega arith))
  | inr le ↦ omega (arith, length_written old at bytes low le)
]

-- the first pages were written, in one call each
pub record Filled (side : Side) (epoch : ℕ) (image : List ℕ) (k : ℕ) (old new : Seen) : Type 0 where
  pub steps : new ≡ after_pages side epoch image k old
  pub works : Works (FillsPages side old.disks) old new
  pub calls : length new.moments ≡ length old.moments + k
  pub reads : (disk_of side new.disks).reads ≡ bytes_after_write (disk_of side old.disks).reads 24 (first_pages epoch image k)

module _ (side : Side) (epoch : ℕ) (image : List ℕ) (x : Seen) (known : IsShut (disk_of side x.disks)) where
  pub filled_start : Filled side epoch image 0 x x
  filled_start = record {
    steps = refl;
    works = works_start (FillsPages side x.disks) x (fills side x.disks x.disks known (sym (with_same side x.disks)) (written_none 24 (disk_of side x.disks)));
    calls = omega arith;
    reads = sym (take-append-drop 24 (disk_of side x.disks).reads);
  }

  module _ (k : ℕ) (y : Seen) (before : Filled side epoch image k x y) (few : k ≤ pages_needed (length image)) where
    pub filled_room : 24 + 4096 * k ≤ length (disk_of side y.disks).reads
    filled_room =
        let long = firsts_long epoch image k few in
        omega (arith, ap length before.reads, long, written_end (disk_of side x.disks).reads 24 (first_pages epoch image k) known.long)

    abbrev more : Disk
    more = after_write (24 + 4096 * k) (page epoch k (content_in (contents_for image) k)) (disk_of side y.disks)

    over : with_disk side more y.disks ≡ with_disk side more x.disks
    over = ap (λ (d : Disks). with_disk side more d) before.works.last.other ∙ with_with side (disk_of side y.disks) more x.disks

    same : disk_of side (with_disk side more y.disks) ≡ more
    same = disk_with side more y.disks

    while_filled : FillsPages side x.disks (with_disk side more y.disks)
    while_filled = fills side x.disks (with_disk side more y.disks) known
        (over ∙ ap (λ (d : Disk). with_disk side d x.disks) (sym same))
        (subst (λ (d : Disk). IsWrittenFrom 24 (disk_of side x.disks) d) (sym same)
        (written_more 24 (disk_of side x.disks) (disk_of side y.disks) (24 + 4096 * k) (page epoch k (content_in (contents_for image) k)) before.works.last.written (omega arith) filled_room))

    pub filled_not : (z : Seen) → WritesOrNot side (24 + 4096 * k) (page epoch k (content_in (contents_for image) k)) y z → Works (FillsPages side x.disks) x z
    filled_not z writes = works_then (FillsPages side x.disks) x y z before.works
        (writes_not_work (FillsPages side x.disks) side (24 + 4096 * k) (page epoch k (content_in (contents_for image) k)) y z before.works.last while_filled writes)

    pub filled_stopped : k < pages_needed (length image) → (z : Seen) → WritesOrNot side (24 + 4096 * k) (page epoch k (content_in (contents_for image) k)) y z → StopsAtPage side epoch image x z
    filled_stopped within z writes = record {
      page = k;
      within = within;
      is = elim writes [
        | inl wrote ↦ inl (wrote ∙ ap (λ (s : Seen). on_disk side (after_write (24 + 4096 * k) (page epoch k (content_in (contents_for image) k))) s) before.steps)
        | inr not ↦ inr (not ∙ before.steps)
      ];
    }

    pub filled_calls : (z : Seen) → WritesOrNot side (24 + 4096 * k) (page epoch k (content_in (contents_for image) k)) y z → length z.moments ≤ length x.moments + (k + 1)
    filled_calls z (inl wrote) = omega (arith, ap (λ (s : Seen). length s.moments) wrote, length-append y.moments (record { disks = with_disk side more y.disks; told = y.told } ∷ []), before.calls)
    filled_calls z (inr not) = omega (arith, ap (λ (s : Seen). length s.moments) not, before.calls)

    pub filled_more : (z : Seen) → Writes side (24 + 4096 * k) (page epoch k (content_in (contents_for image) k)) y z → Filled side epoch image (k + 1) x z
    filled_more z writes = subst (λ (s : Seen). Filled side epoch image (k + 1) x s) (sym writes) record {
      steps = ap (λ (s : Seen). on_disk side (after_write (24 + 4096 * k) (page epoch k (content_in (contents_for image) k))) s) before.steps ∙ one_more;
      works = works_push (FillsPages side x.disks) x y (with_disk side more y.disks) before.works while_filled;
      calls = length-append y.moments (record { disks = with_disk side more y.disks; told = y.told } ∷ []) ∙ omega (arith, before.calls);
      reads = ap (λ (d : Disk). d.reads) same ∙ grown;
    }
      where
        next : suc k ≡ k + 1
        next = omega arith

        one_more : after_pages side epoch image (suc k) x ≡ after_pages side epoch image (k + 1) x
        one_more = ap (λ (n : ℕ). after_pages side epoch image n x) next

        grown : bytes_after_write (disk_of side y.disks).reads (24 + 4096 * k) (page epoch k (content_in (contents_for image) k)) ≡ bytes_after_write (disk_of side x.disks).reads 24 (first_pages epoch image (k + 1))
        grown =
            let place : 24 + 4096 * k ≡ 24 + length (first_pages epoch image k) = omega (arith, firsts_long epoch image k few) in
            (λ i. bytes_after_write (before.reads i) (place i) (page epoch k (content_in (contents_for image) k)))
            ∙ written_on (disk_of side x.disks).reads 24 (first_pages epoch image k) (page epoch k (content_in (contents_for image) k)) known.long
            ∙ ap (λ (l : List ℕ). bytes_after_write (disk_of side x.disks).reads 24 l) (sym (flat_more (λ j. page epoch j (content_in (contents_for image) j)) k))

pub filled_whole : (side : Side) (epoch : ℕ) (image : List ℕ) (k : ℕ) (x y : Seen) → k ≡ pages_needed (length image) → Filled side epoch image k x y → WritesPages side epoch image x y
filled_whole side epoch image k x y is filled = record {
  steps = filled.steps ∙ ap (λ (n : ℕ). after_pages side epoch image n x) is;
  works = filled.works;
  calls = filled.calls ∙ ap (λ (n : ℕ). length x.moments + n) is;
  reads = filled.reads ∙ ap (λ (n : ℕ). bytes_after_write (disk_of side x.disks).reads 24 (first_pages epoch image n)) is;
}

-- before the first call
pub known_start : (H : Seen → Type 0) (P : Seen → Seen → Type 0) (a : Option Seen) → IfHonest a H → ((x : Seen) → H x → P x x) → Honestly a a P
known_start H P None known here = tt
known_start H P (Some x) known here = here x known
