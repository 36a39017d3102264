-- What a pair of sides shows, by its shown side.
use Rattle.std.proofs.Common.{◌≡◌, ℕ, ◌+◌, Bool, true, false, List, length, refl, sym, ◌∙◌, ap, subst, arith, Option, None, Some}
use Rattle.std.specs.Prelude.{◌&&◌, ◌==◌, is_none, nat_lt, nat_le, if◌then◌else◌}
use Rattle.std.specs.Option.{option_or}
use Rattle.std.proofs.lemmas.Bool.Decides.{nat_tests}
use Rattle.wot_types.specs.Store.{Store}
use Rattle.wot_site.specs.Disk.{Disk, Disks, Image, IsCrashImage, IsImageOf, disk_of, reads_of, settled_disk, with_disk}
use Rattle.wot_site.specs.declared.side.Side.{Side}
use Rattle.wot_site.specs.declared.side.Side.TheVariants.{Zero, One}
use Rattle.wot_site.proofs.Images.{settled_image}
use Rattle.wot_store.specs.declared.header.Header.{Header}
use Rattle.wot_store.specs.declared.error.BadStore.{BadStore}
use Rattle.wot_store.specs.declared.error.BadStore.TheVariants.{Magic}
use Rattle.wot_store.specs.Base.{IsBlank, bytes_of, epoch_fault, has_closed_gate, header_of, headers_fault, magic_fault, other_side, shown_side}
use Rattle.wot_store.specs.Shows.{Shows, ShowsBase, all_settled, new_store}
use Rattle.wot_store.specs.Writing.{OnSide}
use Rattle.wot_store.proofs.Headers.{header_opened, shown_header}

-- the headers have no fault, and this side is shown
pub record IsShown (c : Image) (side : Side) (header : Header) : Type 0 where
  pub sound : headers_fault (header_of c.zero) (header_of c.one) ≡ None
  pub is_side : shown_side (header_of c.zero) (header_of c.one) ≡ Some (side, header)

pub shows_here : (c : Image) (side : Side) (header : Header) (shown : Store) → IsShown c side header → ShowsBase side (bytes_of side c) header shown → Shows c shown
shows_here c side header shown here base = record { sound = here.sound; shows = rw here.is_side base }

pub base_here : (c : Image) (side : Side) (header : Header) (shown : Store) → shown_side (header_of c.zero) (header_of c.one) ≡ Some (side, header) → Shows c shown → ShowsBase side (bytes_of side c) header shown
base_here c side header shown is shows = rw is at shows.shows

pub blank_shows : (c : Image) → IsBlank c.zero → IsBlank c.one → Shows c new_store
blank_shows c zero one = record { sound = rw (zero, one) refl; shows = rw (zero, one) refl }

-- a pair whose headers are these shows the same side
pub shown_again : (c k : Image) (side : Side) (header : Header) → IsShown c side header → header_of k.zero ≡ header_of c.zero → header_of k.one ≡ header_of c.one → IsShown k side header
shown_again c k side header here zero one = record {
  sound = (λ i. headers_fault (zero i) (one i)) ∙ here.sound;
  is_side = (λ i. shown_side (zero i) (one i)) ∙ here.is_side;
}

-- where the shown side keeps its header, and the other its bytes
pub shown_kept : (c k : Image) (side : Side) (header : Header) → IsShown c side header → header_of (bytes_of side k) ≡ Some header → bytes_of (other_side side) k ≡ bytes_of (other_side side) c → IsShown k side header
shown_kept c k Zero header here same other = shown_again c k Zero header here (same ∙ sym (shown_header c Zero header here.is_side)) (ap (λ (l : List ℕ). header_of l) other)
shown_kept c k One header here same other = shown_again c k One header here (ap (λ (l : List ℕ). header_of l) other) (same ∙ sym (shown_header c One header here.is_side))

-- a shown side has the magic
magic_none : (side : Side) (header : Header) → magic_fault side (Some header) ≡ None → header.has_magic ≡ true
magic_none side header none = by_test header.has_magic none
  where
    by_test : (b : Bool) → (if b then None else Some (Magic side)) ≡ None → b ≡ true
    by_test true e = refl
    by_test false e = absurd (cc e)

or_none : (a b : Option BadStore) → option_or a b ≡ None → (a ≡ None) × (b ≡ None)
or_none None b e = (refl, e)
or_none (Some x) b e = absurd (cc e)

pub shown_magic : (c : Image) (side : Side) (header : Header) → IsShown c side header → header.has_magic ≡ true
shown_magic c Zero header here =
    let parts = or_none (magic_fault Zero (header_of c.zero)) (option_or (magic_fault One (header_of c.one)) (epoch_fault (header_of c.zero) (header_of c.one))) here.sound in
    magic_none Zero header (ap (λ (h : Option Header). magic_fault Zero h) (sym (shown_header c Zero header here.is_side)) ∙ parts.0)
shown_magic c One header here =
    let parts = or_none (magic_fault Zero (header_of c.zero)) (option_or (magic_fault One (header_of c.one)) (epoch_fault (header_of c.zero) (header_of c.one))) here.sound in
    let more = or_none (magic_fault One (header_of c.one)) (epoch_fault (header_of c.zero) (header_of c.one)) parts.1 in
    magic_none One header (ap (λ (h : Option Header). magic_fault One h) (sym (shown_header c One header here.is_side)) ∙ more.0)

-- one side alone isn't blank
pub shown_alone : (c : Image) (side : Side) (header : Header) → header.has_magic ≡ true → header_of (bytes_of side c) ≡ Some header → IsBlank (bytes_of (other_side side) c) → IsShown c side header
shown_alone c Zero header magic is blank = record { sound = rw (is, blank, magic) refl; is_side = rw (is, blank) refl }
shown_alone c One header magic is blank = record { sound = rw (is, blank, magic) refl; is_side = rw (is, blank) refl }

-- of two headers with the magic the one with the next epoch is shown
module _ (header next : Header) (magic : header.has_magic ≡ true) (more : next.has_magic ≡ true) (after : next.epoch ≡ header.epoch + 1) where
  differ : (a b : ℕ) → a ≡ b + 1 → (a == b) ≡ false
  differ a b is = grind (arith, nat_tests)

  differ_too : (a b : ℕ) → a ≡ b + 1 → (b == a) ≡ false
  differ_too a b is = grind (arith, nat_tests)

  greater : (a b : ℕ) → a ≡ b + 1 → nat_lt b a ≡ true
  greater a b is = grind (arith, nat_tests)

  not_greater : (a b : ℕ) → a ≡ b + 1 → nat_lt a b ≡ false
  not_greater a b is = grind (arith, nat_tests)

  sound_after : headers_fault (Some header) (Some next) ≡ None
  sound_after = rw (magic, more, differ_too next.epoch header.epoch after) refl

  side_after : shown_side (Some header) (Some next) ≡ Some (One, next)
  side_after = rw (greater next.epoch header.epoch after) refl

  sound_before : headers_fault (Some next) (Some header) ≡ None
  sound_before = rw (magic, more, differ next.epoch header.epoch after) refl

  side_before : shown_side (Some next) (Some header) ≡ Some (Zero, next)
  side_before = rw (not_greater next.epoch header.epoch after) refl

  pub shown_next : (c : Image) (side : Side) → header_of (bytes_of side c) ≡ Some header → header_of (bytes_of (other_side side) c) ≡ Some next → IsShown c (other_side side) next
  shown_next c Zero is other = record { sound = (λ i. headers_fault (is i) (other i)) ∙ sound_after; is_side = (λ i. shown_side (is i) (other i)) ∙ side_after }
  shown_next c One is other = record { sound = (λ i. headers_fault (other i) (is i)) ∙ sound_before; is_side = (λ i. shown_side (other i) (is i)) ∙ side_before }

-- what a crash leaves where this side alone is other than it was and nothing was pending
pub record OnImage (side : Side) (P : List ℕ → Type 0) (x : Disks) (c : Image) : Type 0 where
  pub here : P (bytes_of side c)
  pub other : bytes_of (other_side side) c ≡ bytes_of (other_side side) (reads_of x)

pub image_on : (side : Side) (P : List ℕ → Type 0) (x d : Disks) → x ≡ all_settled x → OnSide side P x d → (c : Image) → IsImageOf d c → OnImage side P x c
image_on Zero P x d settled on c image =
    let one : d.one ≡ settled_disk x.one.reads = ap (λ (e : Disks). e.one) on.other ∙ ap (λ (e : Disks). e.one) settled in
    record { here = on.images c.zero image.zero; other = settled_image x.one.reads c.one (subst (λ (e : Disk). IsCrashImage e c.one) one image.one) }
image_on One P x d settled on c image =
    let zero : d.zero ≡ settled_disk x.zero.reads = ap (λ (e : Disks). e.zero) on.other ∙ ap (λ (e : Disks). e.zero) settled in
    record { here = on.images c.one image.one; other = settled_image x.zero.reads c.zero (subst (λ (e : Disk). IsCrashImage e c.zero) zero image.zero) }

-- one side has other bytes, and nothing is pending
pub record IsReplaced (side : Side) (bytes : List ℕ) (x y : Disks) : Type 0 where
  pub here : bytes_of side (reads_of y) ≡ bytes
  pub other : bytes_of (other_side side) (reads_of y) ≡ bytes_of (other_side side) (reads_of x)
  pub settled : y ≡ all_settled y

pub replaced : (side : Side) (bytes : List ℕ) (x y : Disks) → x ≡ all_settled x → y ≡ with_disk side (settled_disk bytes) x → IsReplaced side bytes x y
replaced Zero bytes x y settled is =
    let zero : y.zero ≡ settled_disk bytes = ap (λ (d : Disks). d.zero) is in
    let one : y.one ≡ x.one = ap (λ (d : Disks). d.one) is in
    let old : x.one ≡ settled_disk x.one.reads = ap (λ (d : Disks). d.one) settled in
    let zero_settled : y.zero ≡ settled_disk y.zero.reads = zero ∙ ap (λ (d : Disk). settled_disk d.reads) (sym zero) in
    let one_settled : y.one ≡ settled_disk y.one.reads = one ∙ old ∙ ap (λ (d : Disk). settled_disk d.reads) (sym one) in
    record { here = ap (λ (d : Disk). d.reads) zero; other = ap (λ (d : Disk). d.reads) one; settled = λ i. record { zero = zero_settled i; one = one_settled i } }
replaced One bytes x y settled is =
    let one : y.one ≡ settled_disk bytes = ap (λ (d : Disks). d.one) is in
    let zero : y.zero ≡ x.zero = ap (λ (d : Disks). d.zero) is in
    let old : x.zero ≡ settled_disk x.zero.reads = ap (λ (d : Disks). d.zero) settled in
    let one_settled : y.one ≡ settled_disk y.one.reads = one ∙ ap (λ (d : Disk). settled_disk d.reads) (sym one) in
    let zero_settled : y.zero ≡ settled_disk y.zero.reads = zero ∙ old ∙ ap (λ (d : Disk). settled_disk d.reads) (sym zero) in
    record { here = ap (λ (d : Disk). d.reads) one; other = ap (λ (d : Disk). d.reads) zero; settled = λ i. record { zero = zero_settled i; one = one_settled i } }

-- by its header and size, whether the gate of a side is closed
pub closed_by : (bytes : List ℕ) → (is_none (header_of bytes) && nat_le 24 (length bytes)) ≡ has_closed_gate bytes
closed_by bytes = grind (arith, nat_tests)

pub opened_not_closed : (bytes : List ℕ) (header : Header) → header_of bytes ≡ Some header → false ≡ has_closed_gate bytes
opened_not_closed bytes header is = let gate = (header_opened bytes header is).gate in grind (arith, nat_tests)

pub reads_bytes : (side : Side) (d : Disks) → (disk_of side d).reads ≡ bytes_of side (reads_of d)
reads_bytes Zero d = refl
reads_bytes One d = refl
