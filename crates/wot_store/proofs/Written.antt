-- What appending and compacting write.
use Rattle.std.proofs.Common.{◌≡◌, ◌⊎◌, inl, inr, ℕ, ◌+◌, ◌≤◌, List, ◌∷◌, ◌++◌, length, take, drop, Option, None, Some, refl, sym, ◌∙◌, ap, subst, arith}
use Rattle.std.specs.Prelude.{option_map}
use Rattle.std.proofs.lemmas.List.{length-take-le, take_at}
use Rattle.wot_site.specs.Disk.{Disks, disk_of, reads_of, with_disk}
use Rattle.wot_site.specs.Seen.{Honestly, Seen}
use Rattle.wot_site.specs.Work.{Works}
use Rattle.wot_site.specs.declared.side.Side.{Side}
use Rattle.wot_site.specs.declared.side.Side.TheVariants.{Zero, One}
use Rattle.wot_site.proofs.Works.{works_start, works_weaker}
use Rattle.wot_journal.specs.Record.{Framed, record_of, with_record}
use Rattle.wot_journal.specs.Commit.{IsCommitting, IsUnchanged, behind_record}
use Rattle.wot_types.specs.Store.{Store}
use Rattle.wot_store.specs.declared.header.Header.{Header}
use Rattle.wot_store.specs.declared.place.Place.{Place}
use Rattle.wot_store.specs.Appending.{IsRecordHere, place_after}
use Rattle.wot_store.specs.Base.{bytes_of, other_side}
use Rattle.wot_store.specs.Shows.{IsStored, ShowsBase}
use Rattle.wot_store.specs.Writing.{Writing}
use Rattle.wot_store.specs.Written.{IsShownSide, Spares, WritesBetween}
use Rattle.wot_store.proofs.Pairs.{base_here, reads_bytes}

-- the side of a place where a store is stored is shown, and no other one is
pub stored_side : (place : Place) (shown : Store) (d : Disks) → IsStored place shown d → IsShownSide place.side d
stored_side place shown d stored = ap (λ (o : Option (Side × Header)). option_map (λ (s : Side × Header). s.0) o) stored.side

-- where this side alone is other than it was, the other is as it was
pub other_kept : (side : Side) (old new : Disks) → new ≡ with_disk side (disk_of side new) old → disk_of (other_side side) new ≡ disk_of (other_side side) old
other_kept Zero old new is = ap (λ (d : Disks). d.one) is
other_kept One old new is = ap (λ (d : Disks). d.zero) is

this_kept : (side : Side) (old new : Disks) → new ≡ with_disk (other_side side) (disk_of (other_side side) new) old → disk_of side new ≡ disk_of side old
this_kept Zero old new is = ap (λ (d : Disks). d.zero) is
this_kept One old new is = ap (λ (d : Disks). d.one) is

-- a commit writes from the journal's end to the closed gate behind its record
module _ (place : Place) (built : Framed) (x y : Seen) (next : IsRecordHere place built x.disks) where
  base : ShowsBase place.side (bytes_of place.side (reads_of x.disks)) next.stored.header next.shown
  base = base_here (reads_of x.disks) place.side next.stored.header next.shown next.stored.side next.stored.shows

  end : place.end ≡ built.end
  end = next.stored.end ∙ next.record_of.place

  low : built.end ≤ length (disk_of place.side x.disks).reads
  low = let long = ap (λ (l : List ℕ). length l) (reads_bytes place.side x.disks) in omega (arith, long, base.journal.gate.within, next.record_of.place)

  behind : behind_record built ≡ (place_after place built).end + 1
  behind = omega arith

  front : (c : List ℕ) → IsUnchanged (disk_of place.side x.disks).reads built.end c ⊎ (c ≡ with_record (disk_of place.side x.disks).reads built.end built.payload)
      → take built.end c ≡ take built.end (disk_of place.side x.disks).reads
  front c (inl same) = same.front
  front c (inr whole) = ap (λ (l : List ℕ). take built.end l) whole
      ∙ take_at (take built.end (disk_of place.side x.disks).reads) (record_of built.payload ++ 0 ∷ drop (built.end + length built.payload + 6) (disk_of place.side x.disks).reads) built.end
      (length-take-le built.end (disk_of place.side x.disks).reads low)

  pub append_writes : Works (IsCommitting place.side built x.disks) x y
      → Works (WritesBetween place.side place.end ((place_after place built).end + 1) x.disks) x y
  append_writes works = works_weaker _ _ x y (λ d on. record {
    other = other_kept place.side x.disks d on.other;
    front = λ c image. subst (λ (n : ℕ). take n c ≡ take n (disk_of place.side x.disks).reads) (sym end) (front c (on.images c image));
    back = λ c image. subst (λ (n : ℕ). drop n c ≡ drop n (disk_of place.side x.disks).reads) behind (on.back c image);
  }) works

-- writing the other side spares this one
pub other_writes : (side : Side) (epoch : ℕ) (image : List ℕ) (x y : Seen) → Writing (other_side side) epoch image x y → Works (Spares side x.disks) x y
other_writes side epoch image x y works = works_weaker _ _ x y (λ d on. this_kept side x.disks d on.other) works

pub still_spares : (side : Side) (seen : Option Seen) → Honestly seen seen (λ old new. Works (Spares side old.disks) old new)
still_spares side None = tt
still_spares side (Some x) = works_start _ x refl
