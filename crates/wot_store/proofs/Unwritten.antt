-- What a crash leaves where nothing was written, and what the two opening syncs do.
use Rattle.std.proofs.Common.{◌≡◌, ◌⊎◌, inl, inr, ◌≤◌, List, [], ◌∷◌, ◌++◌, length, append_assoc, refl, sym, ◌∙◌, ap, subst, arith}
use Rattle.std.specs.List.{All}
use Rattle.std.proofs.lemmas.List.{append-nil}
use Rattle.std.proofs.lemmas.List.Elements.{All-append, All-cons, All-nil, All-weaker}
use Rattle.wot_site.specs.Disk.{Disk, Disks, Image, IsCrashImage, IsImageOf, Leaves, with_disk, after_sync, reads_of}
use Rattle.wot_site.specs.Seen.{Moment, Seen}
use Rattle.wot_site.specs.Site.{Syncs, Stays, on_disk}
use Rattle.wot_site.specs.Work.{Quiet, Works}
use Rattle.wot_site.specs.declared.side.Side.TheVariants.{Zero, One}
use Rattle.wot_site.proofs.Images.{reads_image, settled_image}
use Rattle.wot_site.proofs.Works.{works_then, works_to, works_weaker}
use Rattle.wot_store.specs.Opening.{AreBlank, AreUnwritten, IsUnwritten, Keeping, Keeps, Opening, Settling, WritesOnlyBlank}
use Rattle.wot_store.specs.Shows.{ShowsAs, all_settled}
use Rattle.wot_store.specs.Written.{Spares}

-- with nothing pending an image is what the sides read
pub settled_images : (d : Disks) (c : Image) → IsImageOf (all_settled d) c → c ≡ reads_of d
settled_images d c image =
    let zero : c.zero ≡ d.zero.reads = settled_image d.zero.reads c.zero image.zero in
    let one : c.one ≡ d.one.reads = settled_image d.one.reads c.one image.one in
    λ i. record { zero = zero i; one = one i }

pub unwritten_images : (d e : Disks) → AreUnwritten d e → Leaves (IsImageOf d) e
unwritten_images d e same c image = record { zero = same.zero.images c.zero image.zero; one = same.one.images c.one image.one }

-- where nothing is pending a crash leaves what the sides read as long as nothing is written
pub unwritten_settled : (d e : Disks) → d ≡ all_settled d → AreUnwritten d e → Keeps d e
unwritten_settled d e settled same c image = inl (settled_images d c (subst (λ (k : Disks). IsImageOf k c) settled (unwritten_images d e same c image)))

-- a sync writes nothing
same_side : (d : Disk) → IsUnwritten d d
same_side d = record { reads = refl; images = λ c image. image }

synced_side : (d : Disk) → IsUnwritten d (after_sync d)
synced_side d = record { reads = refl; images = λ c image. subst (IsCrashImage d) (sym (settled_image d.reads c image)) (reads_image d) }

same_sides : (d : Disks) → AreUnwritten d d
same_sides d = record { zero = same_side d.zero; one = same_side d.one }

first_synced : (d : Disks) → AreUnwritten d (with_disk Zero (after_sync d.zero) d)
first_synced d = record { zero = synced_side d.zero; one = same_side d.one }

both_synced : (d : Disks) → AreUnwritten d (all_settled d)
both_synced d = record { zero = synced_side d.zero; one = synced_side d.one }

-- the sides came to these by the first sync's moment, or by those of both
came : (x : Seen) (d : Disks) (moments : List Moment) (first later : List Moment) → moments ≡ x.moments ++ (first ++ later) → length first ≤ 1
    → All (Quiet (AreUnwritten x.disks) x.told) first → All (Quiet (AreUnwritten x.disks) x.told) later → All (Quiet (Keeps x.disks) x.told) later → AreUnwritten x.disks d
    → Settling x (record x { disks = d; moments = moments })
came x d moments first later is few before unwritten each last = record {
  unwritten = record {
    left = refl;
    told = refl;
    taken = refl;
    asks = refl;
    since = record {
      first = record { disks = same_sides x.disks; told = refl };
      moments = first ++ later;
      is = is;
      each = All-append (Quiet (AreUnwritten x.disks) x.told) first later before unwritten;
    };
    last = last;
  };
  opening = record { left = refl; told = refl; taken = refl; asks = refl; first = first; later = later; is = is; few = few; before = before; each = each; last = inl last };
}

-- after none of the two opening syncs, one, and both
pub settling_start : (x : Seen) → Settling x x
settling_start x = came x x.disks x.moments [] [] (sym (append-nil x.moments)) (omega arith) (All-nil _) (All-nil _) (All-nil _) (same_sides x.disks)

abbrev at_first : Seen → Moment
at_first x = record { disks = with_disk Zero (after_sync x.disks.zero) x.disks; told = x.told }

abbrev at_both : Seen → Moment
at_both x = record { disks = all_settled x.disks; told = x.told }

module _ (x : Seen) where
  quiet_first : All (Quiet (AreUnwritten x.disks) x.told) (at_first x ∷ [])
  quiet_first = All-cons (Quiet (AreUnwritten x.disks) x.told) (at_first x) [] (record { disks = first_synced x.disks; told = refl }) (All-nil _)

  quiet_both : All (Quiet (AreUnwritten x.disks) x.told) (at_both x ∷ [])
  quiet_both = All-cons (Quiet (AreUnwritten x.disks) x.told) (at_both x) [] (record { disks = both_synced x.disks; told = refl }) (All-nil _)

  keeps_both : All (Quiet (Keeps x.disks) x.told) (at_both x ∷ [])
  keeps_both = All-cons (Quiet (Keeps x.disks) x.told) (at_both x) [] (record { disks = λ c image. inl (settled_images x.disks c image); told = refl }) (All-nil _)

  synced_first : Settling x (on_disk Zero after_sync x)
  synced_first = came x (at_first x).disks (x.moments ++ at_first x ∷ []) (at_first x ∷ []) [] refl (omega arith) quiet_first (All-nil _) (All-nil _) (first_synced x.disks)

  synced_both : Settling x (on_disk One after_sync (on_disk Zero after_sync x))
  synced_both = came x (at_both x).disks ((x.moments ++ at_first x ∷ []) ++ at_both x ∷ []) (at_first x ∷ []) (at_both x ∷ [])
      (append_assoc x.moments (at_first x ∷ []) (at_both x ∷ [])) (omega arith) quiet_first quiet_both keeps_both (both_synced x.disks)

pub settling_still : (x y z : Seen) → Settling x y → Stays y z → Settling x z
settling_still x y z settling stays = subst (Settling x) (sym stays) settling

pub settling_first : (x y : Seen) → Syncs Zero x y → Settling x y
settling_first x y syncs = subst (Settling x) (sym syncs) (synced_first x)

pub settling_both : (x y z : Seen) → Syncs Zero x y → Syncs One y z → Settling x z
settling_both x y z first second = subst (Settling x) (sym (second ∙ ap (on_disk One after_sync) first)) (synced_both x)

pub settling_stays : (x y z w : Seen) → Syncs Zero x y → Syncs One y z → Stays z w → Settling x w
settling_stays x y z w first second stays = settling_still x z w (settling_both x y z first second) stays

-- nothing was done after the syncs
pub opening_stays : (x y z : Seen) → Settling x y → Stays y z → Opening x z
opening_stays x y z settling stays = subst (Opening x) (sym stays) settling.opening

pub unwritten_stays : (x y z : Seen) → Settling x y → Stays y z → Works (WritesOnlyBlank x.disks) x z
unwritten_stays x y z settling stays = works_to _ x y z stays (works_weaker _ _ x y (λ d same. record { one = same.one; zero = λ not. same.zero }) settling.unwritten)

-- a first side was written then
module _ (x y z : Seen) (before : Settling x y) (settled : y.disks ≡ all_settled x.disks) where
  same_keeps : (d : Disks) → Keeps y.disks d → Keeps x.disks d
  same_keeps d keeps = subst (λ (r : Image). Leaves (λ c. (c ≡ r) ⊎ ShowsAs c r) d) (ap (λ (e : Disks). reads_of e) settled) keeps

  pub opening_then : Keeping y z → Opening x z
  opening_then works = record {
    left = works.left ∙ before.opening.left;
    told = works.told ∙ before.opening.told;
    taken = works.taken ∙ before.opening.taken;
    asks = works.asks ∙ before.opening.asks;
    first = before.opening.first;
    later = before.opening.later ++ works.since.moments;
    is = works.since.is ∙ ap (λ (l : List Moment). l ++ works.since.moments) before.opening.is
        ∙ append_assoc x.moments (before.opening.first ++ before.opening.later) works.since.moments
        ∙ ap (λ (l : List Moment). x.moments ++ l) (append_assoc before.opening.first before.opening.later works.since.moments);
    few = before.opening.few;
    before = before.opening.before;
    each = All-append (Quiet (Keeps x.disks) x.told) before.opening.later works.since.moments before.opening.each
        (All-weaker (Quiet (Keeps y.disks) y.told) (Quiet (Keeps x.disks) x.told) (λ m q. record { disks = same_keeps m.disks q.disks; told = q.told ∙ before.opening.told }) works.since.moments works.since.each);
    last = inr (same_keeps z.disks works.last);
  }

  pub blank_written : AreBlank x.disks → Works (Spares One y.disks) y z → Works (WritesOnlyBlank x.disks) x z
  blank_written blank works = works_then (WritesOnlyBlank x.disks) x y z
      (works_weaker _ _ x y (λ d same. record { one = same.one; zero = λ not. same.zero }) before.unwritten)
      (works_weaker _ _ y z (λ d spared. record { one = subst (λ (e : Disk). IsUnwritten x.disks.one e) (sym spared) before.unwritten.last.one; zero = λ not. absurd (not blank) }) works)
