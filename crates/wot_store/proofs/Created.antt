-- What an opening writes, and by how many calls.
use Rattle.std.proofs.Common.{◌≡◌, ℕ, ◌+◌, length, sym, ◌∙◌, ap, subst}
use Rattle.std.specs.Prelude.{nat_le, Some, None}
use Rattle.wot_site.specs.Disk.{Disks, disk_of, settled_disk, with_disk}
use Rattle.wot_site.specs.Seen.{Seen}
use Rattle.wot_site.specs.Site.{Stays}
use Rattle.wot_site.specs.declared.side.Side.{Side}
use Rattle.wot_site.specs.declared.side.Side.TheVariants.{Zero}
use Rattle.wot_journal.specs.Commit.{MakesCalls}
use Rattle.wot_store.specs.declared.header.Header.{Header}
use Rattle.wot_store.specs.declared.opening.Sizes.{Sizes}
use Rattle.wot_store.specs.declared.pair.Headers.{Headers}
use Rattle.wot_store.specs.Base.{header_of, shown_side}
use Rattle.wot_store.specs.Opening.{AreBlank, FindsOrCreates, Inspects, Settles, first_side}
use Rattle.wot_store.specs.Shows.{all_settled}
use Rattle.wot_store.specs.Writing.{Becomes, calls_for}
use Rattle.wot_store.proofs.Counted.{in_all}
use Rattle.wot_store.proofs.Openings.{none_shown}

module _ (sizes : Sizes) (headers : Headers) (x y z : Seen) (settles : Settles sizes x y) (two : MakesCalls 2 x y) (inspects : Inspects headers y z) where
  settled : z.disks ≡ all_settled x.disks
  settled = ap (λ (s : Seen). s.disks) inspects.stays ∙ settles.disks

  zero_is : headers.zero ≡ header_of x.disks.zero.reads
  zero_is = inspects.are.zero ∙ ap (λ (d : Disks). header_of d.zero.reads) settles.disks

  one_is : headers.one ≡ header_of x.disks.one.reads
  one_is = inspects.are.one ∙ ap (λ (d : Disks). header_of d.one.reads) settles.disks

  counted : MakesCalls 2 x z
  counted = subst (λ (s : Seen). MakesCalls 2 x s) (sym inspects.stays) two

  none_of : AreBlank x.disks → shown_side headers.zero headers.one ≡ None
  none_of blank = λ i. shown_side ((zero_is ∙ blank.0) i) ((one_is ∙ blank.1) i)

  pub found_opens : (w : Seen) → Stays z w → (shown : Side × Header) → shown_side headers.zero headers.one ≡ Some shown → FindsOrCreates x w
  found_opens w stays shown is = record {
    found = λ not. (ap (λ (s : Seen). s.disks) stays ∙ settled, subst (λ (s : Seen). MakesCalls 2 x s) (sym stays) counted);
    created = λ blank. absurd (cc (sym (none_of blank) ∙ is));
  }

  pub created_opens : (w : Seen) → Becomes Zero first_side z w → MakesCalls (calls_for (nat_le 24 sizes.zero) 1) z w → shown_side headers.zero headers.one ≡ None → FindsOrCreates x w
  created_opens w becomes made is =
      let none = none_shown headers.zero headers.one is in
      record {
        found = λ not. absurd (not (sym zero_is ∙ none.0, sym one_is ∙ none.1));
        created = λ blank. (
          becomes ∙ ap (λ (d : Disks). with_disk Zero (settled_disk (first_side (disk_of Zero d).reads)) d) settled,
          subst (λ (n : ℕ). MakesCalls (2 + calls_for (nat_le 24 n) 1) x w) settles.long.zero
              (in_all 2 (calls_for (nat_le 24 sizes.zero) 1) (length x.moments) (length z.moments) (length w.moments) counted made),
        );
      }
