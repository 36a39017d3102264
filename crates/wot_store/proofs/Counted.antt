-- How many calls were made.
use Rattle.std.proofs.Common.{◌≡◌, ℕ, ◌+◌, Bool, List, [], ◌∷◌, ◌∙◌, length, sym, ap, subst, arith}
use Rattle.std.specs.Prelude.{Option}
use Rattle.std.proofs.lemmas.List.{length-append}
use Rattle.wot_types.specs.PagePlaces.{page_place, pages_needed}
use Rattle.wot_site.specs.Disk.{Disk, disk_of, with_disk, after_write, after_sync}
use Rattle.wot_site.specs.Seen.{Seen, Honestly}
use Rattle.wot_site.specs.Site.{Stays, Syncs, Writes, on_disk}
use Rattle.wot_site.specs.declared.side.Side.{Side}
use Rattle.wot_site.specs.declared.side.Side.TheVariants.{Zero, One}
use Rattle.wot_site.proofs.Honest.{honest_start, honest_then, honest_weaker}
use Rattle.wot_journal.specs.Commit.{MakesCalls}
use Rattle.wot_pages.specs.Writing.{WritesPages}
use Rattle.wot_store.specs.Base.{header_tail}
use Rattle.wot_store.specs.Writing.{calls_for, filling_calls}

call_counted : (side : Side) (f : Disk → Disk) (x y : Seen) → y ≡ on_disk side f x → MakesCalls 1 x y
call_counted side f x y is =
    ap (λ (s : Seen). length s.moments) is ∙ length-append x.moments (record { disks = with_disk side (f (disk_of side x.disks)) x.disks; told = x.told } ∷ [])

-- no call was made
none_counted : (n : ℕ) → n ≡ n + 0
none_counted n = omega arith

pub honest_none : (seen : Option Seen) → Honestly seen seen (MakesCalls 0)
honest_none seen = honest_start (MakesCalls 0) seen (λ x. none_counted (length x.moments))

-- both syncs of an opening
two_in_all : (a b c : ℕ) → b ≡ a + 1 → c ≡ b + 1 → c ≡ a + 2
two_in_all a b c one two = omega (arith, one, two)

pub settle_counted : (x y z w : Seen) → Syncs Zero x y → Syncs One y z → Stays z w → MakesCalls 2 x w
settle_counted x y z w first second stays =
    subst (λ (s : Seen). MakesCalls 2 x s) (sym stays)
    (two_in_all (length x.moments) (length y.moments) (length z.moments) (call_counted Zero after_sync x y first) (call_counted One after_sync y z second))

-- the header, the pages, the gate and the sync
four_in_all : (n a b c d e : ℕ) → b ≡ a + 1 → c ≡ b + n → d ≡ c + 1 → e ≡ d + 1 → e ≡ a + (n + 3)
four_in_all n a b c d e one pages two three = omega (arith, one, pages, two, three)

pub fill_counted : (side : Side) (epoch : ℕ) (image : List ℕ) (x y : Seen) → Writes side 1 (header_tail epoch (pages_needed (length image))) x y
    → (z : Seen) → WritesPages side epoch image y z → (w : Seen) → Writes side (page_place (pages_needed (length image))) (0 ∷ []) z w
    → (v : Seen) → Syncs side w v → MakesCalls (filling_calls (pages_needed (length image))) x v
fill_counted side epoch image x y header z pages w gate v synced =
    four_in_all (pages_needed (length image)) (length x.moments) (length y.moments) (length z.moments) (length w.moments) (length v.moments)
    (call_counted side (after_write 1 (header_tail epoch (pages_needed (length image)))) x y header) pages.calls
    (call_counted side (after_write (page_place (pages_needed (length image))) (0 ∷ [])) z w gate) (call_counted side after_sync w v synced)

-- calls and then others
pub in_all : (m n a b c : ℕ) → b ≡ a + m → c ≡ b + n → c ≡ a + (m + n)
in_all m n a b c first second = omega (arith, first, second)

pub honest_counted : (m n : ℕ) (a b c : Option Seen) → Honestly a b (MakesCalls m) → Honestly b c (MakesCalls n) → Honestly a c (MakesCalls (m + n))
honest_counted m n a b c first second =
    honest_then (MakesCalls m) (MakesCalls n) (MakesCalls (m + n)) a b c first second (λ x y z p q. in_all m n (length x.moments) (length y.moments) (length z.moments) p q)

-- the same number, said otherwise
pub calls_as : (a b : Bool) (m n : ℕ) (u v : Option Seen) → a ≡ b → m ≡ n → Honestly u v (MakesCalls (calls_for a m)) → Honestly u v (MakesCalls (calls_for b n))
calls_as a b m n u v closed pages made =
    honest_weaker (MakesCalls (calls_for a m)) (MakesCalls (calls_for b n)) u v made (λ x y p. subst (λ (k : Bool × ℕ). MakesCalls (calls_for k.0 k.1) x y) (λ i. (closed i, pages i)) p)

pub one_page : (k : ℕ) → page_place k ≡ 4120 → k ≡ 1
one_page k is = omega (arith, is)
