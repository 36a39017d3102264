-- How runs of calls on the disk compose.
use Rattle.std.proofs.Common.{◌≡◌, List, [], ◌∷◌, ◌++◌, refl, sym, ◌∙◌, ap, subst, append_assoc}
use Rattle.std.proofs.lemmas.List.{append-nil}
use Rattle.std.proofs.lemmas.List.Elements.{All-nil, All-append, All-push, All-weaker}
use Rattle.wot_site.specs.Disk.{Disks}
use Rattle.wot_site.specs.Seen.{Seen, Moment}
use Rattle.wot_site.specs.Site.{with_disks}
use Rattle.wot_site.specs.Work.{moment_of, Since, Quiet, Works}

pub since_start : (P : Moment → Type 0) (x : Seen) → P (moment_of x) → Since P x x
since_start P x here = record { first = here; moments = []; is = sym (append-nil x.moments); each = All-nil P }

pub since_then : (P : Moment → Type 0) (x y z : Seen) → Since P x y → Since P y z → Since P x z
since_then P x y z before after = record {
  first = before.first;
  moments = before.moments ++ after.moments;
  is = after.is ∙ ap (λ (l : List Moment). l ++ after.moments) before.is ∙ append_assoc x.moments before.moments after.moments;
  each = All-append P before.moments after.moments before.each after.each;
}

pub since_weaker : (P Q : Moment → Type 0) (x y : Seen) → ((m : Moment) → P m → Q m) → Since P x y → Since Q x y
since_weaker P Q x y weaker since = record {
  first = weaker (moment_of x) since.first;
  moments = since.moments;
  is = since.is;
  each = All-weaker P Q weaker since.moments since.each;
}

-- before the first call
pub works_start : (P : Disks → Type 0) (x : Seen) → P x.disks → Works P x x
works_start P x here = record {
  left = refl;
  told = refl;
  taken = refl;
  asks = refl;
  since = since_start (Quiet P x.told) x (record { disks = here; told = refl });
  last = here;
}

-- one call more, after which the sides are these
pub works_push : (P : Disks → Type 0) (x y : Seen) (d : Disks) → Works P x y → P d → Works P x (with_disks d y)
works_push P x y d before here = record {
  left = before.left;
  told = before.told;
  taken = before.taken;
  asks = before.asks;
  since = record {
    first = before.since.first;
    moments = before.since.moments ++ record { disks = d; told = y.told } ∷ [];
    is = ap (λ (l : List Moment). l ++ record { disks = d; told = y.told } ∷ []) before.since.is ∙ append_assoc x.moments before.since.moments (record { disks = d; told = y.told } ∷ []);
    each = All-push (Quiet P x.told) before.since.moments (record { disks = d; told = y.told }) before.since.each (record { disks = here; told = before.told });
  };
  last = here;
}

pub works_then : (P : Disks → Type 0) (x y z : Seen) → Works P x y → Works P y z → Works P x z
works_then P x y z before after = record {
  left = after.left ∙ before.left;
  told = after.told ∙ before.told;
  taken = after.taken ∙ before.taken;
  asks = after.asks ∙ before.asks;
  since = since_then (Quiet P x.told) x y z before.since (since_weaker (Quiet P y.told) (Quiet P x.told) y z (λ m q. record { disks = q.disks; told = q.told ∙ before.told }) after.since);
  last = after.last;
}

pub works_weaker : (P Q : Disks → Type 0) (x y : Seen) → ((d : Disks) → P d → Q d) → Works P x y → Works Q x y
works_weaker P Q x y weaker works = record {
  left = works.left;
  told = works.told;
  taken = works.taken;
  asks = works.asks;
  since = since_weaker (Quiet P x.told) (Quiet Q x.told) x y (λ m q. record { disks = weaker m.disks q.disks; told = q.told }) works.since;
  last = weaker y.disks works.last;
}

-- a run of calls that ends at this
pub works_to : (P : Disks → Type 0) (x y z : Seen) → z ≡ y → Works P x y → Works P x z
works_to P x y z is works = subst (λ (s : Seen). Works P x s) (sym is) works
