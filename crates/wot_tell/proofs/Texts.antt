-- Texts that are told one after the other.
use Rattle.std.proofs.Common.{◌≡◌, ℕ, ◌+◌, ◌-◌, List, [], ◌∷◌, ◌++◌, length, take, drop, refl, sym, ap, ◌∙◌, append_assoc}
use Rattle.std.specs.List.{All}
use Rattle.std.proofs.lemmas.List.{append-nil, take_rest, take-append-drop}
use Rattle.std.proofs.lemmas.List.Elements.{All-nil, All-cons}
use Rattle.std.proofs.Math.Seq.{take-add}
use Rattle.wot_site.specs.Disk.{Disks}
use Rattle.wot_site.specs.Seen.{Moment, Seen}
use Rattle.wot_site.specs.Site.{Tells, Stays, moments_telling}
use Rattle.wot_site.specs.Work.{moment_of}
use Rattle.wot_site.proofs.Works.{since_start, since_then, since_weaker}
use Rattle.wot_tell.specs.Telling.{IsTelling, IsPrefixOf, Told, ToldPrefix, Telling, TellingPrefix}

-- before the first byte
pub told_none : (x : Seen) → Told [] x x
told_none x = record { told = sym (append-nil x.told); left = refl; taken = refl; asks = refl }

-- a text and then another
pub told_then : (front back : List ℕ) (x y z : Seen) → Told front x y → Told back y z → Told (front ++ back) x z
told_then front back x y z before after =
    let joined = append_assoc x.told front back in
    record {
      told = cc (joined, before.told, after.told);
      left = after.left ∙ before.left;
      taken = after.taken ∙ before.taken;
      asks = after.asks ∙ before.asks;
    }

-- a text and then a prefix of another
pub told_then_prefix : (text more : List ℕ) (x y z : Seen) → Told text x y → ToldPrefix more y z → ToldPrefix (text ++ more) x z
told_then_prefix text more x y z before after = record {
  prefix = text ++ after.prefix;
  is_prefix = (after.is_prefix.0, append_assoc text after.prefix after.is_prefix.0 ∙ ap (λ back. text ++ back) after.is_prefix.1);
  told = told_then text after.prefix x y z before after.told;
}

-- what a text begins with, a longer one begins with
begins_longer : (prefix text more : List ℕ) → IsPrefixOf prefix text → IsPrefixOf prefix (text ++ more)
begins_longer prefix text more begins =
    let back = begins.0 in
    (back ++ more, sym (append_assoc prefix back more) ∙ ap (λ text. text ++ more) begins.1)

-- a prefix of a text, where more was to be told
pub prefix_more : (text more : List ℕ) (x y : Seen) → ToldPrefix text x y → ToldPrefix (text ++ more) x y
prefix_more text more x y told =
    record { prefix = told.prefix; is_prefix = begins_longer told.prefix text more told.is_prefix; told = told.told }

-- the moments while a text is told, where a prefix of it was told before
telling_each : (sides : Disks) (before text done rest told : List ℕ) → done ++ rest ≡ text → told ≡ before ++ done → All (IsTelling sides before text) (moments_telling sides told rest)
telling_each sides before text done [] told split so_far = All-nil _
telling_each sides before text done (b ∷ rest) told split so_far =
    let next = ap (λ told. told ++ b ∷ []) so_far ∙ append_assoc before done (b ∷ []) in
    let joined = append_assoc done (b ∷ []) rest ∙ split in
    All-cons (IsTelling sides before text) _ _
    (record { disks = refl; prefix = done ++ b ∷ []; is_prefix = (rest, joined); told = next })
    (telling_each sides before text (done ++ b ∷ []) rest (told ++ b ∷ []) joined next)

-- the first moment, before a byte is told
telling_first : (text : List ℕ) (x : Seen) → IsTelling x.disks x.told text (moment_of x)
telling_first text x = record { disks = refl; prefix = []; is_prefix = (text, refl); told = sym (append-nil x.told) }

-- a call that told some bytes
tells_telling : (n : ℕ) (bytes : List ℕ) (y z : Seen) → Tells n bytes y z → Telling (take n bytes) y z
tells_telling n bytes y z tells = record {
  told = record {
    told = ap (λ (s : Seen). s.told) tells;
    left = ap (λ (s : Seen). s.left) tells;
    taken = ap (λ (s : Seen). s.taken) tells;
    asks = ap (λ (s : Seen). s.asks) tells;
  };
  disks = ap (λ (s : Seen). s.disks) tells;
  since = record {
    first = telling_first (take n bytes) y;
    moments = moments_telling y.disks y.told (take n bytes);
    is = ap (λ (s : Seen). s.moments) tells;
    each = telling_each y.disks y.told (take n bytes) [] (take n bytes) y.told refl (sym (append-nil y.told));
  };
}

-- before the first byte, with each moment
pub telling_none : (x : Seen) → Telling [] x x
telling_none x = record { told = told_none x; disks = refl; since = since_start _ x (telling_first [] x) }

-- a text and then another, with each moment
pub telling_then : (front back : List ℕ) (x y z : Seen) → Telling front x y → Telling back y z → Telling (front ++ back) x z
telling_then front back x y z before after = record {
  told = told_then front back x y z before.told after.told;
  disks = after.disks ∙ before.disks;
  since = since_then _ x y z (since_weaker _ _ x y earlier before.since) (since_weaker _ _ y z later after.since);
}
  where
    earlier : (m : Moment) → IsTelling x.disks x.told front m → IsTelling x.disks x.told (front ++ back) m
    earlier m is = record { disks = is.disks; prefix = is.prefix; is_prefix = begins_longer is.prefix front back is.is_prefix; told = is.told }

    later : (m : Moment) → IsTelling y.disks y.told back m → IsTelling x.disks x.told (front ++ back) m
    later m is = record {
      disks = is.disks ∙ before.disks;
      prefix = front ++ is.prefix;
      is_prefix = (is.is_prefix.0, append_assoc front is.prefix is.is_prefix.0 ∙ ap (λ back. front ++ back) is.is_prefix.1);
      told = is.told ∙ ap (λ told. told ++ is.prefix) before.told.told ∙ append_assoc x.told front is.prefix;
    }

-- a prefix of a text, where more was to be told
pub telling_more : (text more : List ℕ) (x y : Seen) → TellingPrefix text x y → TellingPrefix (text ++ more) x y
telling_more text more x y telling =
    record { prefix = telling.prefix; is_prefix = begins_longer telling.prefix text more telling.is_prefix; telling = telling.telling }

-- a text and then a prefix of another
pub telling_then_prefix : (text more : List ℕ) (x y z : Seen) → Telling text x y → TellingPrefix more y z → TellingPrefix (text ++ more) x z
telling_then_prefix text more x y z before after = record {
  prefix = text ++ after.prefix;
  is_prefix = (after.is_prefix.0, append_assoc text after.prefix after.is_prefix.0 ∙ ap (λ back. text ++ back) after.is_prefix.1);
  telling = telling_then text after.prefix x y z before after.telling;
}

-- so many bytes of a text, and then the first of those that are left
pub tells_more : (bytes : List ℕ) (done n : ℕ) (x y z : Seen) → Telling (take done bytes) x y
    → Tells n (take (length bytes - done) (drop done bytes)) y z → Telling (take (done + n) bytes) x z
tells_more bytes done n x y z before tells =
    rw (take-add done n bytes, ← take_rest bytes done) (telling_then _ _ x y z before (tells_telling n _ y z tells))

-- so many bytes of a text, and then nothing
pub tells_stops : (bytes : List ℕ) (done : ℕ) (x y z : Seen) → Telling (take done bytes) x y → Stays y z → TellingPrefix bytes x z
tells_stops bytes done x y z before stays =
    rw stays (record { prefix = take done bytes; is_prefix = (drop done bytes, take-append-drop done bytes); telling = before })
