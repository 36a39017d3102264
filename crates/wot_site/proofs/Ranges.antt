-- Bytes of a side that are read piece by piece.
use Rattle.std.proofs.Common.{◌≡◌, ℕ, ◌+◌, ◌≤◌, List, [], ◌++◌, length, take, drop, refl, sym, ◌∙◌, ap, arith}
use Rattle.std.proofs.lemmas.List.{length-append, length-take-le, take-take, drop-drop}
use Rattle.std.proofs.Math.Seq.{take-add}
use Rattle.wot_site.specs.Disk.{disk_of}
use Rattle.wot_site.specs.Seen.{Seen}
use Rattle.wot_site.specs.Site.{Reads}
use Rattle.wot_site.specs.declared.side.Side.{Side}
use Rattle.wot_site.specs.Reading.{IsRange}

pub range_start : (side : Side) (at : ℕ) (x : Seen) → IsRange side at 0 [] x x
range_start side at x = record { stays = refl; these = refl; long = refl }

module _ (side : Side) (at : ℕ) (xs buf : List ℕ) (n fits : ℕ) (x y z : Seen) (before : IsRange side at (length xs) xs x y) (reads : Reads side (at + length xs) n buf y z) where
  pub range_more : fits ≤ n → n ≤ length buf → IsRange side at (length (xs ++ take fits buf)) (xs ++ take fits buf) x z
  range_more few within =
      let R = (disk_of side x.disks).reads in
      let long : length (take fits buf) ≡ fits = length-take-le fits buf (omega arith) in
      let both : length (xs ++ take fits buf) ≡ length xs + fits = simp length-append (omega arith) in
      let same : (disk_of side y.disks).reads ≡ R = ap (λ (s : Seen). (disk_of side s.disks).reads) before.stays in
      let piece : take fits buf ≡ take fits (drop (length xs) (drop at R)) =
      sym (take-take fits n buf few) ∙ ap (λ (l : List ℕ). take fits l) reads.front ∙ take-take fits n _ few
      ∙ ap (λ (l : List ℕ). take fits (drop (at + length xs) l)) same ∙ ap (λ (l : List ℕ). take fits l) (sym (drop-drop (length xs) at R)) in
      record {
        stays = reads.stays ∙ before.stays;
        these = (λ i. before.these i ++ piece i) ∙ sym (take-add (length xs) fits (drop at R)) ∙ ap (λ (k : ℕ). take k (drop at R)) (sym both);
        long = refl;
      }
