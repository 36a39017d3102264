-- Pages of a side that are read one after the other, and what the check of their seals tells.
use Rattle.std.proofs.Common.{◌≡◌, ℕ, ◌+◌, ◌-◌, ◌*◌, ◌<◌, ◌≤◌, Some, None, List, [], ◌∷◌, ◌++◌, length, take, drop, refl, sym, ◌∙◌, ap, arith, not}
use Rattle.std.proofs.lemmas.List.{length-append}
use Rattle.std.proofs.lemmas.List.FromFn.{map-range_with_len_more}
use Rattle.wot_site.specs.declared.side.Side.{Side}
use Rattle.wot_site.specs.Disk.{disk_of}
use Rattle.wot_site.specs.Seen.{Seen}
use Rattle.wot_site.specs.Reading.{IsRange}
use Rattle.wot_types.specs.PagePlaces.{page_place}
use Rattle.wot_pages.specs.Pages.{content_in, content_at, seal_at, page_at, is_sealed, seal_fault, contents_of, seals_of}
use Rattle.wot_pages.specs.Checking.{first_wrong}
use Rattle.wot_pages.specs.Reading.{ReadsSealed, ReadsPages, FindsFault}
use Rattle.wot_pages.proofs.Checks.{wrong_of_side}
use Rattle.wot_pages.proofs.Held.{part_long}
use Rattle.wot_pages.proofs.Runs.{flat_more, flat_piece, find_stays}

-- ---- one page on

pub sealed_start : (side : Side) (x : Seen) → ReadsSealed side 0 [] [] x x
sealed_start side x = record { stays = refl; short = λ fewer. absurd (omega (arith, fewer)); these = refl; sealed = refl }

module _ (side : Side) (k : ℕ) (contents : List ℕ) (seals : List (List ℕ)) (x y z : Seen) (before : ReadsSealed side k contents seals x y) where
  pub sealed_more : length seals ≡ k → (part : List ℕ) → IsRange side (24 + 4096 * k) 4096 part y z
      → ReadsSealed side (k + 1) (contents ++ take 4064 part) (seals ++ drop 4064 part ∷ []) x z
  sealed_more count part range =
      let bytes = (disk_of side x.disks).reads in
      let part_is : part ≡ page_at bytes k = range.these ∙ ap (λ (s : Seen). take 4096 (drop (24 + 4096 * k) (disk_of side s.disks).reads)) before.stays in
      let more : length (seals ++ drop 4064 part ∷ []) ≡ k + 1 = length-append seals (drop 4064 part ∷ []) ∙ ap (λ (n : ℕ). n + 1) count in
      record {
        stays = range.stays ∙ before.stays;
        short = λ fewer. absurd (omega (arith, more, fewer));
        these = (λ i. (before.these ∙ ap (λ (n : ℕ). contents_of n bytes) count) i ++ take 4064 (part_is i))
            ∙ sym (flat_more (λ j. content_at bytes j) k) ∙ ap (λ (n : ℕ). contents_of n bytes) (sym more);
        sealed = (λ i. (before.sealed ∙ ap (λ (n : ℕ). seals_of n bytes) count) i ++ drop 4064 (part_is i) ∷ [])
            ∙ sym (map-range_with_len_more (λ j. seal_at bytes j) 0 k k (omega arith)) ∙ ap (λ (n : ℕ). seals_of n bytes) (sym more);
      }

-- ---- the check of what was read

module _ (side : Side) (epoch pages : ℕ) (contents : List ℕ) (seals : List (List ℕ)) (x y : Seen)
    (within : page_place pages ≤ length (disk_of side x.disks).reads) (few : length seals ≤ pages) (read : ReadsSealed side pages contents seals x y) where
  part_is : (k : ℕ) → k < length seals → content_in contents k ≡ content_at (disk_of side x.disks).reads k
  part_is k lt =
      ap (λ (l : List ℕ). take 4064 (drop (4064 * k) l)) read.these
      ∙ flat_piece (λ j. content_at (disk_of side x.disks).reads j) 4064 (length seals)
      (λ j low. part_long epoch pages [] (disk_of side x.disks).reads within j (omega (arith, low, few))) k lt

  wrong_told : first_wrong epoch 0 contents seals ≡ seal_fault epoch (length seals) (disk_of side x.disks).reads
  wrong_told = ap (first_wrong epoch 0 contents) read.sealed ∙ wrong_of_side epoch (length seals) (disk_of side x.disks).reads contents part_is

  pub finds_wrong : (k : ℕ) → Some k ≡ first_wrong epoch 0 contents seals → FindsFault side epoch pages k x y
  finds_wrong k is =
      let all : length seals + (pages - length seals) ≡ pages = omega (arith, few) in
      record {
        stays = read.stays;
        fault = ap (λ (j : ℕ). seal_fault epoch j (disk_of side x.disks).reads) (sym all)
            ∙ find_stays (λ j. not (is_sealed epoch (disk_of side x.disks).reads j)) (length seals) (pages - length seals) k (sym wrong_told ∙ sym is);
      }

  pub reads_whole : length seals ≡ pages → None ≡ first_wrong epoch 0 contents seals → ReadsPages side epoch pages contents x y
  reads_whole all is = record {
    stays = read.stays;
    whole = ap (λ (j : ℕ). seal_fault epoch j (disk_of side x.disks).reads) (sym all) ∙ sym wrong_told ∙ sym is;
    these = read.these ∙ ap (λ (j : ℕ). contents_of j (disk_of side x.disks).reads) all;
  }
