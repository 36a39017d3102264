-- Images of a side in memory, and its pending ranges.
use Rattle.std.proofs.Common.{◌≡◌, ◌⊎◌, inl, inr, ℕ, ◌+◌, ◌<◌, ◌≤◌, List, [], ◌∷◌, ◌++◌, length, get_or, take, refl, sym, ◌∙◌, ap, subst, arith}
use Rattle.std.specs.Prelude.{slice_index, Some}
use Rattle.std.proofs.lemmas.Bool.{cases_lt}
use Rattle.std.proofs.lemmas.List.{take_more, take_all}
use Rattle.std.proofs.lemmas.List.Elements.{All-pop, All-push}
use Rattle.wot_site.specs.Disk.{Range, Disk, IsCrashImage, IsOutside, bytes_after_write}
use Rattle.wot_site.specs.MemorySide.{IsFilled}
use Rattle.wot_site.proofs.Images.{image_kept}

-- what was read at the last sync stays an image when more is written
pub kept_here : (reads synced new : List ℕ) (pending more : List Range) (at : ℕ) (x : List ℕ) → new ≡ bytes_after_write reads at x → more ≡ pending ++ record { at = at; len = length x } ∷ [] → at ≤ length reads
    → IsCrashImage (record { reads = reads; synced = length synced; pending = pending }) synced → IsCrashImage (record { reads = new; synced = length synced; pending = more }) synced
kept_here reads synced new pending more at x is pushed low image =
    subst (λ (d : Disk). IsCrashImage d synced) (λ i. record { reads = sym is i; synced = length synced; pending = sym pushed i })
    (image_kept at x (record { reads = reads; synced = length synced; pending = pending }) synced low image.no_longer image)

-- the first k ranges are filled with the byte, and the rest of the side is as it reads
pub record Filling (byte : ℕ) (reads : List ℕ) (ranges : List Range) (image : List ℕ) : Type 0 where
  pub long : length image ≡ length reads
  pub outside : (i : ℕ) → IsOutside i ranges → slice_index image i ≡ slice_index reads i
  pub inside : (i : ℕ) → i < length image → (IsOutside i ranges → ⊥) → slice_index image i ≡ byte

-- one range more
pub filling_more : (byte : ℕ) (reads image next : List ℕ) (ranges : List Range) (r : Range) → Filling byte reads ranges image → length next ≡ length image
    → ((i : ℕ) → (i < r.at) ⊎ (r.at + r.len ≤ i) → slice_index next i ≡ slice_index image i)
    → ((i : ℕ) → i < length next → r.at ≤ i → i < r.at + r.len → slice_index next i ≡ byte)
    → Filling byte reads (ranges ++ r ∷ []) next
filling_more byte reads image next ranges r before long kept filled = record {
  long = long ∙ before.long;
  outside = λ i out.
      let parts = All-pop (λ (q : Range). (i < q.at) ⊎ (q.at + q.len ≤ i)) (ranges ++ r ∷ []) ranges (Some r) refl out in
      kept i parts.1 ∙ before.outside i parts.0;
  inside = λ i lt not. in_or_out i lt not (cases_lt i r.at) (cases_lt i (r.at + r.len));
}
  where
    elsewhere : (i : ℕ) → i < length next → (IsOutside i (ranges ++ r ∷ []) → ⊥) → (i < r.at) ⊎ (r.at + r.len ≤ i) → slice_index next i ≡ byte
    elsewhere i lt not here = kept i here ∙ before.inside i (omega (arith, long)) (λ out. not (All-push (λ (q : Range). (i < q.at) ⊎ (q.at + q.len ≤ i)) ranges r out here))

    in_or_out : (i : ℕ) → i < length next → (IsOutside i (ranges ++ r ∷ []) → ⊥) → (i < r.at) ⊎ (r.at ≤ i) → (i < r.at + r.len) ⊎ (r.at + r.len ≤ i) → slice_index next i ≡ byte
    in_or_out i lt not (inl low) end = elsewhere i lt not (inl low)
    in_or_out i lt not (inr high) (inr past) = elsewhere i lt not (inr past)
    in_or_out i lt not (inr high) (inl within) = filled i lt high within

-- the k-th of the ranges
pub filling_next : (byte : ℕ) (reads image next : List ℕ) (xs pending : List Range) (k : ℕ) (d : Range) → xs ≡ pending → k < length xs → Filling byte reads (take k pending) image → length next ≡ length image
    → ((i : ℕ) → (i < (get_or xs k d).at) ⊎ ((get_or xs k d).at + (get_or xs k d).len ≤ i) → slice_index next i ≡ slice_index image i)
    → ((i : ℕ) → i < length next → (get_or xs k d).at ≤ i → i < (get_or xs k d).at + (get_or xs k d).len → slice_index next i ≡ byte)
    → Filling byte reads (take (k + 1) pending) next
filling_next byte reads image next xs pending k d same lt before long kept filled =
    subst (λ (l : List Range). Filling byte reads l next) (ap (λ (l : List Range). take (k + 1) l) same)
    (subst (λ (l : List Range). Filling byte reads l next) (sym (take_more xs k d lt))
    (filling_more byte reads image next (take k xs) (get_or xs k d) (subst (λ (l : List Range). Filling byte reads (take k l) image) (sym same) before) long kept filled))

-- all of the ranges
pub filling_whole : (byte : ℕ) (reads image : List ℕ) (xs pending : List Range) (k : ℕ) → xs ≡ pending → length xs ≤ k → Filling byte reads (take k pending) image → Filling byte reads pending image
filling_whole byte reads image xs pending k same past filling =
    subst (λ (l : List Range). Filling byte reads l image) (take_all k pending (omega (arith, past, ap (λ (l : List Range). length l) same))) filling

pub filling_image : (byte : ℕ) (d : Disk) (image : List ℕ) → d.synced ≤ length d.reads → Filling byte d.reads d.pending image → IsCrashImage d image
filling_image byte d image old filling = record { no_shorter = omega (arith, filling.long); no_longer = omega (arith, filling.long); kept = λ i low within outside. filling.outside i outside }

pub filling_filled : (byte : ℕ) (d : Disk) (image : List ℕ) → Filling byte d.reads d.pending image → IsFilled byte d image
filling_filled byte d image filling = record { long = filling.long; outside = filling.outside; inside = filling.inside }
