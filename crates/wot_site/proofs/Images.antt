-- What a crash may leave of a side.
use Rattle.std.proofs.Common.{◌≡◌, ◌⊎◌, inl, inr, ⊎_elim, ℕ, ◌+◌, ◌-◌, ◌<◌, ◌≤◌, Some, List, [], ◌∷◌, ◌++◌, length, get_or, take, drop, refl, sym, ◌∙◌, ap, arith}
use Rattle.std.specs.Prelude.{All}
use Rattle.std.proofs.lemmas.List.{ext_get_or, get_or-take, get_or-drop, length-drop, length-append, length-take-le, take_at, drop_at, drop_all, drop-drop}
use Rattle.std.proofs.lemmas.List.Elements.{All-nil, All-cons, All-pop, All-weaker}
use Rattle.std.proofs.lemmas.Bool.{cases_lt}
use Rattle.wot_site.specs.Disk.{Range, Disk, IsCrashImage, bytes_after_write, after_write, settled_disk}

-- what a read gives is one of the images
pub reads_image : (d : Disk) → IsCrashImage d d.reads
reads_image d = record { no_shorter = omega arith; no_longer = omega arith; kept = λ i old within outside. refl }

-- where nothing is pending it is the only one
pub settled_image : (bytes c : List ℕ) → IsCrashImage (settled_disk bytes) c → c ≡ bytes
settled_image bytes c image =
    let long : length c ≡ length bytes = omega (arith, image.no_shorter, image.no_longer) in
    ext_get_or 0 c bytes long (λ i lt. image.kept i (omega arith) (omega arith) (All-nil (λ (r : Range). (i < r.at) ⊎ (r.at + r.len ≤ i))))

-- before all ranges written since the last sync an image is what a read gives
pub image_front : (n : ℕ) (d : Disk) (c : List ℕ) → n ≤ d.synced → n ≤ length d.reads → All (λ (r : Range). n ≤ r.at) d.pending → IsCrashImage d c → take n c ≡ take n d.reads
image_front n d c old within behind image =
    let longc : length (take n c) ≡ n = length-take-le n c (omega (arith, image.no_shorter)) in
    let longr : length (take n d.reads) ≡ n = length-take-le n d.reads within in
    ext_get_or 0 (take n c) (take n d.reads) (longc ∙ sym longr) (λ i lt.
    let lower : i < n = omega arith in
    get_or-take n c i 0 lower
    ∙ image.kept i (omega arith) (omega arith) (All-weaker (λ (r : Range). n ≤ r.at) (λ (r : Range). (i < r.at) ⊎ (r.at + r.len ≤ i)) (λ r h. inl (omega arith)) d.pending behind)
    ∙ sym (get_or-take n d.reads i 0 lower))

-- written bytes
pub length_written : (old : List ℕ) (at : ℕ) (bytes : List ℕ) → at ≤ length old → at + length bytes ≤ length old → length (bytes_after_write old at bytes) ≡ length old
length_written old at bytes low high = simp (length-append, length-drop) (let front = length-take-le at old low in omega (arith, front))

-- behind the end of what was there too
pub length_written_end : (old : List ℕ) (at : ℕ) (bytes : List ℕ) → at ≤ length old → length old ≤ at + length bytes → length (bytes_after_write old at bytes) ≡ at + length bytes
length_written_end old at bytes low high = simp (length-append, length-drop) (let front = length-take-le at old low in omega (arith, front))

pub take_written : (old : List ℕ) (at : ℕ) (bytes : List ℕ) → at ≤ length old → take at (bytes_after_write old at bytes) ≡ take at old
take_written old at bytes low = take_at (take at old) (bytes ++ drop (at + length bytes) old) at (length-take-le at old low)

pub drop_written : (old : List ℕ) (at : ℕ) (bytes : List ℕ) → at ≤ length old → drop at (bytes_after_write old at bytes) ≡ bytes ++ drop (at + length bytes) old
drop_written old at bytes low = drop_at (take at old) (bytes ++ drop (at + length bytes) old) at (length-take-le at old low)

pub back_written : (old : List ℕ) (at : ℕ) (bytes : List ℕ) → at ≤ length old → drop (at + length bytes) (bytes_after_write old at bytes) ≡ drop (at + length bytes) old
back_written old at bytes low =
    sym (drop-drop (length bytes) at (bytes_after_write old at bytes)) ∙ ap (λ (l : List ℕ). drop (length bytes) l) (drop_written old at bytes low)
    ∙ drop_at bytes (drop (at + length bytes) old) (length bytes) refl

-- one write on a settled side that a crash cuts short: any bytes in its range and past the old end, the same elsewhere
pub record Torn (at n : ℕ) (bytes c : List ℕ) : Type 0 where
  pub front : take at c ≡ take at bytes
  pub back : drop (at + n) c ≡ drop (at + n) bytes
  pub no_shorter : length bytes ≤ length c
  pub no_longer : (length c ≤ length bytes) ⊎ (length c ≤ at + n)

one_range : (P : Range → Type 0) (r : Range) → P r → All P ([] ++ r ∷ [])
one_range P r here = All-cons P r [] here (All-nil P)

pub torn_image : (bytes : List ℕ) (at : ℕ) (x c : List ℕ) → at ≤ length bytes → IsCrashImage (after_write at x (settled_disk bytes)) c → Torn at (length x) bytes c
torn_image bytes at x c low image =
    let long : (length (bytes_after_write bytes at x) ≡ length bytes) ⊎ (length (bytes_after_write bytes at x) ≡ at + length x) =
    elim (cases_lt (length bytes) (at + length x)) [ inl lt ↦ inr (length_written_end bytes at x low (omega arith)) | inr le ↦ inl (length_written bytes at x low le) ] in
    let grown : length bytes ≤ length (bytes_after_write bytes at x) = ⊎_elim (λ e. omega arith) (λ e. elim (cases_lt (length bytes) (at + length x)) [ inl lt ↦ omega arith | inr le ↦ omega (arith, length_written bytes at x low le) ]) long in
    let taller : length bytes ≤ length c = omega (arith, image.no_shorter) in
    let shorter : (length c ≤ length bytes) ⊎ (length c ≤ at + length x) = ⊎_elim (λ e. inl (omega (arith, image.no_longer))) (λ e. inr (omega (arith, image.no_longer))) long in
    record {
      front = image_front at (after_write at x (settled_disk bytes)) c low (omega arith) (one_range (λ (r : Range). at ≤ r.at) (record { at = at; len = length x }) (omega arith)) image ∙ take_written bytes at x low;
      back = behind shorter taller;
      no_shorter = taller;
      no_longer = shorter;
    }
  where
    behind : (length c ≤ length bytes) ⊎ (length c ≤ at + length x) → length bytes ≤ length c → drop (at + length x) c ≡ drop (at + length x) bytes
    behind (inr short) taller = drop_all (at + length x) c short ∙ sym (drop_all (at + length x) bytes (omega arith))
    behind (inl short) taller =
        let same : length c ≡ length bytes = omega arith in
        ext_get_or 0 (drop (at + length x) c) (drop (at + length x) bytes) (simp length-drop (omega arith)) (λ i lt.
        let lower : at + length x + i < length bytes = omega (arith, length-drop (at + length x) c) in
        let e : get_or (drop (at + length x) (bytes_after_write bytes at x)) i 0 ≡ get_or (drop (at + length x) bytes) i 0 = ap (λ (l : List ℕ). get_or l i 0) (back_written bytes at x low) in
        get_or-drop (at + length x) c i 0
        ∙ image.kept (at + length x + i) lower (omega (arith, length_written bytes at x low)) (one_range (λ (r : Range). (at + length x + i < r.at) ⊎ (r.at + r.len ≤ at + length x + i)) (record { at = at; len = length x }) (inr (omega arith)))
        ∙ sym (get_or-drop (at + length x) (bytes_after_write bytes at x) i 0) ∙ e)

-- inside a write: each image of before it is one of after it
pub image_kept : (at : ℕ) (x : List ℕ) (d : Disk) (c : List ℕ) → at ≤ length d.reads → d.synced ≤ length d.reads → IsCrashImage d c → IsCrashImage (after_write at x d) c
image_kept at x d c low old image =
    let long : (length (bytes_after_write d.reads at x) ≡ length d.reads) ⊎ ((length (bytes_after_write d.reads at x) ≡ at + length x) × (length d.reads < at + length x)) =
    elim (cases_lt (length d.reads) (at + length x)) [ inl lt ↦ inr (length_written_end d.reads at x low (omega arith), lt) | inr le ↦ inl (length_written d.reads at x low le) ] in
    let grown : length d.reads ≤ length (bytes_after_write d.reads at x) = ⊎_elim (λ e. omega arith) (λ e. omega (arith, e.0, e.1)) long in
    record {
      no_shorter = omega (arith, image.no_shorter, old);
      no_longer = omega (arith, image.no_longer, grown);
      kept = λ i synced within outside.
          let parts = All-pop (λ (r : Range). (i < r.at) ⊎ (r.at + r.len ≤ i)) (d.pending ++ record { at = at; len = length x } ∷ []) d.pending (Some (record { at = at; len = length x })) refl outside in
          image.kept i synced (omega (arith, old)) parts.0 ∙ sym (elsewhere i (omega (arith, old)) parts.1);
    }
  where
    elsewhere : (i : ℕ) → i < length d.reads → (i < at) ⊎ (at + length x ≤ i) → get_or (bytes_after_write d.reads at x) i 0 ≡ get_or d.reads i 0
    elsewhere i lt (inl before) = sym (get_or-take at (bytes_after_write d.reads at x) i 0 before) ∙ ap (λ (l : List ℕ). get_or l i 0) (take_written d.reads at x low) ∙ get_or-take at d.reads i 0 before
    elsewhere i lt (inr behind) =
        let place : at + length x + (i - (at + length x)) ≡ i = omega arith in
        ap (λ (k : ℕ). get_or (bytes_after_write d.reads at x) k 0) (sym place) ∙ sym (get_or-drop (at + length x) (bytes_after_write d.reads at x) (i - (at + length x)) 0)
        ∙ ap (λ (l : List ℕ). get_or l (i - (at + length x)) 0) (back_written d.reads at x low)
        ∙ get_or-drop (at + length x) d.reads (i - (at + length x)) 0 ∙ ap (λ (k : ℕ). get_or d.reads k 0) place
