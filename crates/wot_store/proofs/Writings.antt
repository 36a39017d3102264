-- What a crash leaves while a side is written.
use Rattle.std.proofs.Common.{◌≡◌, ◌⊎◌, inl, inr, ⊎_elim, ℕ, ◌+◌, ◌<◌, ◌≤◌, Bool, true, false, Option, None, Some, List, [], ◌∷◌, ◌++◌, length, get_or, drop, refl, sym, ◌∙◌, ap, subst, arith}
use Rattle.std.specs.Prelude.{slice_index}
use Rattle.std.proofs.lemmas.Bool.{cases_eq, cases_lt}
use Rattle.std.proofs.lemmas.List.{drop-drop}
use Rattle.wot_site.specs.Disk.{Disk, Disks, IsCrashImage, disk_of, with_disk, after_write, after_sync, settled_disk, bytes_after_write}
use Rattle.wot_site.specs.Seen.{Honestly, IfHonest, Seen}
use Rattle.wot_site.specs.Site.{Writes, WritesOrNot, Syncs, Stays}
use Rattle.wot_site.specs.Work.{Works}
use Rattle.wot_site.specs.declared.side.Side.{Side}
use Rattle.wot_site.proofs.Calls.{IsAlone, alone_disk, alone_over, wrote_alone, synced_alone, writes_work, writes_not_work, syncs_work, stays_work}
use Rattle.wot_site.proofs.Images.{settled_image, torn_image, length_written, length_written_end}
use Rattle.wot_site.proofs.Sides.{disk_with, with_same, with_with}
use Rattle.wot_site.proofs.Works.{works_start, works_then, works_weaker}
use Rattle.wot_journal.specs.Record.{IsClosed, open_gate}
use Rattle.wot_journal.specs.Commit.{Puts, PutsNot, IsEnd}
use Rattle.wot_journal.proofs.Commits.{puts_work, puts_not_work}
use Rattle.wot_types.specs.PagePlaces.{page_place, pages_needed}
use Rattle.wot_pages.specs.Pages.{pages_for}
use Rattle.wot_pages.specs.Writing.{FillsPages, WritesPages}
use Rattle.wot_store.specs.Base.{IsBlank, header_tail}
use Rattle.wot_store.specs.Writing.{OnSide, Becomes, IsKnown, ClosingGate, Filling, OpeningGate, Writing, closed_bytes, with_base, with_open_gate, base_bytes}
use Rattle.wot_store.proofs.Filled.{IsFront, front_closed, front_pages, front_settled, front_synced, front_write, three_writes}
use Rattle.wot_store.proofs.Headers.{blank_short, blank_shut, closed_blank, not_closed, shut_gate}
use Rattle.wot_pages.proofs.Held.{pages_long}
use Rattle.wot_store.proofs.Sides.{side_at, side_here, side_settled, side_weaker, side_since}

-- a list by its first byte
one_more : (c : List ℕ) → 0 < length c → c ≡ get_or c 0 0 ∷ drop 1 c
one_more [] some = absurd (omega arith)
one_more (b ∷ c) some = refl

some_byte : (c : List ℕ) → get_or c 0 0 ≡ open_gate → 0 < length c
some_byte [] is = absurd (omega arith)
some_byte (b ∷ c) is = omega arith

-- the first byte of a settled side is written over
module _ (bytes : List ℕ) (b : ℕ) (c : List ℕ) (some : 0 < length bytes) (image : IsCrashImage (after_write 0 (b ∷ []) (settled_disk bytes)) c) where
  first_torn : 0 < length c
  first_torn = let torn = torn_image bytes 0 (b ∷ []) c (omega arith) image in omega (arith, torn.no_shorter)

  pub first_opened : get_or c 0 0 ≡ open_gate → c ≡ with_open_gate bytes
  first_opened is = one_more c first_torn ∙ (λ i. is i ∷ (torn_image bytes 0 (b ∷ []) c (omega arith) image).back i)

  pub first_cases : IsClosed c 0 ⊎ (c ≡ with_open_gate bytes)
  first_cases = elim (cases_eq (get_or c 0 0) open_gate) [
    | inl is ↦ inr (first_opened is)
    | inr shut ↦ inl (record { within = first_torn; closed = shut })
  ]

-- closing
module _ (side : Side) (x : Seen) (known : IsKnown false (disk_of side x.disks)) where
  R : List ℕ
  R = (disk_of side x.disks).reads

  pub closing : (c : List ℕ) → IsCrashImage (after_write 0 (0 ∷ []) (settled_disk (disk_of side x.disks).reads)) c → (c ≡ (disk_of side x.disks).reads) ⊎ IsBlank c
  closing c image = ⊎_elim short gated (not_closed (disk_of side x.disks).reads known.closed)
    where
      short : length (disk_of side x.disks).reads < 24 → (c ≡ (disk_of side x.disks).reads) ⊎ IsBlank c
      short small = inr (blank_short c (elim (cases_lt (length (disk_of side x.disks).reads) 1) [
        | inl none ↦ omega (arith, image.no_longer, length_written_end (disk_of side x.disks).reads 0 (0 ∷ []) (omega arith) (omega arith))
        | inr some ↦ omega (arith, image.no_longer, length_written (disk_of side x.disks).reads 0 (0 ∷ []) (omega arith) (omega arith))
      ]))

      gated : slice_index (disk_of side x.disks).reads 0 ≡ open_gate → (c ≡ (disk_of side x.disks).reads) ⊎ IsBlank c
      gated is =
          let some = some_byte (disk_of side x.disks).reads is in
          let whole : with_open_gate (disk_of side x.disks).reads ≡ (disk_of side x.disks).reads = (λ i. sym is i ∷ drop 1 (disk_of side x.disks).reads) ∙ sym (one_more (disk_of side x.disks).reads some) in
          ⊎_elim (λ shut. inr (closed_blank c shut)) (λ same. inl (same ∙ whole)) (first_cases (disk_of side x.disks).reads 0 c some image)

  P : Disks → Type 0
  P = OnSide side (λ c. (c ≡ (disk_of side x.disks).reads) ⊎ IsBlank c) x.disks

  start_close : OnSide side (λ c. (c ≡ (disk_of side x.disks).reads) ⊎ IsBlank c) x.disks x.disks
  start_close = side_here side (λ c. (c ≡ (disk_of side x.disks).reads) ⊎ IsBlank c) x.disks (λ c image. inl (settled_image (disk_of side x.disks).reads c (subst (λ (d : Disk). IsCrashImage d c) known.settled image)))

  while_close : OnSide side (λ c. (c ≡ (disk_of side x.disks).reads) ⊎ IsBlank c) x.disks (with_disk side (after_write 0 (0 ∷ []) (disk_of side x.disks)) x.disks)
  while_close = side_at side (λ c. (c ≡ (disk_of side x.disks).reads) ⊎ IsBlank c) x.disks (after_write 0 (0 ∷ []) (disk_of side x.disks))
      (λ c image. closing c (subst (λ (d : Disk). IsCrashImage d c) (ap (λ (d : Disk). after_write 0 (0 ∷ []) d) known.settled) image))

  pub close_put : (y : Seen) → Puts side 0 (0 ∷ []) x y → ClosingGate side x y
  close_put y puts = puts_work (OnSide side (λ c. (c ≡ (disk_of side x.disks).reads) ⊎ IsBlank c) x.disks) side 0 (0 ∷ []) x y start_close while_close
      (side_settled side (λ c. (c ≡ (disk_of side x.disks).reads) ⊎ IsBlank c) x.disks (bytes_after_write (disk_of side x.disks).reads 0 (0 ∷ [])) (inr (blank_shut (bytes_after_write (disk_of side x.disks).reads 0 (0 ∷ [])) (λ e. absurd (omega (arith, e)))))) puts

  pub close_not : (y : Seen) → PutsNot side 0 (0 ∷ []) x y → ClosingGate side x y
  close_not y puts = puts_not_work (OnSide side (λ c. (c ≡ (disk_of side x.disks).reads) ⊎ IsBlank c) x.disks) side 0 (0 ∷ []) x y start_close while_close puts

-- nothing is closed
kept_gate : (side : Side) (is_closed : Bool) (x : Seen) → IsKnown is_closed (disk_of side x.disks) → ClosingGate side x x
kept_gate side is_closed x known = works_start _ x (side_here side (λ c. (c ≡ (disk_of side x.disks).reads) ⊎ IsBlank c) x.disks
    (λ c image. inl (settled_image (disk_of side x.disks).reads c (subst (λ (d : Disk). IsCrashImage d c) known.settled image))))

pub still_closing : (side : Side) (is_closed : Bool) (seen : Option Seen) → IfHonest seen (λ s. IsKnown is_closed (disk_of side s.disks)) → Honestly seen seen (ClosingGate side)
still_closing side is_closed None known = tt
still_closing side is_closed (Some x) known = kept_gate side is_closed x known

-- opening, and filling
module _ (side : Side) (x : Seen) (known : IsEnd 0 (disk_of side x.disks)) where
  Q : List ℕ → Type 0
  Q c = IsClosed c 0 ⊎ (c ≡ with_open_gate (disk_of side x.disks).reads)

  start_open : OnSide side (λ c. IsClosed c 0 ⊎ (c ≡ with_open_gate (disk_of side x.disks).reads)) x.disks x.disks
  start_open = side_here side (λ c. IsClosed c 0 ⊎ (c ≡ with_open_gate (disk_of side x.disks).reads)) x.disks
      (λ c image. inl (subst (λ (l : List ℕ). IsClosed l 0) (sym (settled_image (disk_of side x.disks).reads c (subst (λ (d : Disk). IsCrashImage d c) known.settled image))) known.gate))

  while_open : OnSide side (λ c. IsClosed c 0 ⊎ (c ≡ with_open_gate (disk_of side x.disks).reads)) x.disks (with_disk side (after_write 0 (open_gate ∷ []) (disk_of side x.disks)) x.disks)
  while_open = side_at side (λ c. IsClosed c 0 ⊎ (c ≡ with_open_gate (disk_of side x.disks).reads)) x.disks (after_write 0 (open_gate ∷ []) (disk_of side x.disks))
      (λ c image. first_cases (disk_of side x.disks).reads open_gate c known.gate.within (subst (λ (d : Disk). IsCrashImage d c) (ap (λ (d : Disk). after_write 0 (open_gate ∷ []) d) known.settled) image))

  pub open_put : (y : Seen) → Puts side 0 (open_gate ∷ []) x y → OpeningGate side x y
  open_put y puts = puts_work (OnSide side (λ c. IsClosed c 0 ⊎ (c ≡ with_open_gate (disk_of side x.disks).reads)) x.disks) side 0 (open_gate ∷ []) x y start_open while_open
      (side_settled side (λ c. IsClosed c 0 ⊎ (c ≡ with_open_gate (disk_of side x.disks).reads)) x.disks (bytes_after_write (disk_of side x.disks).reads 0 (open_gate ∷ [])) (inr refl)) puts

  pub open_not : (y : Seen) → PutsNot side 0 (open_gate ∷ []) x y → OpeningGate side x y
  open_not y puts = puts_not_work (OnSide side (λ c. IsClosed c 0 ⊎ (c ≡ with_open_gate (disk_of side x.disks).reads)) x.disks) side 0 (open_gate ∷ []) x y start_open while_open puts

-- filling
module _ (side : Side) (epoch : ℕ) (image : List ℕ) (x : Seen) (known : IsEnd 0 (disk_of side x.disks)) where
  low : 1 ≤ length (disk_of side x.disks).reads
  low = omega (arith, known.gate.within)

  abbrev pub tail : List ℕ
  tail = header_tail epoch (pages_needed (length image))

  -- this side alone is other than it was, and its gate is neither written nor pending
  pub record InFilling (d : Disks) : Type 0 where
    pub other : d ≡ with_disk side (disk_of side d) x.disks
    pub front : IsFront (disk_of side x.disks).reads (disk_of side d)

  pub shut : (d : Disks) → InFilling d → OnSide side (λ c. IsClosed c 0) x.disks d
  shut d filling = record { other = filling.other; images = front_closed (disk_of side x.disks).reads known.gate (disk_of side d) filling.front }

  start_fill : InFilling x.disks
  start_fill = record { other = sym (with_same side x.disks); front = subst (λ (d : Disk). IsFront (disk_of side x.disks).reads d) (sym known.settled) (front_settled (disk_of side x.disks).reads low) }

  -- a write behind the gate
  written : (y : Seen) (at : ℕ) (bytes : List ℕ) → InFilling y.disks → 1 ≤ at → at ≤ length (disk_of side y.disks).reads → InFilling (with_disk side (after_write at bytes (disk_of side y.disks)) y.disks)
  written y at bytes filling behind within =
      let there = disk_with side (after_write at bytes (disk_of side y.disks)) y.disks in
      record {
        other = ap (λ (d : Disks). with_disk side (after_write at bytes (disk_of side y.disks)) d) filling.other ∙ with_with side (disk_of side y.disks) (after_write at bytes (disk_of side y.disks)) x.disks
            ∙ ap (λ (d : Disk). with_disk side d x.disks) (sym there);
        front = subst (λ (d : Disk). IsFront (disk_of side x.disks).reads d) (sym there) (front_write (disk_of side x.disks).reads (disk_of side y.disks) at bytes filling.front behind within);
      }

  pub fill_not : (y : Seen) → WritesOrNot side 1 tail x y → Filling side x y
  fill_not y writes = works_weaker InFilling (OnSide side (λ c. IsClosed c 0) x.disks) x y shut (writes_not_work InFilling side 1 tail x y start_fill (written x 1 tail start_fill (omega arith) low) writes)

  module _ (y : Seen) (first : Writes side 1 tail x y) where
    one_work : Works InFilling x y
    one_work = writes_work InFilling side 1 tail x y start_fill (written x 1 tail start_fill (omega arith) low) first

    reads_first : (disk_of side y.disks).reads ≡ bytes_after_write (disk_of side x.disks).reads 1 tail
    reads_first = ap (λ (d : Disk). d.reads) (alone_disk side (after_write 1 tail (disk_of side x.disks)) x y (wrote_alone side 1 tail x y first))

    long_first : 24 ≤ length (disk_of side y.disks).reads
    long_first = elim (cases_lt (length (disk_of side x.disks).reads) 24) [
      | inl lt ↦ omega (arith, ap length reads_first, length_written_end (disk_of side x.disks).reads 1 tail low (omega arith))
      | inr le ↦ omega (arith, ap length reads_first, length_written (disk_of side x.disks).reads 1 tail low (omega arith))
    ]

    -- while pages are written
    paging : (d : Disks) → FillsPages side y.disks d → InFilling d
    paging d fills = record {
      other = fills.other ∙ ap (λ (e : Disks). with_disk side (disk_of side d) e) one_work.last.other ∙ with_with side (disk_of side y.disks) (disk_of side d) x.disks;
      front = front_pages (disk_of side x.disks).reads (disk_of side y.disks) (disk_of side d) one_work.last.front fills.written;
    }

    two_work : (z : Seen) → Works (FillsPages side y.disks) y z → Works InFilling x z
    two_work z fills = works_then InFilling x y z one_work (works_weaker (FillsPages side y.disks) InFilling y z paging fills)

    pub fill_not_pages : (z : Seen) → Works (FillsPages side y.disks) y z → Filling side x z
    fill_not_pages z fills = works_weaker InFilling (OnSide side (λ c. IsClosed c 0) x.disks) x z shut (two_work z fills)

    module _ (z : Seen) (pages : WritesPages side epoch image y z) where
      abbrev pub at : ℕ
      at = page_place (pages_needed (length image))

      reads_second : (disk_of side z.disks).reads ≡ bytes_after_write (bytes_after_write (disk_of side x.disks).reads 1 tail) 24 (pages_for epoch image)
      reads_second = pages.reads ∙ ap (λ (l : List ℕ). bytes_after_write l 24 (pages_for epoch image)) reads_first

      pub long_second : at ≤ length (disk_of side z.disks).reads
      long_second = elim (cases_lt (length (disk_of side y.disks).reads) (24 + length (pages_for epoch image))) [
        | inl lt ↦ omega (arith, ap length pages.reads, pages_long epoch image, length_written_end (disk_of side y.disks).reads 24 (pages_for epoch image) long_first (omega arith))
        | inr le ↦ omega (arith, ap length pages.reads, pages_long epoch image, length_written (disk_of side y.disks).reads 24 (pages_for epoch image) long_first (omega arith))
      ]

      last_gate : InFilling (with_disk side (after_write at (0 ∷ []) (disk_of side z.disks)) z.disks)
      last_gate = written z at (0 ∷ []) (two_work z pages.works).last (omega arith) long_second

      pub fill_not_gate : (w : Seen) → WritesOrNot side at (0 ∷ []) z w → Filling side x w
      fill_not_gate w writes = works_weaker InFilling (OnSide side (λ c. IsClosed c 0) x.disks) x w shut
          (works_then InFilling x z w (two_work z pages.works) (writes_not_work InFilling side at (0 ∷ []) z w (two_work z pages.works).last last_gate writes))

      module _ (w : Seen) (gate : Writes side at (0 ∷ []) z w) where
        three_work : Works InFilling x w
        three_work = works_then InFilling x z w (two_work z pages.works) (writes_work InFilling side at (0 ∷ []) z w (two_work z pages.works).last last_gate gate)

        pub fill_not_synced : (v : Seen) → Stays w v → Filling side x v
        fill_not_synced v stays = works_weaker InFilling (OnSide side (λ c. IsClosed c 0) x.disks) x v shut (works_then InFilling x w v three_work (stays_work InFilling w v three_work.last stays))

        reads_third : (disk_of side w.disks).reads ≡ with_base epoch image (disk_of side x.disks).reads
        reads_third =
            ap (λ (d : Disk). d.reads) (alone_disk side (after_write at (0 ∷ []) (disk_of side z.disks)) z w (wrote_alone side at (0 ∷ []) z w gate))
            ∙ ap (λ (l : List ℕ). bytes_after_write l at (0 ∷ [])) reads_second
            ∙ three_writes epoch image (disk_of side x.disks).reads low

        synced : InFilling (with_disk side (after_sync (disk_of side w.disks)) w.disks)
        synced =
            let there = disk_with side (after_sync (disk_of side w.disks)) w.disks in
            record {
              other = ap (λ (d : Disks). with_disk side (after_sync (disk_of side w.disks)) d) three_work.last.other ∙ with_with side (disk_of side w.disks) (after_sync (disk_of side w.disks)) x.disks
                  ∙ ap (λ (d : Disk). with_disk side d x.disks) (sym there);
              front = subst (λ (d : Disk). IsFront (disk_of side x.disks).reads d) (sym there) (front_synced (disk_of side x.disks).reads (disk_of side w.disks) three_work.last.front);
            }

        module _ (v : Seen) (syncs : Syncs side w v) where
          four_work : Works InFilling x v
          four_work = works_then InFilling x w v three_work (syncs_work InFilling side w v three_work.last synced syncs)

          pub fill_synced : Filling side x v
          fill_synced = works_weaker InFilling (OnSide side (λ c. IsClosed c 0) x.disks) x v shut four_work

          pub fill_becomes : Becomes side (with_base epoch image) x v
          fill_becomes = four_work.last.other
              ∙ ap (λ (d : Disk). with_disk side d x.disks) (alone_disk side (after_sync (disk_of side w.disks)) w v (synced_alone side w v syncs) ∙ ap (λ (l : List ℕ). settled_disk l) reads_third)

-- closing, filling and opening one after the other
closed_back : (is_closed : Bool) (r : List ℕ) (n : ℕ) → drop (n + 1) (closed_bytes is_closed r) ≡ drop (n + 1) r
closed_back true r n = refl
closed_back false r n = ap (λ (k : ℕ). drop k (0 ∷ drop 1 r)) (swap n) ∙ sym (drop-drop n 1 (0 ∷ drop 1 r)) ∙ drop-drop n 1 r ∙ ap (λ (k : ℕ). drop k r) (sym (swap n))
  where
    swap : (n : ℕ) → n + 1 ≡ 1 + n
    swap n = omega arith

opened_filled : (epoch : ℕ) (image : List ℕ) (xs : List ℕ) → 0 < length xs → with_open_gate (with_base epoch image xs) ≡ base_bytes epoch image xs
opened_filled epoch image [] some = absurd (omega arith)
opened_filled epoch image (b ∷ xs) some = refl

pub writing_close : (side : Side) (epoch : ℕ) (image : List ℕ) (x y : Seen) → ClosingGate side x y → Writing side epoch image x y
writing_close side epoch image x y works = works_weaker _ _ x y
    (λ d on. side_weaker side (λ c. (c ≡ (disk_of side x.disks).reads) ⊎ IsBlank c) (λ c. (c ≡ (disk_of side x.disks).reads) ⊎ (IsBlank c ⊎ (c ≡ base_bytes epoch image (disk_of side x.disks).reads))) x.disks d
    (λ c h. ⊎_elim (λ same. inl same) (λ blank. inr (inl blank)) h) on) works

module _ (side : Side) (epoch : ℕ) (image : List ℕ) (is_closed : Bool) (x y : Seen) (closes : ClosingGate side x y) (closed : Becomes side (closed_bytes is_closed) x y) where
  W : List ℕ → Type 0
  W c = (c ≡ (disk_of side x.disks).reads) ⊎ (IsBlank c ⊎ (c ≡ base_bytes epoch image (disk_of side x.disks).reads))

  pub writing_fill : (z : Seen) → Filling side y z → Writing side epoch image x z
  writing_fill z fills = works_then _ x y z (writing_close side epoch image x y closes) (works_weaker _ _ y z
      (λ d on. side_weaker side (λ c. IsClosed c 0) (λ c. (c ≡ (disk_of side x.disks).reads) ⊎ (IsBlank c ⊎ (c ≡ base_bytes epoch image (disk_of side x.disks).reads))) x.disks d
      (λ c h. inr (inl (closed_blank c h))) (side_since side (λ c. IsClosed c 0) x.disks y.disks d (settled_disk (closed_bytes is_closed (disk_of side x.disks).reads)) closed on)) fills)

  module _ (z : Seen) (fills : Filling side y z) (fill : Becomes side (with_base epoch image) y z) where
    reads_closed : (disk_of side y.disks).reads ≡ closed_bytes is_closed (disk_of side x.disks).reads
    reads_closed = ap (λ (d : Disk). d.reads) (alone_disk side (settled_disk (closed_bytes is_closed (disk_of side x.disks).reads)) x y closed)

    filled_alone : IsAlone side (settled_disk (with_base epoch image (disk_of side y.disks).reads)) x z
    filled_alone = fill ∙ alone_over side (settled_disk (closed_bytes is_closed (disk_of side x.disks).reads)) (settled_disk (with_base epoch image (disk_of side y.disks).reads)) x y closed

    reads_filled : (disk_of side z.disks).reads ≡ with_base epoch image (disk_of side y.disks).reads
    reads_filled = ap (λ (d : Disk). d.reads) (alone_disk side (settled_disk (with_base epoch image (disk_of side y.disks).reads)) y z fill)

    pub whole : 0 < length (disk_of side y.disks).reads → with_open_gate (disk_of side z.disks).reads ≡ base_bytes epoch image (disk_of side x.disks).reads
    whole some = ap with_open_gate reads_filled ∙ opened_filled epoch image (disk_of side y.disks).reads some
        ∙ ap (λ (l : List ℕ). open_gate ∷ (header_tail epoch (pages_needed (length image)) ++ (pages_for epoch image ++ 0 ∷ l)))
        (ap (λ (l : List ℕ). drop (page_place (pages_needed (length image)) + 1) l) reads_closed ∙ closed_back is_closed (disk_of side x.disks).reads (page_place (pages_needed (length image))))

    pub writing_open : (w : Seen) → 0 < length (disk_of side y.disks).reads → OpeningGate side z w → Writing side epoch image x w
    writing_open w some opens = works_then _ x z w (writing_fill z fills) (works_weaker _ _ z w
        (λ d on. side_weaker side (λ c. IsClosed c 0 ⊎ (c ≡ with_open_gate (disk_of side z.disks).reads)) (λ c. (c ≡ (disk_of side x.disks).reads) ⊎ (IsBlank c ⊎ (c ≡ base_bytes epoch image (disk_of side x.disks).reads))) x.disks d
        (λ c h. ⊎_elim (λ shut. inr (inl (closed_blank c shut))) (λ same. inr (inr (same ∙ whole some))) h)
        (side_since side (λ c. IsClosed c 0 ⊎ (c ≡ with_open_gate (disk_of side z.disks).reads)) x.disks z.disks d (settled_disk (with_base epoch image (disk_of side y.disks).reads)) filled_alone on)) opens)

    pub writing_done : (w : Seen) → 0 < length (disk_of side y.disks).reads → Becomes side with_open_gate z w → Becomes side (base_bytes epoch image) x w
    writing_done w some done = done ∙ alone_over side (settled_disk (with_base epoch image (disk_of side y.disks).reads)) (settled_disk (with_open_gate (disk_of side z.disks).reads)) x z filled_alone
        ∙ ap (λ (l : List ℕ). with_disk side (settled_disk l) x.disks) (whole some)

pub some_closed : (is_closed : Bool) (d : Disk) → IsKnown is_closed d → 0 < length (closed_bytes is_closed d.reads)
some_closed true d known = (shut_gate d.reads known.closed).within
some_closed false d known = omega arith

pub writing_all : (side : Side) (epoch : ℕ) (image : List ℕ) (is_closed : Bool) (x y z w : Seen) → IsKnown is_closed (disk_of side x.disks) → ClosingGate side x y → Becomes side (closed_bytes is_closed) x y
    → Filling side y z → Becomes side (with_base epoch image) y z → OpeningGate side z w → Writing side epoch image x w
writing_all side epoch image is_closed x y z w known closes closed fills fill opens =
    writing_open side epoch image is_closed x y closes closed z fills fill w
    (subst (λ (l : List ℕ). 0 < length l) (sym (ap (λ (d : Disk). d.reads) (alone_disk side (settled_disk (closed_bytes is_closed (disk_of side x.disks).reads)) x y closed))) (some_closed is_closed (disk_of side x.disks) known)) opens

pub written_all : (side : Side) (epoch : ℕ) (image : List ℕ) (is_closed : Bool) (x y z w : Seen) → IsKnown is_closed (disk_of side x.disks) → ClosingGate side x y → Becomes side (closed_bytes is_closed) x y
    → Filling side y z → Becomes side (with_base epoch image) y z → Becomes side with_open_gate z w → Becomes side (base_bytes epoch image) x w
written_all side epoch image is_closed x y z w known closes closed fills fill opens =
    writing_done side epoch image is_closed x y closes closed z fills fill w
    (subst (λ (l : List ℕ). 0 < length l) (sym (ap (λ (d : Disk). d.reads) (alone_disk side (settled_disk (closed_bytes is_closed (disk_of side x.disks).reads)) x y closed))) (some_closed is_closed (disk_of side x.disks) known)) opens
