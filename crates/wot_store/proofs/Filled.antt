-- Bytes that are written behind a gate.
use Rattle.std.proofs.Common.{◌≡◌, inl, inr, ℕ, ◌+◌, ◌≤◌, List, [], ◌∷◌, ◌++◌, length, get_or, take, drop, refl, sym, ◌∙◌, ap, subst, arith, append_assoc}
use Rattle.std.specs.Prelude.{All}
use Rattle.std.proofs.lemmas.Bool.{cases_lt}
use Rattle.std.proofs.lemmas.List.{drop-drop, get_or-take, length-append, length-take-le, take_at, take-take}
use Rattle.std.proofs.lemmas.List.Elements.{All-nil, All-push, All-append, All-weaker}
use Rattle.wot_site.specs.declared.range.Range.{Range}
use Rattle.wot_site.specs.Disk.{Disk, IsCrashImage, after_write, after_sync, settled_disk, bytes_after_write}
use Rattle.wot_site.proofs.Images.{image_front, take_written, back_written, length_written, length_written_end}
use Rattle.wot_journal.specs.Record.{IsClosed}
use Rattle.wot_types.specs.PagePlaces.{page_place, pages_needed}
use Rattle.wot_pages.specs.Pages.{pages_for}
use Rattle.wot_pages.specs.Writing.{IsWrittenFrom}
use Rattle.wot_store.specs.Base.{header_tail}
use Rattle.wot_store.specs.Writing.{with_base}
use Rattle.wot_pages.proofs.Held.{pages_long}

-- a side's first byte is that of these bytes, and isn't pending
pub record IsFront (r : List ℕ) (d : Disk) : Type 0 where
  pub synced : 1 ≤ d.synced
  pub long : 1 ≤ length d.reads
  pub behind : All (λ (q : Range). 1 ≤ q.at) d.pending
  pub front : take 1 d.reads ≡ take 1 r

pub front_closed : (r : List ℕ) → IsClosed r 0 → (d : Disk) → IsFront r d → (c : List ℕ) → IsCrashImage d c → IsClosed c 0
front_closed r gate d at c image =
    let same : take 1 c ≡ take 1 r = image_front 1 d c at.synced at.long at.behind image ∙ at.front in
    record {
      within = omega (arith, image.no_shorter, at.synced, at.long);
      closed = λ e. gate.closed (sym (get_or-take 1 r 0 0 (omega arith)) ∙ sym (ap (λ (l : List ℕ). get_or l 0 0) same) ∙ get_or-take 1 c 0 0 (omega arith) ∙ e);
    }

pub front_settled : (r : List ℕ) → 1 ≤ length r → IsFront r (settled_disk r)
front_settled r low = record { synced = low; long = low; behind = All-nil (λ (q : Range). 1 ≤ q.at); front = refl }

pub front_write : (r : List ℕ) (d : Disk) (at : ℕ) (bytes : List ℕ) → IsFront r d → 1 ≤ at → at ≤ length d.reads → IsFront r (after_write at bytes d)
front_write r d at bytes here behind within = record {
  synced = here.synced;
  long = elim (cases_lt (length d.reads) (at + length bytes)) [
    | inl lt ↦ omega (arith, here.long, length_written_end d.reads at bytes within (omega arith))
    | inr le ↦ omega (arith, here.long, length_written d.reads at bytes within le)
  ];
  behind = All-push (λ (q : Range). 1 ≤ q.at) d.pending (record { at = at; len = length bytes }) here.behind behind;
  front = sym (take-take 1 at (bytes_after_write d.reads at bytes) behind) ∙ ap (λ (l : List ℕ). take 1 l) (take_written d.reads at bytes within) ∙ take-take 1 at d.reads behind ∙ here.front;
}

pub front_synced : (r : List ℕ) (d : Disk) → IsFront r d → IsFront r (after_sync d)
front_synced r d here = record { synced = here.long; long = here.long; behind = All-nil (λ (q : Range). 1 ≤ q.at); front = here.front }

pub front_pages : (r : List ℕ) (d e : Disk) → IsFront r d → IsWrittenFrom 24 d e → IsFront r e
front_pages r d e here written = record {
  synced = omega (arith, here.synced, written.synced);
  long = omega (arith, here.long, written.no_shorter);
  behind = subst (λ (l : List Range). All (λ (q : Range). 1 ≤ q.at) l) (sym written.pending)
      (All-append (λ (q : Range). 1 ≤ q.at) d.pending written.ranges here.behind (All-weaker (λ (q : Range). 24 ≤ q.at) (λ (q : Range). 1 ≤ q.at) (λ q far. omega (arith, far)) written.ranges written.behind));
  front = sym (take-take 1 24 e.reads (omega arith)) ∙ ap (λ (l : List ℕ). take 1 l) written.front ∙ take-take 1 24 d.reads (omega arith) ∙ here.front;
}

-- a write that begins where another ended
pub one_write : (old : List ℕ) (at next : ℕ) (a b : List ℕ) → at ≤ length old → next ≡ at + length a → bytes_after_write (bytes_after_write old at a) next b ≡ bytes_after_write old at (a ++ b)
one_write old at next a b low is =
    let place : next + length b ≡ at + length (a ++ b) = omega (arith, is, length-append a b) in
    let rest : length b + (at + length a) ≡ at + length (a ++ b) = omega (arith, length-append a b) in
    let long : length (take at old ++ a) ≡ next = omega (arith, is, length-append (take at old) a, length-take-le at old low) in
    let front : take next (bytes_after_write old at a) ≡ take at old ++ a =
    ap (λ (l : List ℕ). take next l) (sym (append_assoc (take at old) a (drop (at + length a) old))) ∙ take_at (take at old ++ a) (drop (at + length a) old) next long in
    let back : drop (next + length b) (bytes_after_write old at a) ≡ drop (at + length (a ++ b)) old =
    ap (λ (n : ℕ). drop n (bytes_after_write old at a)) (again next b is) ∙ sym (drop-drop (length b) (at + length a) (bytes_after_write old at a))
    ∙ ap (λ (l : List ℕ). drop (length b) l) (back_written old at a low) ∙ drop-drop (length b) (at + length a) old ∙ ap (λ (n : ℕ). drop n old) (sum rest) in
    (λ i. front i ++ (b ++ back i)) ∙ append_assoc (take at old) a (b ++ drop (at + length (a ++ b)) old) ∙ ap (λ (l : List ℕ). take at old ++ l) (sym (append_assoc a b (drop (at + length (a ++ b)) old)))
  where
    again : (next : ℕ) (b : List ℕ) → next ≡ at + length a → next + length b ≡ at + length a + length b
    again next b is = omega (arith, is)

    sum : length b + (at + length a) ≡ at + length (a ++ b) → at + length a + length b ≡ at + length (a ++ b)
    sum e = omega (arith, e)

-- the header, the pages and the gate behind them, one write after the other
pub three_writes : (epoch : ℕ) (image r : List ℕ) → 1 ≤ length r
    → bytes_after_write (bytes_after_write (bytes_after_write r 1 (header_tail epoch (pages_needed (length image)))) 24 (pages_for epoch image)) (page_place (pages_needed (length image))) (0 ∷ []) ≡ with_base epoch image r
three_writes epoch image r low =
    let tail = header_tail epoch (pages_needed (length image)) in
    let pages = pages_for epoch image in
    let place = page_place (pages_needed (length image)) in
    let long = pages_long epoch image in
    let two : bytes_after_write (bytes_after_write r 1 tail) 24 pages ≡ bytes_after_write r 1 (tail ++ pages) = one_write r 1 24 tail pages low (omega arith) in
    let three : bytes_after_write (bytes_after_write r 1 (tail ++ pages)) place (0 ∷ []) ≡ bytes_after_write r 1 ((tail ++ pages) ++ 0 ∷ []) =
    one_write r 1 place (tail ++ pages) (0 ∷ []) low (omega (arith, length-append tail pages, long)) in
    let back : 1 + length ((tail ++ pages) ++ 0 ∷ []) ≡ place + 1 = omega (arith, length-append (tail ++ pages) (0 ∷ []), length-append tail pages, long) in
    ap (λ (l : List ℕ). bytes_after_write l place (0 ∷ [])) two ∙ three
    ∙ ap (λ (n : ℕ). take 1 r ++ (((tail ++ pages) ++ 0 ∷ []) ++ drop n r)) back
    ∙ ap (λ (l : List ℕ). take 1 r ++ l) (regroup tail pages (drop (place + 1) r))
  where
    regroup : (a b d : List ℕ) → ((a ++ b) ++ 0 ∷ []) ++ d ≡ a ++ (b ++ 0 ∷ d)
    regroup a b d = append_assoc (a ++ b) (0 ∷ []) d ∙ append_assoc a b (0 ∷ d)
