-- What a side shows that was written whole.
use Rattle.std.proofs.Common.{◌≡◌, ℕ, ◌+◌, ◌*◌, ◌^◌, ◌<◌, true, List, [], ◌∷◌, ◌++◌, length, get_or, drop, refl, sym, ◌∙◌, ap, subst, arith, Some}
use Rattle.std.proofs.lemmas.List.{take_at, drop_at, drop-drop, get_or-drop, length-append}
use Rattle.std.proofs.lemmas.Nat.{from_be_bytes-to_be_bytes_8}
use Rattle.wot_types.specs.State.{State}
use Rattle.wot_store.specs.Base.{IsBaseOf}
use Rattle.wot_site.specs.declared.side.Side.{Side}
use Rattle.wot_journal.specs.Record.{IsClosed, most_side, open_gate}
use Rattle.wot_types.specs.PagePlaces.{page_place, pages_needed}
use Rattle.wot_pages.specs.Pages.{HasPages, contents_for, pages_for}
use Rattle.wot_store.specs.declared.header.Header.{Header}
use Rattle.wot_store.specs.Base.{header_of}
use Rattle.wot_store.specs.Shows.{ShowsBase}
use Rattle.wot_store.specs.Writing.{base_bytes}
use Rattle.wot_store.proofs.Headers.{IsWhole, base_whole, opened_header}
use Rattle.wot_pages.proofs.Held.{contents_held, pages_long, whole_held}
use Rattle.wot_store.proofs.Replaying.{reaches_start}

-- the header of a side with the pages of an image
abbrev pub base_header : ℕ → List ℕ → Header
base_header epoch image = record { has_magic = true; epoch = epoch; pages = pages_needed (length image) }

module _ (epoch : ℕ) (image r : List ℕ) (small : epoch < 2 ^ 64) (room : page_place (pages_needed (length image)) < most_side) where
  rest : List ℕ
  rest = drop (page_place (pages_needed (length image)) + 1) r

  long : length (base_bytes epoch image r) ≡ page_place (pages_needed (length image)) + 1 + length (drop (page_place (pages_needed (length image)) + 1) r)
  long = omega (arith, pages_long epoch image, length-append (pages_for epoch image) (0 ∷ drop (page_place (pages_needed (length image)) + 1) r))

  pub whole_header : header_of (base_bytes epoch image r) ≡ Some (base_header epoch image)
  whole_header = opened_header (base_bytes epoch image r) (omega (arith, long)) refl
      ∙ (λ i. Some (record { has_magic = true; epoch = from_be_bytes-to_be_bytes_8 epoch small i; pages = from_be_bytes-to_be_bytes_8 (pages_needed (length image)) (omega (arith, room)) i }))

  behind : drop 24 (base_bytes epoch image r) ≡ pages_for epoch image ++ 0 ∷ drop (page_place (pages_needed (length image)) + 1) r
  behind = refl

  has_pages : HasPages epoch image (base_bytes epoch image r)
  has_pages = record {
    long = omega (arith, long);
    pages = take_at (pages_for epoch image) (0 ∷ drop (page_place (pages_needed (length image)) + 1) r) (4096 * pages_needed (length image)) (pages_long epoch image);
  }

  gate_there : drop (page_place (pages_needed (length image))) (base_bytes epoch image r) ≡ 0 ∷ drop (page_place (pages_needed (length image)) + 1) r
  gate_there =
      ap (λ (n : ℕ). drop n (base_bytes epoch image r)) place ∙ sym (drop-drop (4096 * pages_needed (length image)) 24 (base_bytes epoch image r))
      ∙ drop_at (pages_for epoch image) (0 ∷ drop (page_place (pages_needed (length image)) + 1) r) (4096 * pages_needed (length image)) (pages_long epoch image)
    where
      place : page_place (pages_needed (length image)) ≡ 24 + 4096 * pages_needed (length image)
      place = refl

  closed : IsClosed (base_bytes epoch image r) (page_place (pages_needed (length image)))
  closed = record { within = omega (arith, long); closed = not_open (get_or (base_bytes epoch image r) (page_place (pages_needed (length image))) 0) gate_zero }
    where
      none_on : (n : ℕ) → n + 0 ≡ n
      none_on n = omega arith

      gate_zero : get_or (base_bytes epoch image r) (page_place (pages_needed (length image))) 0 ≡ 0
      gate_zero = ap (λ (n : ℕ). get_or (base_bytes epoch image r) n 0) (sym (none_on (page_place (pages_needed (length image)))))
          ∙ sym (get_or-drop (page_place (pages_needed (length image))) (base_bytes epoch image r) 0 0) ∙ ap (λ (l : List ℕ). get_or l 0 0) gate_there

      not_open : (n : ℕ) → n ≡ 0 → n ≡ open_gate → ⊥
      not_open n z e = absurd (omega (arith, z, e))

  whole : IsWhole (base_bytes epoch image r) (base_header epoch image)
  whole = record { within = omega (arith, long); bound = room; sealed = whole_held epoch image (base_bytes epoch image r) has_pages }

  pub whole_shows : (side : Side) (state : State) → IsBaseOf (contents_for image) state
      → ShowsBase side (base_bytes epoch image r) (base_header epoch image) (record { state = state; epoch = epoch; end = page_place (pages_needed (length image)); base = state; edits = [] })
  whole_shows side state is = record {
    sound = base_whole side (base_bytes epoch image r) (base_header epoch image) whole;
    epoch = refl;
    is_base = subst (λ (l : List ℕ). IsBaseOf l state) (sym (contents_held epoch image (base_bytes epoch image r) has_pages)) is;
    journal = record {
      recorded = [];
      are = refl;
      reaches = reaches_start (base_bytes epoch image r) (page_place (pages_needed (length image))) state whole.within room;
      gate = closed;
    };
  }
