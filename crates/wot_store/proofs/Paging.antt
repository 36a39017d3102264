-- The contents of pages.
use Rattle.std.proofs.Common.{ℕ, zero, suc, ◌+◌, List, drop}
use Rattle.std.specs.Prelude.{All, flat_map}
use Rattle.std.specs.List.{range_with_len}
use Rattle.std.proofs.lemmas.List.Elements.{All-nil, All-append, All-take, All-drop}
use Rattle.wot_types.specs.PagePlaces.{page_place}
use Rattle.wot_pages.specs.Pages.{content_at, contents_of, page_at}

-- the contents of bytes are bytes
pub contents_bytes : (P : ℕ → Type 0) (pages : ℕ) (bytes : List ℕ) → All P bytes → All P (contents_of pages bytes)
contents_bytes P pages bytes each = from 0 pages
  where
    from : (a n : ℕ) → All P (flat_map (λ k. content_at bytes k) (range_with_len a n))
    from a zero = All-nil P
    from a (suc n) = All-append P (content_at bytes a) (flat_map (λ k. content_at bytes k) (range_with_len (a + 1) n))
        (All-take P 4064 (page_at bytes a) (All-take P 4096 (drop (page_place a) bytes) (All-drop P (page_place a) bytes each))) (from (a + 1) n)
