-- The counts of all keys, put together from those of the pieces of a list of key IDs.
use Rattle.std.proofs.Common.{◌≡◌, ◌*◌, ◌<◌, ◌+◌, suc, ℕ, List, [], ◌∷◌, ◌++◌, All, IfOk, IsOk, append-nil, get_or, length, map, drop, take, take_all, Option, Some, None, Ok, Err, option_and_then, option_map, refl, sym, ap, ap₂, subst, ◌∙◌, arith}
use Rattle.std.specs.FinMap as finmap
use Rattle.std.specs.Fork.{slice_chunk}
use Rattle.std.specs.Global.{Vec}
use Rattle.std.specs.Int.{div_ceil}
use Rattle.std.specs.List.{AllByRecursion, cons_option, filter_map, flat_map, slice_get}
use Rattle.std.proofs.lemmas.Grind.{div_ceil_times, flat_map-append}
use Rattle.std.proofs.lemmas.Option.{get_or_from_slice_get, slice_get_within}
use Rattle.std.proofs.lemmas.List.Elements.{All-append, All-cons, All-head, All-nil, All-tail}
use Rattle.wot_types.specs.declared.count.Count.{Count}
use Rattle.wot_types.specs.declared.key.Key.{Key}
use Rattle.wot_types.specs.Candidates.{RowMap}
use Rattle.wot_types.specs.State.{State}
use Rattle.wot_types.proofs.MapBy.{entry_by}
use Rattle.wot_types.proofs.MapLemmas.{IsAt, entries_at}
use Rattle.wot_table.proofs.Merging.{first_piece, later_piece}
use Rattle.wot_levels.proofs.Weights.{next_of}
use Rattle.wot_live.specs.Counts.{CountMap, counts_over, counts_rule, kept_counts, key_counts}
use Rattle.wot_live.specs.FoundCounts.{Found, IsCountedByPiece, found_pairs, kept_pair, kept_pairs}

-- ---- the counts of some keys

-- a key ID with what is kept of its key, before those of other keys
one_pair : (id : ℕ) (kept : Option (List Count)) (rest : List (ℕ × List Count)) → kept_pair id kept ++ rest ≡ cons_option (option_map (λ counts. (id, counts)) kept) rest
one_pair id None rest = refl
one_pair id (Some counts) rest = refl

-- one more piece that was found, behind others
pub found_next : (founds : List Found) (one : Found) (more : Vec (ℕ × List Count)) (old new : List (ℕ × List Count)) → one ≡ Ok more → All IsOk founds → old ≡ flat_map found_pairs founds
    → new ≡ old ++ more.items → (All IsOk (founds ++ one ∷ [])) × (new ≡ flat_map found_pairs (founds ++ one ∷ []))
found_next founds one more old new is whole exact longer = (
  All-append IsOk founds (one ∷ []) whole (All-cons IsOk one [] (subst IsOk (sym is) refl) (All-nil IsOk)),
  longer ∙ ap₂ (λ a b. a ++ b) exact (ap found_pairs (sym is) ∙ sym (append-nil (found_pairs one))) ∙ sym (flat_map-append found_pairs founds (one ∷ [])),
)

module _ (s : State) (rows : RowMap) where
  -- what is kept of a key that is there
  abbrev kept_of : ℕ → Key → Option (List Count)
  kept_of id key = kept_counts (key_counts s rows key)

  -- what is kept of the keys up to one more
  pub kept_next : (ids : List ℕ) (i x : ℕ) (old new : List (ℕ × List Count)) → i < length ids → x ≡ get_or ids i x → old ≡ kept_pairs s rows (take i ids)
      → new ≡ old ++ kept_pair x (counts_rule s rows x) → new ≡ kept_pairs s rows (take (i + 1) ids)
  kept_next ids i x old new inside at sofar more =
      let kept = kept_pair x (counts_rule s rows x) in
      more
      ∙ ap (λ pairs. pairs ++ kept) sofar
      ∙ ap (λ pairs. kept_pairs s rows (take i ids) ++ pairs) (sym (append-nil kept))
      ∙ sym (flat_map-append _ (take i ids) (x ∷ []))
      ∙ ap (kept_pairs s rows) (sym (next_of ids i x inside at))

  -- the key IDs of entries of the keyring, with what is kept of their keys
  pairs_of_entries : (es : List (ℕ × Key)) → AllByRecursion (IsAt s.keys) es → kept_pairs s rows (map (λ e. e.0) es) ≡ filter_map (entry_by kept_of) es
  pairs_of_entries [] h = refl
  pairs_of_entries (e ∷ es) h =
      ap₂ (λ found rest. kept_pair e.0 (option_and_then (kept_of e.0) found) ++ rest) h.0 (pairs_of_entries es h.1)
      ∙ one_pair e.0 (kept_of e.0 e.1) (filter_map (entry_by kept_of) es)

  -- the counts that are kept of all keys are those of the keyring
  pub counts_of_all : (ids : List ℕ) (pairs : List (ℕ × List Count)) (made : CountMap) → ids ≡ finmap.keys s.keys → pairs ≡ kept_pairs s rows ids
      → made ≡ finmap.from_entries pairs → made ≡ counts_over s rows
  counts_of_all ids pairs made are all is =
      is ∙ ap finmap.from_entries (all ∙ ap (kept_pairs s rows) are ∙ pairs_of_entries (finmap.entries s.keys) (entries_at s.keys))

  -- ---- the pieces put together

  one_found : (one : Found) (ids : List ℕ) → IsOk one → IfOk one (λ pairs. pairs.items ≡ kept_pairs s rows ids) → found_pairs one ≡ kept_pairs s rows ids
  one_found (Ok pairs) ids ok are = are
  one_found (Err e) ids ok are = cc

  module _ (size : ℕ) where
    -- what was found at each place is an answer for each piece
    pub by_piece : (ids : List ℕ) (founds : List Found) → length founds ≡ div_ceil (length ids) size
        → ((n : ℕ) (d : Found) → n < length founds → IfOk (get_or founds n d) (λ pairs. pairs.items ≡ kept_pairs s rows (slice_chunk ids size n)))
        → IsCountedByPiece s rows size ids founds
    by_piece ids founds count each = record {
      count = count;
      each = λ n one at. subst (λ r. IfOk r (λ pairs. pairs.items ≡ kept_pairs s rows (slice_chunk ids size n))) (get_or_from_slice_get founds n one one at) (each n one (slice_get_within founds n one at));
    }

    -- by the first piece, and the others of what is left of the list
    found_in : (founds : List Found) (ids : List ℕ) → All IsOk founds
        → ((m : ℕ) (one : Found) → slice_get founds m ≡ Some one → IfOk one (λ pairs. pairs.items ≡ kept_pairs s rows (slice_chunk ids size m)))
        → flat_map found_pairs founds ≡ kept_pairs s rows (take (length founds * size) ids)
    found_in [] ids whole each =
        let none : 0 * size ≡ 0 = omega arith in
        ap (λ j. kept_pairs s rows (take j ids)) (sym none)
    found_in (one ∷ founds) ids whole each =
        ap₂ (λ a b. a ++ b)
        (one_found one (slice_chunk ids size 0) (All-head IsOk one founds whole) (each 0 one refl))
        (found_in founds (drop size ids) (All-tail IsOk one founds whole) (λ m r at. subst (λ piece. IfOk r (λ pairs. pairs.items ≡ kept_pairs s rows piece)) (later_piece size ids m) (each (suc m) r at)))
        ∙ sym (flat_map-append _ (slice_chunk ids size 0) (take (length founds * size) (drop size ids)))
        ∙ ap (kept_pairs s rows) (sym (first_piece size ids (length founds)))

    -- what was found for the pieces is what is kept of the keys
    pub found_all : (founds : List Found) (ids : List ℕ) → 0 < size → All IsOk founds → IsCountedByPiece s rows size ids founds → flat_map found_pairs founds ≡ kept_pairs s rows ids
    found_all founds ids some whole by =
        let cover = (div_ceil_times (length ids) size some).0 in
        let same : length founds * size ≡ div_ceil (length ids) size * size = ap (λ j. j * size) by.count in
        found_in founds ids whole by.each ∙ ap (kept_pairs s rows) (take_all (length founds * size) ids (omega (arith, cover, same)))
