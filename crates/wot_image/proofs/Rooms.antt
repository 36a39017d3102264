-- The room for an image is enough for it.
use Rattle.std.proofs.Common.{◌≡◌, ℕ, ◌+◌, ◌*◌, ◌<◌, ◌≤◌, ◌^◌, List, ◌∷◌, length, map, All, sum_by, sym, ap, subst, ◌∙◌, arith}
use Rattle.std.specs.FinMap as finmap
use Rattle.std.specs.FinMap.{len-entries}
use Rattle.std.proofs.lemmas.List.Elements.{All-cons}
use Rattle.std.proofs.lemmas.List.Sums.{sum_by-cons}
use Rattle.wot_types.specs.declared.ownertrust.Ownertrust.{Ownertrust}
use Rattle.wot_types.specs.declared.row.Row.{Row}
use Rattle.wot_types.specs.declared.totals.Totals.{Totals}
use Rattle.wot_types.specs.Candidates.{RowMap}
use Rattle.wot_types.specs.Fingerprint.{IsFprLength}
use Rattle.wot_types.specs.Image.{entries_of}
use Rattle.wot_types.specs.Keyring.{Keyring}
use Rattle.wot_types.specs.Ownertrust.{OwnertrustMap, entry_of}
use Rattle.wot_types.specs.Spelling.{EntryFits}
use Rattle.wot_types.specs.State.{State}
use Rattle.wot_types.specs.Totals.{totals_of}
use Rattle.wot_types.specs.WellFormed.{IsScope}
use Rattle.wot_types.specs.WellFormedState.{IsWellFormedState}
use Rattle.wot_spelling.specs.Sizes.{entry_size}
use Rattle.wot_image.specs.Sizes.{image_size}
use Rattle.wot_image.proofs.Bounds.{as_many, entries_many, entries_most, entry_part, few_keys, few_totals, few_trusts, fpr_most, fprs, keys_most, rows_most}

-- ---- the entries

abbrev Kept : Type 0
Kept = List ℕ × Ownertrust

-- all entries but those that are left have their room, and they fit
pub record IsRoomed (all left : List (List ℕ × Ownertrust)) (room : ℕ) : Type 0 where
  pub sum : room + sum_by entry_size (map entry_of left) ≡ sum_by entry_size (map entry_of all)
  pub fits : All EntryFits (map entry_of left) → All EntryFits (map entry_of all)
  pub small : room + 34 * length left ≤ 34 * length all

module _ (all left : List Kept) (room : ℕ) (so_far : IsRoomed all left room) where
  pub room_next : (rest : List Kept) (e : Kept) (new : ℕ) → left ≡ e ∷ rest → IsFprLength e.0 → new ≡ room + (2 + length e.0) → IsRoomed all rest new
  room_next rest e new is fit more =
      let here = ap (λ (xs : List Kept). sum_by entry_size (map entry_of xs)) is in
      let one = sum_by-cons entry_size (entry_of e) (map entry_of rest) in
      record {
        sum = omega (arith, so_far.sum, here, one, entry_part (entry_of e), more);
        fits = λ h. so_far.fits (subst (λ (xs : List Kept). All EntryFits (map entry_of xs)) (sym is) (All-cons EntryFits (entry_of e) (map entry_of rest) (record { fpr = fit }) h));
        small = omega (arith, so_far.small, ap (λ (xs : List Kept). length xs) is, fpr_most e.0 fit, more);
      }

  -- a sum that doesn't wrap
  pub next_small : (rest : List Kept) (e : Kept) → left ≡ e ∷ rest → IsFprLength e.0 → length all ≤ 262144 → room + (2 + length e.0) < 2 ^ 64
  next_small rest e is fit few = omega (arith, so_far.small, ap (λ (xs : List Kept). length xs) is, fpr_most e.0 fit, few)

-- ---- all together

-- room for a keyring by what the limits count
abbrev room_of : Keyring → ℕ
room_of keys = 58 * (totals_of keys).keys + 22 * (totals_of keys).users + 59 * (totals_of keys).certs + (totals_of keys).text

-- what was counted for the entries and for the keys of a state
pub record IsCounted (s : State) (entries keys : ℕ) : Type 0 where
  pub fits : All EntryFits (entries_of s.trusts)
  pub of_entries : entries ≡ sum_by entry_size (entries_of s.trusts)
  pub of_keys : keys ≡ room_of s.keys

pub counted_for : (s : State) (trusts : OwnertrustMap) (table : Keyring) (totals : Totals) (entries keys : ℕ) → trusts ≡ s.trusts → table ≡ s.keys → totals ≡ totals_of table
    → All EntryFits (entries_of trusts) → entries ≡ sum_by entry_size (entries_of trusts) → keys ≡ 58 * totals.keys + 22 * totals.users + 59 * totals.certs + totals.text → IsCounted s entries keys
counted_for s trusts table totals entries keys same_trusts same_table same fits of_entries of_keys = record {
  fits = subst (λ (t : OwnertrustMap). All EntryFits (entries_of t)) same_trusts fits;
  of_entries = of_entries ∙ ap (λ (t : OwnertrustMap). sum_by entry_size (entries_of t)) same_trusts;
  of_keys = of_keys ∙ ap (λ (t : Totals). 58 * t.keys + 22 * t.users + 59 * t.certs + t.text) (same ∙ ap totals_of same_table);
}

module _ (s : State) (entries keys : ℕ) (sound : IsWellFormedState s) (h : IsCounted s entries keys) where
  pub entries_small : entries < 2 ^ 32
  entries_small = omega (arith, h.of_entries, entries_most (entries_of s.trusts) h.fits, entries_many s.trusts, few_trusts s.trusts sound.few_trusts)

  pub keys_small : keys < 2 ^ 32
  keys_small = let f = few_totals (totals_of s.keys) sound.few_keys in omega (arith, h.of_keys, f.keys, f.users, f.certs, f.text)

  pub room_enough : (rows : RowMap) (count : ℕ) → All (λ (e : ℕ × Row). IsScope e.1.scope) (finmap.entries rows) → count ≡ finmap.len rows → image_size s rows ≤ 37 + entries + keys + 280 * count
  unfolding image_size
  room_enough rows count scopes of_rows =
      let f = few_keys s.keys sound.few_keys in
      let most = keys_most (finmap.values s.keys) (fprs s.keys sound.keys) in
      omega (arith, h.of_entries, h.of_keys, of_rows, most, as_many s.keys, f.count.1, f.users.1, f.certs.1, f.text.1, rows_most (finmap.entries rows) scopes, len-entries rows)
