-- Ownertrust that is set entry by entry.
use Rattle.std.proofs.Common.{◌≡◌, ℕ, false, List, [], ◌∷◌, ◌++◌, All, reverse, refl, sym, ap, ◌∙◌, if◌then◌else◌, map as mapped}
use Rattle.std.proofs.lemmas.List.{append-nil}
use Rattle.std.proofs.lemmas.List.Elements.{All-head, All-tail}
use Rattle.std.specs.FinMap.{empty, from_entries, insert, remove}
use Rattle.wot_types.specs.declared.ownertrust.Entry.{Entry}
use Rattle.wot_types.specs.declared.ownertrust.Ownertrust.{Ownertrust}
use Rattle.wot_types.specs.Fingerprint.{fpr_cmp}
use Rattle.wot_types.specs.Ownertrust.{OwnertrustMap, is_unset, kept_of, with_entries, with_entry}
use Rattle.wot_types.proofs.Maps.{in_turn}

abbrev pub pair_of : Entry → List ℕ × Ownertrust
pair_of entry = (entry.fpr, kept_of entry)

abbrev pub IsKept : Entry → Type 0
IsKept entry = is_unset (kept_of entry) ≡ false

-- an entry that is kept takes the place of the former one
with_kept : (trusts : OwnertrustMap) (entry : Entry) → IsKept entry → with_entry trusts entry ≡ insert trusts entry.fpr (kept_of entry)
with_kept trusts entry set = ap (λ b. if b then remove trusts entry.fpr else insert trusts entry.fpr (kept_of entry)) set

set_after : (entries : List Entry) (before : List (List ℕ × Ownertrust)) → All IsKept entries
    → with_entries (from_entries before) entries ≡ from_entries {R = fpr_cmp} (reverse (mapped pair_of entries) ++ before)
set_after [] before set = refl
set_after (entry ∷ entries) before set =
    ap (λ trusts. with_entries trusts entries) (with_kept (from_entries before) entry (All-head IsKept entry entries set))
    ∙ set_after entries (pair_of entry ∷ before) (All-tail IsKept entry entries set)
    ∙ ap (from_entries {R = fpr_cmp}) (sym (in_turn (pair_of entry) (mapped pair_of entries) before))

-- entries that are all kept are those of the map, the last of a fingerprint alone
pub set_alone : (entries : List Entry) → All IsKept entries → with_entries empty entries ≡ from_entries {R = fpr_cmp} (reverse (mapped pair_of entries))
set_alone entries set = set_after entries [] set ∙ ap (from_entries {R = fpr_cmp}) (append-nil (reverse (mapped pair_of entries)))
