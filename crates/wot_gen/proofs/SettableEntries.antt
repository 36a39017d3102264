-- A sample's entries set something, and their fingerprints rise.
use Rattle.std.proofs.Common.{◌≡◌, ℕ, ◌+◌, ◌%◌, ◌^◌, ◌<◌, ◌≤◌, ◌==◌, Bool, true, false, cond, All, List, ◌∷◌, Option, Some, None, refl, sym, ap, subst, ◌∙◌, arith, zero, suc, option_map, IfSome}
use Rattle.std.specs.List.{cons_option, filter_map, range_with_len}
use Rattle.std.specs.declared.cmp.Ordering.TheVariants.{Less}
use Rattle.std.proofs.lemmas.List.Elements.{All-cons, All-nil}
use Rattle.wot_types.specs.declared.ownertrust.Entry.{Entry}
use Rattle.wot_types.specs.declared.trust.Trust.{Trust}
use Rattle.wot_types.specs.declared.trust.Trust.TheVariants.{Marginal, Full, Ultimate}
use Rattle.wot_types.specs.Fingerprint.{fpr_cmp}
use Rattle.wot_types.specs.Ownertrust.{is_unset, kept_of}
use Rattle.wot_types.specs.Payload.{AreSettable, IsRisingBy}
use Rattle.wot_types.specs.Sample.{draw, sample_entries, sample_entry, sample_fpr, sample_trust}
use Rattle.wot_gen.proofs.FprOrder.{rising_fprs}

abbrev IsSet : Entry → Type 0
IsSet entry = is_unset (kept_of entry) ≡ false

abbrev IsRising : List Entry → Type 0
IsRising entries = IsRisingBy (λ (a b : Entry). fpr_cmp a.fpr b.fpr) entries

abbrev with_trust : ℕ → ℕ → Trust → Entry
with_trust seed i trust = record { fpr = sample_fpr seed i; trust = trust; disabled = false }

abbrev entries_from : ℕ → ℕ → ℕ → List Entry
entries_from seed i n = filter_map (sample_entry seed) (range_with_len i n)

-- whichever trust was drawn
set_one : (first full none : Bool) (seed i : ℕ) → IfSome (option_map (with_trust seed i) (cond first (Some Ultimate) (cond full (Some Full) (cond none None (Some Marginal))))) IsSet
set_one true full none seed i = refl
set_one false true none seed i = refl
set_one false false true seed i = tt
set_one false false false seed i = refl

set_more : (entry : Option Entry) (entries : List Entry) → IfSome entry IsSet → All IsSet entries → All IsSet (cons_option entry entries)
set_more None entries one rest = rest
set_more (Some entry) entries one rest = All-cons IsSet entry entries one rest

each_set : (seed i n : ℕ) → All IsSet (entries_from seed i n)
each_set seed i zero = All-nil IsSet
each_set seed i (suc n) =
    set_more (sample_entry seed i) (entries_from seed (i + 1) n) (set_one (i == 0) (draw seed i 12 % 4 == 0) (draw seed i 12 % 4 == 3) seed i) (each_set seed (i + 1) n)

rising_more : (seed i : ℕ) (last : Entry) (rest : List Entry) (trust : Option Trust) → fpr_cmp last.fpr (sample_fpr seed i) ≡ Less
    → IsRising (last ∷ rest) → ((trust : Trust) → IsRising (with_trust seed i trust ∷ rest)) → IsRising (last ∷ cons_option (option_map (with_trust seed i) trust) rest)
rising_more seed i last rest None less without with_one = without
rising_more seed i last rest (Some trust) less without with_one = (less, with_one trust)

-- what follows an entry is of later keys
rising_after : (seed : ℕ) (last : Entry) (j i n : ℕ) → last.fpr ≡ sample_fpr seed j → j < i → i + n ≤ 2 ^ 32 → IsRising (last ∷ entries_from seed i n)
rising_after seed last j i zero own later few = tt
rising_after seed last j i (suc n) own later few =
    rising_more seed i last (entries_from seed (i + 1) n) (sample_trust seed i) (ap (λ fpr. fpr_cmp fpr (sample_fpr seed i)) own ∙ rising_fprs seed j i later (omega arith))
    (rising_after seed last j (i + 1) n own (omega arith) (omega arith))
    (λ trust. rising_after seed (with_trust seed i trust) i (i + 1) n refl (omega arith) (omega arith))

rising_first : (seed i : ℕ) (rest : List Entry) (trust : Option Trust) → IsRising rest → ((trust : Trust) → IsRising (with_trust seed i trust ∷ rest))
    → IsRising (cons_option (option_map (with_trust seed i) trust) rest)
rising_first seed i rest None without with_one = without
rising_first seed i rest (Some trust) without with_one = with_one trust

rising_from : (seed i n : ℕ) → i + n ≤ 2 ^ 32 → IsRising (entries_from seed i n)
rising_from seed i zero few = tt
rising_from seed i (suc n) few =
    rising_first seed i (entries_from seed (i + 1) n) (sample_trust seed i) (rising_from seed (i + 1) n (omega arith))
    (λ trust. rising_after seed (with_trust seed i trust) i (i + 1) n refl (omega arith) (omega arith))

pub settable : (entries : List Entry) (seed n : ℕ) → entries ≡ sample_entries seed n → n ≤ 2 ^ 32 → AreSettable entries
settable entries seed n made few = subst AreSettable (sym made) record { each = each_set seed 0 n; rising = rising_from seed 0 n (omega arith) }
