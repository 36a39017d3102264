-- Keys that come in rising order of their key IDs into a table that has none.
use Rattle.std.proofs.Common.{◌≡◌, ℕ, ◌+◌, ◌-◌, ◌<◌, ◌≤◌, true, false, cond, List, [], ◌∷◌, ◌++◌, length, reverse, Option, Some, None, Less, refl, sym, ap, subst, ◌∙◌, arith, nat_lt, map as mapped, nat_cmp}
use Rattle.std.specs.Cmp.{nat_cmp_total}
use Rattle.std.specs.FinMap as finmap
use Rattle.std.specs.FinMap.{get-empty, get-insert, len-empty, len-insert}
use Rattle.std.specs.List.{AllByRecursion, slice_index}
use Rattle.std.specs.List.Sorted.{IsStrictlySortedBy}
use Rattle.std.specs.Ordering.{eq_by_cmp}
use Rattle.std.proofs.lemmas.Bool.Decides.{nat_tests}
use Rattle.std.proofs.lemmas.List.{reverse-append}
use Rattle.wot_types.specs.declared.key.Key.{Key}
use Rattle.wot_types.specs.Keyring.{Keyring, id_of, with_key}
use Rattle.wot_table.specs.declared.sums.Sums.{Sums}
use Rattle.wot_table.specs.Weights.{minus, weight_or_none}
use Rattle.wot_table.proofs.Summing.{sums_equal}

abbrev pub Lacks : Keyring → Key → Type 0
Lacks keys key = finmap.get keys (id_of key) ≡ None

pub none_yet : (more : List Key) → AllByRecursion (Lacks finmap.empty) more
none_yet [] = tt
none_yet (key ∷ more) = (get-empty nat_cmp (id_of key), none_yet more)

above : (a b : ℕ) → nat_cmp a b ≡ Less → eq_by_cmp nat_cmp b a ≡ false
above a b l = grind (arith, nat_tests)

-- a key that is put has another key ID than those above it
pub still_lacks : (keys : Keyring) (key : Key) (more : List Key) → AllByRecursion (λ id. nat_cmp (id_of key) id ≡ Less) (mapped id_of more)
    → AllByRecursion (Lacks keys) more → AllByRecursion (Lacks (with_key keys key)) more
still_lacks keys key [] above_it lack = tt
still_lacks keys key (next ∷ more) above_it lack = (
  get-insert nat_cmp_total keys (id_of key) key (id_of next) ∙ ap (λ b. cond b (Some key) (finmap.get keys (id_of next))) (above (id_of key) (id_of next) above_it.0) ∙ lack.0,
  still_lacks keys key more above_it.1 lack.1,
)

pub next_above : (key : Key) (more : List Key) → IsStrictlySortedBy nat_cmp (mapped id_of (key ∷ more)) → AllByRecursion (λ id. nat_cmp (id_of key) id ≡ Less) (mapped id_of more)
unfolding IsStrictlySortedBy
next_above key more sorted = sorted.0

pub others_sorted : (key : Key) (more : List Key) → IsStrictlySortedBy nat_cmp (mapped id_of (key ∷ more)) → IsStrictlySortedBy nat_cmp (mapped id_of more)
unfolding IsStrictlySortedBy
others_sorted key more sorted = sorted.1

-- key IDs that rise up to one, and that one above the one before it
pub one_higher : (ids : List ℕ) (i : ℕ) → 1 ≤ i → slice_index ids (i - 1) < slice_index ids i → ((k : ℕ) → k + 1 < i → slice_index ids k < slice_index ids (k + 1))
    → (k : ℕ) → k + 1 < i + 1 → slice_index ids k < slice_index ids (k + 1)
one_higher ids i start last old k h = elim (nat_lt (k + 1) i) as (λ b. nat_lt (k + 1) i ≡ b → slice_index ids k < slice_index ids (k + 1)) [
  | true ↦ λ e. old k (lower (k + 1) i e)
  | false ↦ λ e.
      let end : k + 1 ≡ i = omega (arith, h, not_lower (k + 1) i e) in
      let before : i - 1 ≡ k = omega (arith, end) in
      subst (λ j. slice_index ids k < slice_index ids j) (sym end) (subst (λ j. slice_index ids j < slice_index ids i) before last)
] refl
  where
    lower : (a b : ℕ) → nat_lt a b ≡ true → a < b
    lower a b e = grind (arith, nat_tests)

    not_lower : (a b : ℕ) → nat_lt a b ≡ false → b ≤ a
    not_lower a b e = grind (arith, nat_tests)

-- nothing gives way to a key that comes under a new key ID
pub nothing_less : (s : Sums) (former : Option Key) → former ≡ None → minus s (weight_or_none former) ≡ s
nothing_less s former none = ap (λ f. minus s (weight_or_none f)) none ∙ sums_equal _ _ (omega arith) (omega arith) (omega arith)

module _ {X : Type 0} where
  pub added_last : (es fs : List (ℕ × X)) (e : ℕ × X) → fs ≡ es ++ e ∷ [] → reverse fs ≡ e ∷ reverse es
  added_last es fs e is = ap reverse is ∙ reverse-append es (e ∷ [])

  -- at most as many keys as entries
  pub len_at_most : (es : List (ℕ × X)) → finmap.len (finmap.from_entries {R = nat_cmp} es) ≤ length es
  len_at_most [] = omega (arith, len-empty nat_cmp X)
  len_at_most (e ∷ es) =
      elim (finmap.contains_key (finmap.from_entries {R = nat_cmp} es) e.0) as (λ b. finmap.len (finmap.from_entries {R = nat_cmp} (e ∷ es)) ≡ cond b (finmap.len (finmap.from_entries {R = nat_cmp} es)) (finmap.len (finmap.from_entries {R = nat_cmp} es) + 1) → finmap.len (finmap.from_entries {R = nat_cmp} (e ∷ es)) ≤ length (e ∷ es)) [
        | true ↦ λ is. omega (arith, is, len_at_most es)
        | false ↦ λ is. omega (arith, is, len_at_most es)
      ] (len-insert nat_cmp_total (finmap.from_entries es) e.0 e.1)
