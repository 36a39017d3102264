-- Under which numbers the entries of a keyring that a walk has not passed yet stand.
use Rattle.std.proofs.Common.{◌≡◌, ◌==◌, ◌&&◌, ◌||◌, ℕ, Bool, true, false, cond, List, [], ◌∷◌, Some, Less, refl, sym, ap, ap₂, subst, ◌∙◌, arith, nat_cmp}
use Rattle.std.specs.BTreeMap.{is_at}
use Rattle.std.specs.Cmp.{nat_cmp_total}
use Rattle.std.specs.FinMap as finmap
use Rattle.std.specs.List.{AllByRecursion, list_any}
use Rattle.std.specs.List.Sorted.{IsStrictlySortedBy}
use Rattle.std.specs.Map.{keys_of, lookup}
use Rattle.std.proofs.lemmas.Bool.Decides.{nat_tests}
use Rattle.wot_types.specs.declared.key.Key.{Key}
use Rattle.wot_types.proofs.Maps.{get_entries}
use Rattle.wot_table.specs.declared.heading.Heading.{Heading}
use Rattle.wot_table.specs.Headings.{is_under, key_under}

abbrev pub entries_under : Heading → ℕ → ℕ → List (ℕ × Key) → Bool
entries_under heading n id es = list_any (λ e. (id == e.0) && key_under heading n e.1) es

module _ (heading : Heading) (n id : ℕ) where
  -- a key ID below those of all entries
  none_above : (es : List (ℕ × Key)) → AllByRecursion (λ k. nat_cmp id k ≡ Less) (keys_of es) → entries_under heading n id es ≡ false
  none_above [] above = refl
  none_above (e ∷ es) above = ap₂ (λ a b. (a && key_under heading n e.1) || b) (other id e.0 above.0) (none_above es above.1)
    where
      other : (a b : ℕ) → nat_cmp a b ≡ Less → (a == b) ≡ false
      other a b l = grind (arith, nat_tests)

  found_there : (es : List (ℕ × Key)) → IsStrictlySortedBy nat_cmp (keys_of es) → entries_under heading n id es ≡ is_under heading n (lookup (is_at (nat_cmp id)) es)
  unfolding IsStrictlySortedBy
  found_there [] sorted = refl
  found_there (e ∷ es) sorted =
      ap (λ b. ((id == e.0) && key_under heading n e.1) || b) (found_there es sorted.1)
      ∙ elim (id == e.0) as (λ b. (id == e.0) ≡ b → ((b && key_under heading n e.1) || is_under heading n (lookup (is_at (nat_cmp id)) es)) ≡ is_under heading n (cond b (Some e.1) (lookup (is_at (nat_cmp id)) es))) [
        | true ↦ λ t. ap (λ b. key_under heading n e.1 || b) (sym (found_there es sorted.1) ∙ none_above es (subst (λ k. AllByRecursion (λ m. nat_cmp k m ≡ Less) (keys_of es)) (sym (same id e.0 t)) sorted.0)) ∙ or_false (key_under heading n e.1)
        | false ↦ λ _. refl
      ] refl
      ∙ ap (λ b. is_under heading n (cond b (Some e.1) (lookup (is_at (nat_cmp id)) es))) (same_test id e.0)
    where
      same : (a b : ℕ) → (a == b) ≡ true → a ≡ b
      same a b t = grind (arith, nat_tests)

      or_false : (b : Bool) → (b || false) ≡ b
      or_false true = refl
      or_false false = refl

      same_test : (a b : ℕ) → (a == b) ≡ is_at (nat_cmp a) b
      same_test a b = grind (arith, nat_tests)

  pub entries_filed : (es : List (ℕ × Key)) → IsStrictlySortedBy nat_cmp (keys_of es) → entries_under heading n id es ≡ is_under heading n (finmap.get (finmap.from_entries {R = nat_cmp} es) id)
  entries_filed es sorted = found_there es sorted ∙ ap (is_under heading n) (sym (get_entries nat_cmp_total es id))

  -- the walk goes on by one entry
  pub one_passed : (old new : Bool) (all rest : List (ℕ × Key)) (e : ℕ × Key) → all ≡ e ∷ rest → new ≡ (old || ((id == e.0) && key_under heading n e.1))
      → (new || entries_under heading n id rest) ≡ (old || entries_under heading n id all)
  one_passed old new all rest e is more = ap (λ b. b || entries_under heading n id rest) more ∙ turned old _ _ ∙ ap (λ es. old || entries_under heading n id es) (sym is)
    where
      turned : (a b c : Bool) → ((a || b) || c) ≡ (a || (b || c))
      turned true b c = refl
      turned false b c = refl
