-- The entries of a map over the keys of another.
use Rattle.std.proofs.Common.{◌≡◌, ◌∷◌, ℕ, T, List, [], Option, Some, None, option_map, refl, sym, ap, ◌∙◌}
use Rattle.std.specs.List.{cons_option, filter_map}
use Rattle.std.specs.FinMap as finmap
use Rattle.std.specs.FinMap.{FinMap, put, from_entries, entries, entries_sorted, entries-insert, is_sorted, len-entries, len-empty}
use Rattle.std.specs.FinMap.Entries.{below_all, by_order}
use Rattle.std.specs.Cmp.{nat_cmp_total}
use Rattle.std.specs.Ordering.{nat_cmp, is_lt}
use Rattle.std.proofs.lemmas.List.{nil_from_length}
use Rattle.wot_types.specs.Levels.{map_by}
use Rattle.wot_types.proofs.MapBy.{entry_by}
use Rattle.wot_types.proofs.Tests.{both_parts, first_part, second_part, less_from}

module _ {X Y : Type 0} (rule : ℕ → X → Option Y) where
  abbrev mapped : List (ℕ × X) → List (ℕ × Y)
  mapped es = filter_map (entry_by rule) es

  below_mapped : (k : ℕ) (es : List (ℕ × X)) → T (below_all nat_cmp k es) → T (below_all nat_cmp k (mapped es))
  below_mapped k [] h = tt
  below_mapped k (e ∷ es) h =
      let rest = below_mapped k es (second_part _ _ h) in
      elim (rule e.0 e.1) as (λ r. T (below_all nat_cmp k (cons_option (option_map (λ y. (e.0, y)) r) (mapped es)))) [
        | None ↦ rest
        | Some y ↦ both_parts (is_lt (nat_cmp k e.0)) (below_all nat_cmp k (mapped es)) (first_part _ _ h) rest
      ]

  put_below : (k : ℕ) (y : Y) (es : List (ℕ × Y)) → T (below_all nat_cmp k es) → put nat_cmp k y es ≡ (k, y) ∷ es
  put_below k y [] h = refl
  put_below k y (e ∷ es) h = ap (λ r. by_order r ((k, y) ∷ e ∷ es) ((e.0, y) ∷ es) (e ∷ put nat_cmp k y es)) (less_from _ (first_part _ _ h))

  entries_mapped : (es : List (ℕ × X)) → T (is_sorted nat_cmp es) → entries (from_entries {R = nat_cmp} (mapped es)) ≡ mapped es
  entries_mapped [] h = nil_from_length _ (sym (len-entries finmap.empty) ∙ len-empty nat_cmp Y)
  entries_mapped (e ∷ es) h =
      let rest = entries_mapped es (second_part _ _ h) in
      elim (rule e.0 e.1) as (λ r. entries (from_entries {R = nat_cmp} (cons_option (option_map (λ y. (e.0, y)) r) (mapped es))) ≡ cons_option (option_map (λ y. (e.0, y)) r) (mapped es)) [
        | None ↦ rest
        | Some y ↦ entries-insert nat_cmp_total (from_entries (mapped es)) e.0 y ∙ ap (put nat_cmp e.0 y) rest ∙ put_below e.0 y (mapped es) (below_mapped e.0 es (first_part _ _ h))
      ]

  pub entries-map_by : (m : FinMap nat_cmp X) → entries (map_by m rule) ≡ mapped (entries m)
  entries-map_by m = entries_mapped (entries m) (entries_sorted m)
