-- What a recount does to one row, by whether it is there and of which level it is.
use Rattle.std.proofs.Common.{◌≡◌, ◌==◌, not, ℕ, Bool, true, false, cond, Option, Some, None, refl, sym, ap, ◌∙◌, arith}
use Rattle.std.specs.FinMap as map
use Rattle.std.specs.FinMap.{get-insert, get-remove}
use Rattle.std.specs.Cmp.{nat_cmp_total}
use Rattle.std.proofs.lemmas.Bool.Decides.{nat_tests}
use Rattle.wot_types.specs.declared.row.Row.{Row}
use Rattle.wot_types.specs.Candidates.{RowMap}
use Rattle.wot_types.specs.Rows.{with_row}
use Rattle.wot_types.specs.Touched.{is_same_standing}
use Rattle.wot_types.proofs.SameRows.{row_itself}
use Rattle.wot_types.proofs.Tests.{key_itself, same_key}
use Rattle.wot_live.specs.Recounting.{has_level, is_lower, kept_above, recounted}

pub recounted_lower : (n : ℕ) (old new : Option Row) → is_lower n old ≡ true → recounted n old new ≡ old
recounted_lower n None new h = cc
recounted_lower n (Some old) new h = ap (λ b. cond b (Some old) (kept_above n old new)) h

pub recounted_some : (n : ℕ) (old : Option Row) (new : Row) → is_lower n old ≡ false → recounted n old (Some new) ≡ Some new
recounted_some n None new h = refl
recounted_some n (Some old) new h = ap (λ b. cond b (Some old) (Some new)) h

pub recounted_none : (n : ℕ) (old : Option Row) → is_lower n old ≡ false → recounted n old None ≡ cond (has_level n old) None old
recounted_none n None h = refl
recounted_none n (Some old) h = ap (λ b. cond b (Some old) (cond (old.level == n) None (Some old))) h

module _ (rows : RowMap) (id : ℕ) where
  pub put_at : (row : Row) → row.key ≡ id → map.get (with_row rows row) id ≡ Some row
  put_at row own =
      get-insert nat_cmp_total rows row.key row id
      ∙ ap (λ b. cond b (Some row) (map.get rows id)) (same_key id row.key ∙ ap (λ k. k == id) own ∙ itself id)
    where
      itself : (n : ℕ) → (n == n) ≡ true
      itself n = grind (arith, nat_tests)

  pub put_others : (row : Row) → row.key ≡ id → (x : ℕ) → (id == x) ≡ false → map.get (with_row rows row) x ≡ map.get rows x
  put_others row own x other =
      get-insert nat_cmp_total rows row.key row x
      ∙ ap (λ b. cond b (Some row) (map.get rows x)) (same_key x row.key ∙ ap (λ k. k == x) own ∙ other)

  pub drop_at : (own : Bool) → map.get (cond own (map.remove rows id) rows) id ≡ cond own None (map.get rows id)
  drop_at true = get-remove nat_cmp_total rows id id ∙ ap (λ b. cond b None (map.get rows id)) (key_itself id)
  drop_at false = refl

  pub drop_others : (own : Bool) (x : ℕ) → (id == x) ≡ false → map.get (cond own (map.remove rows id) rows) x ≡ map.get rows x
  drop_others true x other = get-remove nat_cmp_total rows id x ∙ ap (λ b. cond b None (map.get rows x)) (same_key x id ∙ other)
  drop_others false x other = refl

itself_same : (o : Option Row) → is_same_standing o o ≡ true
itself_same None = refl
itself_same (Some row) = row_itself row

pub same_is_same : (o : Option Row) → false ≡ not (is_same_standing o o)
same_is_same o = sym (ap not (itself_same o))

pub drop_changes : (n : ℕ) (o : Option Row) → has_level n o ≡ not (is_same_standing o (cond (has_level n o) None o))
drop_changes n None = refl
drop_changes n (Some row) = elim (row.level == n) as (λ b. b ≡ not (is_same_standing (Some row) (cond b None (Some row)))) [
  | true ↦ refl
  | false ↦ same_is_same (Some row)
]
