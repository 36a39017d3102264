-- Rows that are added one after the other.
use Rattle.std.proofs.Common.{◌≡◌, ◌||◌, ℕ, Bool, true, false, List, [], ◌∷◌, ◌++◌, All, reverse, refl, sym, ap, subst, ◌∙◌, nat_cmp, map as mapped}
use Rattle.std.specs.Cmp.{nat_cmp_total}
use Rattle.std.specs.FinMap.{empty, entries, from_entries, len-empty, nat_cmp-IsAntisymmetric}
use Rattle.std.proofs.lemmas.List.{append-nil}
use Rattle.std.specs.List.{list_any}
use Rattle.std.proofs.lemmas.List.Elements.{All-nil, All-cons, All-head, All-tail}
use Rattle.wot_types.specs.declared.row.Row.{Row}
use Rattle.wot_types.specs.Candidates.{RowMap}
use Rattle.wot_types.specs.IdFilter.{Passes}
use Rattle.wot_types.specs.Rows.{IsKeptRow, has_scope, with_row, with_rows}
use Rattle.wot_types.proofs.FinMaps.{All-insert, no_entries}
use Rattle.wot_types.proofs.Maps.{in_turn}

abbrev pub keyed : Row → ℕ × Row
keyed row = (row.key, row)

rows_after : (rows : List Row) (before : List (ℕ × Row)) → with_rows (from_entries before) rows ≡ from_entries {R = nat_cmp} (reverse (mapped keyed rows) ++ before)
rows_after [] before = refl
rows_after (row ∷ rows) before = rows_after rows (keyed row ∷ before) ∙ ap (from_entries {R = nat_cmp}) (sym (in_turn (keyed row) (mapped keyed rows) before))

-- rows are those of the map, the last of a key alone
pub rows_alone : (rows : List Row) → with_rows empty rows ≡ from_entries {R = nat_cmp} (reverse (mapped keyed rows))
rows_alone rows = rows_after rows [] ∙ ap (from_entries {R = nat_cmp}) (append-nil (reverse (mapped keyed rows)))

kept_after : (P : ℕ × Row → Type 0) (rows : List Row) (before : RowMap) → All P (entries before) → All (λ row. P (keyed row)) rows → All P (entries (with_rows before rows))
kept_after P [] before were are = were
kept_after P (row ∷ rows) before were are =
    kept_after P rows (with_row before row)
    (All-insert nat_cmp_total nat_cmp-IsAntisymmetric P before row.key row were (All-head (λ row. P (keyed row)) row rows are))
    (All-tail (λ row. P (keyed row)) row rows are)

neither_first : (a b : Bool) → (a || b) ≡ false → a ≡ false
neither_first true b h = cc
neither_first false b h = refl

neither_second : (a b : Bool) → (a || b) ≡ false → b ≡ false
neither_second true b h = cc
neither_second false b h = h

kept_rows : (scoped : Bool) (filter : List Bool) (rows : List Row) → (scoped ≡ false → list_any has_scope rows ≡ false) → All (λ row. Passes filter row.key) rows
    → All (λ row. IsKeptRow scoped filter (keyed row)) rows
kept_rows scoped filter [] none pass = All-nil (λ row. IsKeptRow scoped filter (keyed row))
kept_rows scoped filter (row ∷ rows) none pass =
    All-cons (λ row. IsKeptRow scoped filter (keyed row)) row rows
    (refl, λ is. neither_first (has_scope row) (list_any has_scope rows) (none is), All-head (λ row. Passes filter row.key) row rows pass)
    (kept_rows scoped filter rows (λ is. neither_second (has_scope row) (list_any has_scope rows) (none is)) (All-tail (λ row. Passes filter row.key) row rows pass))

-- each stands under its own key, none has a scope where none of them had one, and the filter lets each pass
pub kept_alone : (scoped : Bool) (filter : List Bool) (rows : List Row) → scoped ≡ list_any has_scope rows → All (λ row. Passes filter row.key) rows
    → All (IsKeptRow scoped filter) (entries (with_rows empty rows))
kept_alone scoped filter rows told pass =
    let none = subst (All (IsKeptRow scoped filter)) (sym (no_entries (empty {R = nat_cmp}) (len-empty nat_cmp Row))) (All-nil (IsKeptRow scoped filter)) in
    kept_after (IsKeptRow scoped filter) rows empty none (kept_rows scoped filter rows (λ is. sym told ∙ is) pass)
