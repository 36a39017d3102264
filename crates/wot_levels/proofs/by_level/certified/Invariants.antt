use Rattle.std.proofs.Common.{◌≡◌, ◌⊎◌, ℕ, true, is_some}
use Rattle.std.specs.FinMap as finmap
use Rattle.std.specs.FinMap.{find}
use Rattle.std.specs.List.{Contains}
use Rattle.std.specs.Ordering.{nat_cmp}
use Rattle.wot_types.specs.Indexes.{has_cert_by}
use Rattle.wot_types.specs.Touched.{is_certified_at}
use Rattle.wot_levels.proofs.by_level.certified.Given as goal

abbrev pub invariant-loop-id : goal.invariant-loop-id
invariant-loop-id l = record {
  left : (y : ℕ) → is_some (find nat_cmp y l.id-iterator) ≡ true → finmap.contains_key l.rows y ≡ true;
  all : (y : ℕ) → finmap.contains_key l.rows y ≡ true → (is_some (find nat_cmp y l.id-iterator) ≡ true) ⊎ ((x : ℕ) → has_cert_by l.table y x ≡ true → Contains l.ids.items x);
  only : (x : ℕ) → Contains l.ids.items x → is_certified_at l.table (finmap.contains_key l.rows) x ≡ true;
}
