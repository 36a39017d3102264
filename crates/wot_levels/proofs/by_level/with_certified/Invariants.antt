use Rattle.std.proofs.Common.{◌≡◌, ◌⊎◌, ◌-◌, ◌+◌, ◌^◌, ℕ, true}
use Rattle.std.specs.List.{Contains}
use Rattle.std.specs.Option.{option_map_or}
use Rattle.wot_types.specs.Indexes.{has_cert_by}
use Rattle.wot_levels.proofs.Halfway.{is_done}
use Rattle.wot_levels.proofs.by_level.with_certified.Given as goal

abbrev pub invariant-loop-id : goal.invariant-loop-id
invariant-loop-id l = record {
  all : (x : ℕ) → has_cert_by l.table l.issuer x ≡ true → is_done l.after x ≡ true → Contains l.ids.items x;
  kept : (x : ℕ) → Contains l.fn.ids.items x → Contains l.ids.items x;
  only : (x : ℕ) → Contains l.ids.items x → Contains l.fn.ids.items x ⊎ (has_cert_by l.table l.issuer x ≡ true);
}

abbrev pub decreases-loop-id : goal.decreases-loop-id
decreases-loop-id l = option_map_or (λ id. 2 ^ 64 - (id + 1)) l.after (2 ^ 64)
