use Rattle.std.proofs.Common.{◌≡◌, ◌-◌, ◌+◌, ◌^◌, ℕ}
use Rattle.std.specs.Option.{option_map_or}
use Rattle.wot_types.specs.Indexes.{has_cert_by}
use Rattle.wot_live.specs.Recounting.{among}
use Rattle.wot_live.proofs.Lists.{passed}
use Rattle.wot_live.proofs.worklist.certified_by.Given as goal

abbrev pub invariant-loop-id : goal.invariant-loop-id
invariant-loop-id l = (x : ℕ) → among l.ids.items x ≡ passed (has_cert_by l.table l.issuer) l.after x

abbrev pub decreases-loop-id : goal.decreases-loop-id
decreases-loop-id l = option_map_or (λ id. 2 ^ 64 - (id + 1)) l.after (2 ^ 64)
