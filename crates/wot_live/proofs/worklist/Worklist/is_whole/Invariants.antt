use Rattle.std.proofs.Common.{◌≡◌, ◌-◌, ◌+◌, ◌^◌, ℕ, true}
use Rattle.std.specs.FinMap.{contains_key}
use Rattle.std.specs.Option.{option_map_or}
use Rattle.wot_levels.proofs.Halfway.{is_done}
use Rattle.wot_live.specs.Recounting.{among}
use Rattle.wot_live.proofs.worklist.Worklist.is_whole.Given as goal

abbrev pub invariant-loop-id : goal.invariant-loop-id
invariant-loop-id l = (x : ℕ) → is_done l.after x ≡ true → contains_key l.table x ≡ true → among l.self x ≡ true

abbrev pub decreases-loop-id : goal.decreases-loop-id
decreases-loop-id l = option_map_or (λ id. 2 ^ 64 - (id + 1)) l.after (2 ^ 64)
