use Rattle.std.proofs.Common.{◌≡◌, take}
use Rattle.wot_live.specs.FoundCounts.{kept_pairs}
use Rattle.wot_live.proofs.count_by_workers.pairs_of.Given as goal

-- those of the keys so far
abbrev pub invariant-loop-id : goal.invariant-loop-id
invariant-loop-id g l = l.pairs.items ≡ kept_pairs l.state l.rows (take l.id-index l.ids)
