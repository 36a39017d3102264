use Rattle.std.proofs.Common.{◌≡◌, All, IsOk}
use Rattle.std.specs.List.{flat_map}
use Rattle.wot_live.specs.FoundCounts.{found_pairs}
use Rattle.wot_live.proofs.count_by_workers.merged.Given as goal

-- those of the pieces so far
abbrev pub invariant-loop-piece : goal.invariant-loop-piece
invariant-loop-piece l = record {
  whole : All IsOk l.yielded;
  exact : l.pairs.items ≡ flat_map found_pairs l.yielded;
}
