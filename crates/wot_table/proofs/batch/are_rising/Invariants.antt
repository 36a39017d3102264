use Rattle.std.proofs.Common.{ℕ, ◌+◌, ◌-◌, ◌<◌, ◌≤◌, length, map}
use Rattle.std.specs.List.{slice_index}
use Rattle.wot_types.specs.Keyring.{id_of}
use Rattle.wot_table.proofs.batch.are_rising.Given as goal

abbrev pub invariant-loop-i : goal.invariant-loop-i
invariant-loop-i l = record {
  start : 1 ≤ l.i;
  rising : (k : ℕ) → k + 1 < l.i → slice_index (map id_of l.keys) k < slice_index (map id_of l.keys) (k + 1);
}

abbrev pub decreases-loop-i : goal.decreases-loop-i
decreases-loop-i l = length l.keys - l.i
