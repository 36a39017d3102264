use Rattle.std.proofs.Common.{◌≡◌, All, length, map, nat_cmp, reverse}
use Rattle.std.specs.FinMap as finmap
use Rattle.std.specs.List.{AllByRecursion}
use Rattle.std.specs.List.Sorted.{IsStrictlySortedBy}
use Rattle.wot_types.specs.Keyring.{id_of, with_keys}
use Rattle.wot_types.specs.WellFormed.{IsWellFormed}
use Rattle.wot_table.proofs.Batches.{Lacks}
use Rattle.wot_table.proofs.batch.Batch.of.Given as goal

abbrev pub invariant-loop-key : goal.invariant-loop-key
invariant-loop-key l = record {
  whole : with_keys l.batch (reverse l.left.items) ≡ with_keys finmap.empty l.fn.keys;
  each : All IsWellFormed (reverse l.left.items);
  rising : IsStrictlySortedBy nat_cmp (map id_of (reverse l.left.items));
  lack : AllByRecursion (Lacks l.batch) (reverse l.left.items);
}

abbrev pub decreases-loop-key : goal.decreases-loop-key
decreases-loop-key l = length l.left.items
