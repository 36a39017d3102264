use Rattle.std.proofs.Common.{◌≡◌, ℕ, All, IsOk}
use Rattle.std.specs.List.{list_any}
use Rattle.wot_index.specs.Indexed.{has_pair}
use Rattle.wot_table.specs.FoundPairs.{has_found}
use Rattle.wot_table.proofs.indexing.merged.Given as goal

-- those of the pieces so far
abbrev pub invariant-loop-piece : goal.invariant-loop-piece
invariant-loop-piece l = record {
  whole : All IsOk l.yielded;
  exact : (n k : ℕ) → has_pair n k l.pairs.items ≡ list_any (has_found n k) l.yielded;
}
