use Rattle.std.proofs.Common.{take}
use Rattle.wot_table.specs.FoundPairs.{ArePairsOf}
use Rattle.wot_table.proofs.indexing.pairs_of_piece.Given as goal

-- those of the keys so far
abbrev pub invariant-loop-id : goal.invariant-loop-id
invariant-loop-id l = ArePairsOf l.table (take l.id-index l.ids) l.pairs.items
