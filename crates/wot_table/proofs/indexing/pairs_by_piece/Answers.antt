use Rattle.std.proofs.Common.{arith}
use Rattle.wot_table.proofs.indexing.pairs_by_piece.Goals as goal

pub map_chunks-requires-clause-size : goal.map_chunks-requires-clause-size
map_chunks-requires-clause-size g c = λ κs within. omega (arith, c.requires.size.positive)

pub map_chunks-requires-clause-accepts : goal.map_chunks-requires-clause-accepts
map_chunks-requires-clause-accepts g c = λ κs within start piece chunk. tt
