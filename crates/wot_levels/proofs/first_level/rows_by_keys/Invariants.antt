use Rattle.wot_types.specs.Levels.{first_row}
use Rattle.wot_levels.proofs.Halfway.{WalksOn}
use Rattle.wot_levels.proofs.first_level.rows_by_keys.Given as goal

abbrev pub invariant-loop-keyblock : goal.invariant-loop-keyblock
invariant-loop-keyblock l = WalksOn (first_row l.state) l.state.keys l.keyblock-iterator l.rows
