use Rattle.std.proofs.Common.{◌≡◌, ◌++◌, All}
use Rattle.wot_types.specs.Levels.{rows_of}
use Rattle.wot_types.specs.Tally.{all_letters}
use Rattle.wot_live.proofs.KeyWalks.{IsRisingFrom}
use Rattle.wot_suppose.proofs.Comparing.{IsEntryOf, letters_in}
use Rattle.wot_suppose.proofs.letters.all_letters.Given as goal

abbrev pub invariant-loop-keyblock : goal.invariant-loop-keyblock
invariant-loop-keyblock l = record {
  state : l.walk.state ≡ l.engine;
  rising : IsRisingFrom l.walk.from l.keyblock-iterator;
  found : All (IsEntryOf l.engine.keys) l.keyblock-iterator;
  told : l.all.items ++ letters_in l.engine l.keyblock-iterator ≡ all_letters l.engine (rows_of l.engine);
}
