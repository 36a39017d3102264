use Rattle.std.proofs.Common.{◌≡◌, ◌++◌, All}
use Rattle.std.specs.List.{flat_map}
use Rattle.wot_types.specs.Levels.{rows_of}
use Rattle.wot_types.specs.State.{State}
use Rattle.wot_types.specs.Supposing.{changes, changes_on}
use Rattle.wot_types.specs.Tally.{all_letters}
use Rattle.wot_live.proofs.KeyWalks.{IsRisingFrom}
use Rattle.wot_suppose.proofs.Comparing.{IsEntryOf, letters_in}
use Rattle.wot_suppose.proofs.changes.changes_since.Given as goal

abbrev pub invariant-loop-keyblock : goal.invariant-loop-keyblock
invariant-loop-keyblock l = record {
  state : l.walk.state ≡ l.engine;
  rising : IsRisingFrom l.walk.from l.keyblock-iterator;
  found : All (IsEntryOf l.engine.keys) l.keyblock-iterator;
  left : (s : State) → s.keys ≡ l.engine.keys → l.former ≡ all_letters s (rows_of s)
      → (l.left ≡ letters_in s l.keyblock-iterator) × (l.found ++ flat_map (changes_on s l.engine) l.keyblock-iterator ≡ changes s l.engine);
}
