use Rattle.std.proofs.Common.{◌≡◌, ℕ, ◌++◌, All, List, Some}
use Rattle.std.specs.FinMap as finmap
use Rattle.std.specs.List.{flat_map}
use Rattle.wot_types.specs.declared.key.Key.{Key}
use Rattle.wot_types.specs.declared.letter.Letter.{Letter}
use Rattle.wot_types.specs.Letters.{user_letters}
use Rattle.wot_types.specs.Levels.{rows_of}
use Rattle.wot_types.specs.Tally.{all_letters}
use Rattle.wot_live.proofs.KeyWalks.{IsRisingFrom}
use Rattle.wot_print.specs.Counts.{counts_of}
use Rattle.wot_print.proofs.counts.count_letters.Given as goal

abbrev pub invariant-loop-keyblock : goal.invariant-loop-keyblock
invariant-loop-keyblock l = record {
  state : l.walk.state ≡ l.engine;
  rising : IsRisingFrom l.walk.from l.keyblock-iterator;
  found : All (λ (e : ℕ × Key). finmap.get l.engine.keys e.0 ≡ Some e.1) l.keyblock-iterator;
  counted : (passed : List Letter) × (l.counts ≡ counts_of passed)
      × (passed ++ flat_map (λ e. user_letters l.engine (rows_of l.engine) e.0 e.1) l.keyblock-iterator ≡ all_letters l.engine (rows_of l.engine));
}
