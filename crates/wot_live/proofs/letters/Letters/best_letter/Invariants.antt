use Rattle.std.proofs.Common.{◌≡◌, ◌-◌, drop}
use Rattle.wot_types.specs.Levels.{rows_of}
use Rattle.wot_types.specs.Selection.{spots_from}
use Rattle.wot_live.proofs.LetterLemmas.{best_in}
use Rattle.wot_live.proofs.letters.Letters.best_letter.Given as goal

abbrev pub invariant-loop-back : goal.invariant-loop-back
invariant-loop-back l = l.best ≡ best_in l.self.state (rows_of l.self.state) l.keyblock.0 l.keyblock.1 (drop (l.key.users - l.back) (spots_from 0 l.keyblock.1.users))
