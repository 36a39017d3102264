use Rattle.std.proofs.Common.{◌≡◌, ◌++◌, List, drop, map}
use Rattle.wot_types.specs.declared.letter.Letter.{Letter}
use Rattle.wot_types.specs.Letters.{user_letter, user_letters}
use Rattle.wot_types.specs.Levels.{rows_of}
use Rattle.wot_types.specs.Selection.{spots_from}
use Rattle.wot_print.specs.Counts.{counts_of}
use Rattle.wot_print.proofs.counts.add_letters.Given as goal

abbrev pub invariant-loop-user : goal.invariant-loop-user
invariant-loop-user l = (passed : List Letter) → l.initial.counts ≡ counts_of passed
    → (more : List Letter) × (l.counts ≡ counts_of more)
    × (more ++ map (user_letter l.letters.state (rows_of l.letters.state) l.keyblock.0 l.keyblock.1) (drop l.user (spots_from 0 l.keyblock.1.users))
    ≡ passed ++ user_letters l.letters.state (rows_of l.letters.state) l.keyblock.0 l.keyblock.1)
