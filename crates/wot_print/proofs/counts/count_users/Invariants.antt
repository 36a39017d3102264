use Rattle.std.proofs.Common.{◌≡◌, ◌++◌, List, drop, map}
use Rattle.wot_types.specs.declared.letter.Letter.{Letter}
use Rattle.wot_types.specs.Letters.{user_letter, user_letters}
use Rattle.wot_types.specs.Selection.{spots_from}
use Rattle.wot_print.specs.Counts.{counts_of}
use Rattle.wot_print.proofs.counts.count_users.Given as goal

abbrev pub invariant-loop-user : goal.invariant-loop-user
invariant-loop-user g l = (letters : List Letter) → l.initial.counts ≡ counts_of letters
    → (passed : List Letter) × (l.counts ≡ counts_of passed)
    × (passed ++ map (user_letter l.state l.rows l.keyblock.0 l.keyblock.1) (drop l.user (spots_from 0 l.keyblock.1.users)) ≡ letters ++ user_letters l.state l.rows l.keyblock.0 l.keyblock.1)
