use Rattle.std.proofs.Common.{◌≡◌, ◌++◌, drop, map}
use Rattle.wot_types.specs.Letters.{user_letter, user_letters}
use Rattle.wot_types.specs.Levels.{rows_of}
use Rattle.wot_types.specs.Selection.{spots_from}
use Rattle.wot_suppose.proofs.letters.push_letters.Given as goal

abbrev pub invariant-loop-user : goal.invariant-loop-user
invariant-loop-user l =
    l.all.items ++ map (user_letter l.letters.state (rows_of l.letters.state) l.keyblock.0 l.keyblock.1) (drop l.user (spots_from 0 l.keyblock.1.users))
    ≡ l.initial.all.items ++ user_letters l.letters.state (rows_of l.letters.state) l.keyblock.0 l.keyblock.1
