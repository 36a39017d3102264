use Rattle.std.proofs.Common.{◌≡◌, ◌++◌, drop, map}
use Rattle.wot_types.specs.Letters.{user_letter, user_letters}
use Rattle.wot_types.specs.Levels.{rows_of}
use Rattle.wot_types.specs.Selection.{spots_from}
use Rattle.wot_types.specs.Supposing.{changed_letters}
use Rattle.wot_suppose.proofs.changes.add_changes.Given as goal

abbrev pub invariant-loop-user : goal.invariant-loop-user
invariant-loop-user l =
    l.found ++ changed_letters l.keyblock.0 l.user (drop l.user l.former) (map (user_letter l.letters.state (rows_of l.letters.state) l.keyblock.0 l.keyblock.1) (drop l.user (spots_from 0 l.keyblock.1.users)))
    ≡ l.initial.found ++ changed_letters l.keyblock.0 0 l.former (user_letters l.letters.state (rows_of l.letters.state) l.keyblock.0 l.keyblock.1)
