use Rattle.wot_call_tests.proofs.live.keys_and_ownertrust_are_put.Given as goal

abbrev pub ghosts-told_while_put : goal.ghosts-told_while_put
ghosts-told_while_put g a = record { name = a.blank.name; parts = a.blank.parts }
