use Rattle.wot_call_tests.proofs.live.a_key_is_removed.Given as goal

abbrev pub ghosts-told_while_removed : goal.ghosts-told_while_removed
ghosts-told_while_removed g a = record { name = a.blank.name; parts = a.blank.parts }
