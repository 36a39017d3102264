use Rattle.wot_call_tests.proofs.live.an_engine_is_made_of_its_parts.Given as goal

abbrev pub ghosts-told_of_parts : goal.ghosts-told_of_parts
ghosts-told_of_parts g a = record { name = a.blank.name; parts = a.blank.parts }
