use Rattle.wot_call_tests.proofs.live.the_options_are_set.Given as goal

abbrev pub ghosts-told_at_levels : goal.ghosts-told_at_levels
ghosts-told_at_levels g a = record { name = a.blank.name; parts = a.blank.parts }
