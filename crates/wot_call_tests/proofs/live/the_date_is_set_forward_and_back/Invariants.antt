use Rattle.wot_call_tests.proofs.live.the_date_is_set_forward_and_back.Given as goal

abbrev pub ghosts-told_at_dates : goal.ghosts-told_at_dates
ghosts-told_at_dates g a = record { name = a.blank.name; parts = a.blank.parts }
