use Rattle.wot_check.proofs.all_rows.check_piece.Given as goal

abbrev pub ghosts-first_fallen_by : goal.ghosts-first_fallen_by
ghosts-first_fallen_by g a = record { name = a.blank.name; parts = a.blank.parts }
