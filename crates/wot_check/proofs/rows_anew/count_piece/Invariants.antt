use Rattle.wot_check.proofs.rows_anew.count_piece.Given as goal

abbrev pub ghosts-fresh_rows_by : goal.ghosts-fresh_rows_by
ghosts-fresh_rows_by g a = record { name = a.blank.name; parts = a.blank.parts }
