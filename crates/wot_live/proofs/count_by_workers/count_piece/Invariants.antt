use Rattle.wot_live.proofs.count_by_workers.count_piece.Given as goal

abbrev pub ghosts-count_keys : goal.ghosts-count_keys
ghosts-count_keys a = record { name = a.blank.name; parts = a.blank.parts }
