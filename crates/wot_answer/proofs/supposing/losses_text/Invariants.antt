use Rattle.wot_answer.proofs.supposing.losses_text.Given as goal

abbrev pub ghosts-losses_text_by : goal.ghosts-losses_text_by
ghosts-losses_text_by a = record { name = a.blank.name; parts = a.blank.parts }
