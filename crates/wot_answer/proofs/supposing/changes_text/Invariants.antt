use Rattle.wot_answer.proofs.supposing.changes_text.Given as goal

abbrev pub ghosts-changes_text_by : goal.ghosts-changes_text_by
ghosts-changes_text_by a = record { name = a.blank.name; parts = a.blank.parts }
