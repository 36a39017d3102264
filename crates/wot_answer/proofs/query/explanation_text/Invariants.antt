use Rattle.wot_answer.proofs.query.explanation_text.Given as goal

abbrev pub ghosts-explanation_text_by : goal.ghosts-explanation_text_by
ghosts-explanation_text_by a = record { name = a.blank.name; parts = a.blank.parts }
