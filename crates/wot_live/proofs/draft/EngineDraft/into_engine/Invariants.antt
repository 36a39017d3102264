use Rattle.wot_live.proofs.draft.EngineDraft.into_engine.Given as goal

abbrev pub ghosts-into_engine_by : goal.ghosts-into_engine_by
ghosts-into_engine_by a = record { name = a.blank.name; parts = a.blank.parts }
