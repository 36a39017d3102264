use Rattle.wot_check.proofs.all_rows.fault_of.Given as goal

abbrev pub ghosts-fault_by : goal.ghosts-fault_by
ghosts-fault_by a = record { name = a.blank.name; parts = a.blank.parts }
