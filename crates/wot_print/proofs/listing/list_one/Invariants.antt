use Rattle.wot_print.proofs.listing.list_one.Given as goal

abbrev pub ghosts-push_one : goal.ghosts-push_one
ghosts-push_one a = record { name = a.blank.name; parts = a.blank.parts }
