use Rattle.wot_levels.proofs.Halfway.{EntriesLeft}
use Rattle.wot_levels.proofs.first_level.rows_by_entries.Given as goal

abbrev pub invariant-loop-fpr : goal.invariant-loop-fpr
invariant-loop-fpr l = EntriesLeft l.state l.fpr-iterator l.rows
