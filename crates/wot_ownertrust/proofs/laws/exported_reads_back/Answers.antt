use Rattle.wot_ownertrust.proofs.Exported as exported
use Rattle.wot_ownertrust.proofs.laws.exported_reads_back.Goals as goal

pub returns-clause-spells : goal.returns-clause-spells
returns-clause-spells c = exported.spells

pub returns-clause-entries : goal.returns-clause-entries
returns-clause-entries c = exported.same_entries

pub returns-clause-restored : goal.returns-clause-restored
returns-clause-restored c = exported.restored

pub returns-clause-goes_on : goal.returns-clause-goes_on
returns-clause-goes_on c = exported.goes_on

pub returns-clause-kept_at_first : goal.returns-clause-kept_at_first
returns-clause-kept_at_first c = exported.kept_at_first

pub returns-clause-stays_kept : goal.returns-clause-stays_kept
returns-clause-stays_kept c = exported.stays_kept
