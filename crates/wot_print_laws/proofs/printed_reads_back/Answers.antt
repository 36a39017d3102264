use Rattle.wot_print_laws.proofs.Reading as reading
use Rattle.wot_print_laws.proofs.printed_reads_back.Goals as goal

pub returns-clause-spells : goal.returns-clause-spells
returns-clause-spells c = reading.reads_back

pub returns-clause-goes_on : goal.returns-clause-goes_on
returns-clause-goes_on c = reading.goes_on

pub returns-clause-imported : goal.returns-clause-imported
returns-clause-imported c = reading.imported_again

pub returns-clause-command : goal.returns-clause-command
returns-clause-command c = reading.taken_for_keys
