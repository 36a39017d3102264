use Rattle.wot_store.proofs.records.take_record.Goals as goal

pub returns-in-Ok-clause-none : goal.returns-in-Ok-clause-none
returns-in-Ok-clause-none c = c.make.ensures.none c.args.payload c.in-Ok.ensures.spells

pub returns-in-Err-clause-none : goal.returns-in-Err-clause-none
returns-in-Err-clause-none c = c.in-Err.ensures.none c.args.draft
