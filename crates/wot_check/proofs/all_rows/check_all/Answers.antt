use Rattle.std.proofs.Common.{Some, None, sym, refl, ◌∙◌}
use Rattle.std.proofs.lemmas.Option.{none-some}
use Rattle.wot_check.specs.FirstFault.{first_fault}
use Rattle.wot_check.proofs.FaultLaws.{first_fault_is, one_first_fault}
use Rattle.wot_check.proofs.Firsts.{least_fallen, none_fallen, not_whole, whole_from}
use Rattle.wot_check.proofs.all_rows.check_all.Goals as goal

pub returns-in_ok-fault_of-in-Some-clause-fault : goal.returns-in_ok-fault_of-in-Some-clause-fault
returns-in_ok-fault_of-in-Some-clause-fault g c =
    let found = c.in_ok-id.ensures in
    least_fallen c.args.state.now c.args.rows.now found.0 found.1 c.in-Some.id c.in_ok-fault_of-in-Some.field-0 (sym c.in-Some.is ∙ found.2) c.in_ok-fault_of-in-Some.ensures

pub returns-in_ok-fault_of-in-Some-clause-whole : goal.returns-in_ok-fault_of-in-Some-clause-whole
returns-in_ok-fault_of-in-Some-clause-whole g c =
    let s = c.args.state.now in
    let rows = c.args.rows.now in
    let fault = c.in_ok-fault_of-in-Some.field-0 in
    (λ none. absurd (none-some fault (sym none)), λ whole. absurd (not_whole s rows c.requires.ranges.depth fault (returns-in_ok-fault_of-in-Some-clause-fault g c) whole))

pub returns-in-None-clause-fault : goal.returns-in-None-clause-fault
returns-in-None-clause-fault g c =
    let found = c.in_ok-id.ensures in
    none_fallen c.args.state.now c.args.rows.now found.0 found.1 (sym c.in-None.is ∙ found.2)

pub returns-in-None-clause-whole : goal.returns-in-None-clause-whole
returns-in-None-clause-whole g c =
    let s = c.args.state.now in
    (λ none. whole_from s c.args.rows.now c.requires.ranges.depth (returns-in-None-clause-fault g c), λ whole. refl)

pub returns-in_ok-fault_of-in-Some-clause-first : goal.returns-in_ok-fault_of-in-Some-clause-first
returns-in_ok-fault_of-in-Some-clause-first g c =
    let s = c.args.state.now in
    let rows = c.args.rows.now in
    one_first_fault s rows (Some c.in_ok-fault_of-in-Some.field-0) (first_fault s rows) (returns-in_ok-fault_of-in-Some-clause-fault g c) (first_fault_is s rows)

pub returns-in-None-clause-first : goal.returns-in-None-clause-first
returns-in-None-clause-first g c =
    let s = c.args.state.now in
    let rows = c.args.rows.now in
    one_first_fault s rows None (first_fault s rows) (returns-in-None-clause-fault g c) (first_fault_is s rows)
