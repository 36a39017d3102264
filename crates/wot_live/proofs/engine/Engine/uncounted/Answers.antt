use Rattle.std.proofs.Common.{◌-◌, suc, is_some, sym, ap, subst, ◌∙◌}
use Rattle.std.specs.FinMap as map
use Rattle.wot_levels.specs.Given.{state_of}
use Rattle.wot_live.specs.declared.todo.Named.{Named}
use Rattle.wot_live.specs.Follows.{IsListedSince, no_keys}
use Rattle.wot_live.proofs.EditLemmas.{none_listed}
use Rattle.wot_live.proofs.Stages.{key_of_row}
use Rattle.wot_live.proofs.engine.Engine.uncounted.Goals as goal

pub returns-clause-due : goal.returns-clause-due
returns-clause-due c =
    let e = c.self.inside in
    let s = state_of e.table e.trusts e.date e.options in
    record { ranges = c.self.invariant.ranges; since = (s, no_keys, none_listed s (record { rows = e.rows; counts = e.counts; list = c.new-list.result }) c.self.invariant c.new-list.ensures) }

pub returns-clause-since : goal.returns-clause-since
returns-clause-since c =
    let e = c.self.inside in
    let s = state_of e.table e.trusts e.date e.options in
    let named : Named = record { rows = e.rows; counts = e.counts; list = c.new-list.result } in
    subst (λ t. IsListedSince t no_keys s named) c.self.view_is (none_listed s named c.self.invariant c.new-list.ensures)

pub returns-clause-introducers : goal.returns-clause-introducers
returns-clause-introducers c = λ y row.
    let e = c.self.inside in
    let s = state_of e.table e.trusts e.date e.options in
    key_of_row s (suc (s.options.depth - 1)) y (sym (ap (λ r. is_some (map.get r y)) c.self.invariant.rows) ∙ row)
