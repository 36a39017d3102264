use Rattle.std.proofs.Common.{◌≤◌, ◌+◌, ◌*◌, ap, subst, ◌∙◌}
use Rattle.wot_types.specs.Keyring.{cert_total}
use Rattle.wot_types.specs.Levels.{rows_of}
use Rattle.wot_types.specs.State.{State}
use Rattle.wot_levels.specs.Given.{state_of}
use Rattle.wot_live.specs.Counts.{counts_of}
use Rattle.wot_live.proofs.count_anew.count_anew.Goals as goal

pub returns-in_err-rows-clause-ticks : goal.returns-in_err-rows-clause-ticks
returns-in_err-rows-clause-ticks g c =
    let is = c.of-state.ensures ∙ ap (λ table. state_of table c.args.trusts c.args.date c.args.options) c.in_ok-table.ensures in
    subst (λ (s : State). c.rows_and_counts.new.steps ≤ c.args.steps.now + (s.options.depth + 1) * cert_total s.keys) is c.rows_and_counts.ensures.ticks

pub invariant_of-result : goal.invariant_of-result
invariant_of-result g c = record {
  ranges = c.requires.ranges;
  rows = c.in_ok-rows.ensures.rows ∙ ap rows_of c.of-state.ensures;
  counts = c.in_ok-rows.ensures.counts ∙ ap counts_of c.of-state.ensures;
}

pub returns-clause-state : goal.returns-clause-state
returns-clause-state g c = ap (λ table. state_of table c.args.trusts c.args.date c.args.options) c.in_ok-table.ensures

pub returns-clause-ticks : goal.returns-clause-ticks
returns-clause-ticks g c =
    let is = c.of-state.ensures ∙ ap (λ table. state_of table c.args.trusts c.args.date c.args.options) c.in_ok-table.ensures in
    subst (λ (s : State). c.rows_and_counts.new.steps ≤ c.args.steps.now + (s.options.depth + 1) * cert_total s.keys) is c.rows_and_counts.ensures.ticks
