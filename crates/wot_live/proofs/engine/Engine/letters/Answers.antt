use Rattle.std.proofs.Common.{option_and_then, sym, ap, ◌∙◌}
use Rattle.std.specs.FinMap as map
use Rattle.wot_types.specs.State.{State}
use Rattle.wot_types.specs.Arrangement.{spot_of}
use Rattle.wot_types.specs.Candidates.{count_of}
use Rattle.wot_types.specs.Levels.{rows_of}
use Rattle.wot_levels.specs.Given.{state_of}
use Rattle.wot_live.specs.Counts.{count_on, counts_at}
use Rattle.wot_live.proofs.CountLemmas.{counted_at}
use Rattle.wot_live.proofs.engine.Engine.letters.Goals as goal

pub returns-clause-told : goal.returns-clause-told
returns-clause-told c = λ key is.
    let e = c.self.inside in
    let s = state_of e.table e.trusts e.date e.options in
    let same = c.self.view_is ∙ sym c.lent.ensures.state in
    let there = ap (λ (s : State). map.get s.keys c.args.id) c.self.view_is ∙ is in
    record {
      row = c.get.ensures.found ∙ ap (λ r. map.get r c.args.id) c.self.invariant.rows ∙ ap (λ s. map.get (rows_of s) c.args.id) same;
      counts = λ user spot at.
          ap (λ list. count_on list user) c.of_key.ensures ∙ ap (λ m. count_on (counts_at m c.args.id) user) c.self.invariant.counts
          ∙ counted_at s (rows_of s) c.args.id user spot (ap (option_and_then (λ k. spot_of k user)) there ∙ at)
          ∙ ap (λ (s : State). count_of s spot (rows_of s)) same;
    }
