use Rattle.std.proofs.Common.{rules, arith, [], ◌∷◌, ◌++◌, sym, ap, ◌∙◌}
use Rattle.wot_types.specs.Sample.{sample_entry}
use Rattle.wot_gen.proofs.Ranges.{filter_map_none, filter_map_some}
use Rattle.wot_gen.proofs.SettableEntries.{settable}
use Rattle.wot_gen.proofs.sample.entries.Goals.{in-Some+in_ok-push, in_default}
use Rattle.wot_gen.proofs.sample.entries.Goals as goal

pub loop-i-preserved : goal.loop-i-preserved
loop-i-preserved c =
    elim c.match-entry.branch [
      | in-Some+in_ok-push w ↦
          w.entries-is
          ∙ w.in_ok-push.ensures.ok
          ∙ ap (λ entries. entries ++ w.in-Some.entry ∷ []) c.loop-i.invariant
          ∙ sym (filter_map_some (sample_entry c.args.seed) c.loop-i.i w.in-Some.entry (sym c.entry.ensures ∙ w.in-Some.is))
      | in_default w ↦
          w.entries-is ∙ c.loop-i.invariant ∙ sym (filter_map_none (sample_entry c.args.seed) c.loop-i.i (sym c.entry.ensures ∙ w.in_default.is))
    ]

pub returns-clause-settable : goal.returns-clause-settable
returns-clause-settable c = settable _ c.args.seed c.args.n (search rules) (omega arith)
