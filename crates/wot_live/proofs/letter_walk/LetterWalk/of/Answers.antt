use Rattle.std.proofs.Common.{sym, ap, subst, ◌∙◌}
use Rattle.std.specs.FinMap as map
use Rattle.wot_types.specs.Levels.{rows_of}
use Rattle.wot_live.specs.Ahead.{IsAhead}
use Rattle.wot_live.specs.Counts.{counts_of}
use Rattle.wot_live.proofs.EntriesAhead.{ahead_all}
use Rattle.wot_live.proofs.letter_walk.LetterWalk.of.Goals as goal

pub invariant_of-result : goal.invariant_of-result
invariant_of-result c =
    let s = c.args.state in
    record {
      rows = subst (IsAhead (rows_of s) 0) (sym (c.of.ensures ∙ c.iter.ensures.rows ∙ ap map.entries c.requires.rows)) (ahead_all (rows_of s));
      counts = subst (IsAhead (counts_of s) 0) (sym (c.of-2.ensures ∙ c.iter-2.ensures ∙ ap map.entries c.requires.counts)) (ahead_all (counts_of s));
    }
