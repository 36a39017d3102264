use Rattle.std.proofs.Common.{◌≡◌}
use Rattle.wot_types.specs.Sample.{sample_entries}
use Rattle.wot_gen.proofs.sample.entries.Given as goal

abbrev pub invariant-loop-i : goal.invariant-loop-i
invariant-loop-i l = l.entries ≡ sample_entries l.seed l.i
