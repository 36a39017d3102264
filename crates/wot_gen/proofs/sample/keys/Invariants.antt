use Rattle.std.proofs.Common.{◌≡◌}
use Rattle.wot_types.specs.Sample.{sample_keys}
use Rattle.wot_gen.proofs.sample.keys.Given as goal

abbrev pub invariant-loop-i : goal.invariant-loop-i
invariant-loop-i l = l.keys ≡ sample_keys l.seed l.i
