use Rattle.std.proofs.Common.{◌≡◌, map}
use Rattle.std.specs.List.{range_with_len}
use Rattle.wot_types.specs.Sample.{sample_cert}
use Rattle.wot_gen.proofs.certs.certs.Given as goal

abbrev pub invariant-loop-c : goal.invariant-loop-c
invariant-loop-c l = l.certs ≡ map (sample_cert l.seed l.i) (range_with_len 0 l.c)
