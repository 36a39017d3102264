use Rattle.std.proofs.Common.{refl}
use Rattle.wot_types.specs.Sample.{mix}
use Rattle.wot_gen.proofs.draws.mix.Goals as goal

pub returns : goal.returns
unfolding mix
returns c = refl
