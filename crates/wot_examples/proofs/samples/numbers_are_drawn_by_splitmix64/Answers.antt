use Rattle.std.proofs.Common.{refl}
use Rattle.wot_types.specs.Sample.{draw, mix}
use Rattle.wot_examples.proofs.samples.numbers_are_drawn_by_splitmix64.Goals as goal

pub returns-clause-mixed : goal.returns-clause-mixed
unfolding mix
returns-clause-mixed c = refl

pub returns-clause-drawn : goal.returns-clause-drawn
unfolding mix draw
returns-clause-drawn c = refl
