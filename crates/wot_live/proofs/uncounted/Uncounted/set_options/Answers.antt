use Rattle.std.proofs.Math.Bool.{or-true}
use Rattle.wot_live.proofs.uncounted.Uncounted.set_options.Goals as goal

pub returns-clause-since : goal.returns-clause-since
returns-clause-since c = λ s names x there. or-true (names x)
