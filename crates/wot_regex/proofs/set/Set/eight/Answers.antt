use Rattle.wot_regex.proofs.Eights.{eight_bits}
use Rattle.wot_regex.proofs.set.Set.eight.Goals as goal

pub returns-clause-bits : goal.returns-clause-bits
returns-clause-bits c = λ j lt. eight_bits c.args.self.now.words c.args.at j lt
