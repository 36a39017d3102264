use Rattle.wot_regex.proofs.Eights.{eight_made}
use Rattle.wot_regex.proofs.set.Set.of_eight.Goals as goal

pub returns : goal.returns
returns c = λ i lt. eight_made c.args.at c.args.bits i c.requires.at c.requires.bits
