use Rattle.std.proofs.Common.{arith}
use Rattle.wot_regex.proofs.SetLemmas.{added_one, added_others}
use Rattle.wot_regex.proofs.set.Set.add.Goals as goal

pub returns-clause-one : goal.returns-clause-one
returns-clause-one c = added_one c.args.self.now.words c.args.place (omega (arith, c.requires))

pub returns-clause-others : goal.returns-clause-others
returns-clause-others c = λ i other. added_others c.args.self.now.words c.args.place i (omega (arith, c.requires)) other
