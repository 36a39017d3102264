use Rattle.std.proofs.Common.{◌^◌, ◌<◌, arith}
use Rattle.wot_regex.proofs.SetLemmas.{moved_first, moved_others}
use Rattle.wot_regex.proofs.set.moved_by_two.Goals as goal

pub returns-clause-first : goal.returns-clause-first
returns-clause-first c = λ j lt. moved_first c.args.word c.args.before j lt

pub returns-clause-others : goal.returns-clause-others
returns-clause-others c =
    let fits : c.args.before < 2 ^ 64 = omega arith in
    λ j lt. moved_others c.args.word c.args.before j fits lt
