use Rattle.std.proofs.Common.{Some}
use Rattle.wot_types.specs.Arrangement.{spot_of}
use Rattle.wot_levels.proofs.HeadLemmas.{head_user}
use Rattle.wot_live.proofs.letters.Letters.with_user.Goals as goal

pub returns-in-Some : goal.returns-in-Some
returns-in-Some c = λ spot at.
    let k = c.args.keyblock.now in
    c.with_head.ensures k spot c.requires.told c.requires.head (head_user (spot_of k.1 c.args.user) (Some c.in-Some.head) c.in-Some.ensures spot at) at
