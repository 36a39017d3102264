use Rattle.std.proofs.Common.{option_map, ◌∙◌}
use Rattle.wot_table.specs.Heads.{IsUserHead}
use Rattle.wot_types.specs.Arrangement.{spot_of}
use Rattle.wot_levels.proofs.HeadLemmas.{head_there, head_user, mapped_there}
use Rattle.wot_levels.proofs.heads.user_in.Goals as goal

pub returns-clause-there : goal.returns-clause-there
returns-clause-there c =
    let spot = spot_of c.args.keyblock.now.1 c.args.user in
    head_there IsUserHead (option_map (λ s. s.user) spot) c.user.result c.user.ensures ∙ mapped_there spot

pub returns-clause-head : goal.returns-clause-head
returns-clause-head c = head_user (spot_of c.args.keyblock.now.1 c.args.user) c.user.result c.user.ensures
