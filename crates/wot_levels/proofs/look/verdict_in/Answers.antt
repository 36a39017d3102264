use Rattle.std.proofs.Common.{◌≡◌, Some, ap, ◌∙◌}
use Rattle.wot_types.specs.Candidates.{count_of}
use Rattle.wot_types.specs.Selection.{Spot}
use Rattle.wot_types.specs.Arrangement.{spot_of}
use Rattle.wot_table.specs.declared.head.UserHead.{UserHead}
use Rattle.wot_table.specs.Heads.{IsUserHead}
use Rattle.wot_levels.proofs.HeadLemmas.{if_there}
use Rattle.wot_levels.proofs.look.verdict_in.Goals as goal

pub look_at-requires-clause-text : goal.look_at-requires-clause-text
look_at-requires-clause-text g c = λ spot is.
    (if_there (λ (head : UserHead). (spot : Spot) → spot_of c.args.keyblock.now.1 c.args.user ≡ Some spot → IsUserHead spot.user head) c.user_in.result c.user_in.ensures.head c.unwrap-head.result c.unwrap-head.ensures spot is).text

pub returns-clause-count : goal.returns-clause-count
returns-clause-count g c = λ spot is. c.look_at.ensures.count spot is ∙ ap (count_of c.args.state.now spot) c.all-introducers.ensures
