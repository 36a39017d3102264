use Rattle.std.proofs.Common.{◌≡◌, Some, ap, ◌∙◌}
use Rattle.std.specs.FinMap as finmap
use Rattle.wot_types.specs.Arrangement.{spot_of}
use Rattle.wot_types.specs.Selection.{Spot}
use Rattle.wot_table.specs.declared.head.UserHead.{UserHead}
use Rattle.wot_table.specs.Heads.{IsUserHead}
use Rattle.wot_levels.proofs.HeadLemmas.{if_there}
use Rattle.wot_print.proofs.counts.letter_over.Goals as goal

pub returns : goal.returns
returns g c = λ spot at.
    let key = c.args.keyblock.now in
    let Tells = λ (head : UserHead). (spot : Spot) → spot_of key.1 c.args.user ≡ Some spot → IsUserHead spot.user head in
    let head = if_there Tells c.user_in.result c.user_in.ensures.head c.unwrap-head.result c.unwrap-head.ensures spot at in
    let rows = c.args.rows.now in
    let counted = c.verdict_in-count.ensures.count spot at in
    c.letter_by.ensures rows key.0 key.1 spot (c.get.ensures.found ∙ ap (finmap.get rows) c.id.ensures) c.requires.head head counted
