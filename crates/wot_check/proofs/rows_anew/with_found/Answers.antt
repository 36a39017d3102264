use Rattle.std.proofs.Common.{ap, ◌∙◌}
use Rattle.std.specs.Option.{option_or}
use Rattle.std.specs.FinMap as map
use Rattle.wot_check.specs.Recount.{row_among}
use Rattle.wot_check.proofs.Backwards.{put_last}
use Rattle.wot_check.proofs.rows_anew.with_found.Goals as goal

pub loop-row-preserved : goal.loop-row-preserved
loop-row-preserved c = λ id.
    ap (λ m. option_or (row_among c.pop.new.self id) (map.get m id)) c.in_ok-rows.ensures
    ∙ put_last c.loop-row.rows c.pop.new.self c.loop-row.left c.in-Some.row id c.in-Some.ensures.last ∙ c.loop-row.invariant id
