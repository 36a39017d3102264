use Rattle.std.proofs.Common.{false, ◌<◌, length, ◌∙◌, arith}
use Rattle.std.proofs.lemmas.List.{length-set}
use Rattle.wot_regex.specs.Following.{IsRow, only}
use Rattle.wot_regex.proofs.Followings.{set_more}
use Rattle.wot_regex.proofs.followers.note_rows.Goals as goal

pub loop-i-preserved : goal.loop-i-preserved
loop-i-preserved c =
    let lt : c.loop-i.i < length c.loop-i.rows = omega (arith, c.loop-i.invariant.same) in record {
      same = length-set c.loop-i.rows c.loop-i.i c.row_at.result ∙ c.loop-i.invariant.same;
      noted = set_more (λ j r. IsRow c.args.nodes.now false (only (length c.args.nodes.now) j) r) c.loop-i.rows c.loop-i.i c.row_at.result lt c.loop-i.invariant.noted c.row_at.ensures;
    }

pub returns : goal.returns
returns c = λ i d lt. c.loop-i.invariant.noted i d (omega arith)
