use Rattle.std.proofs.Common.{◌≡◌, ap, ◌∙◌, arith}
use Rattle.wot_regex.specs.Following.{has}
use Rattle.wot_regex.specs.Reaching.{marked, nowhere}
use Rattle.wot_regex.proofs.Followings.{set_more}
use Rattle.wot_regex.proofs.followers.mark.Goals as goal

pub loop-i-preserved : goal.loop-i-preserved
loop-i-preserved c = set_more (λ j x. x ≡ marked (has c.args.marks.now.words j)) c.loop-i.cells c.loop-i.i c.marked.result (omega arith) c.loop-i.invariant (c.marked.ensures ∙ ap marked c.has.ensures)

pub returns : goal.returns
returns c = λ i lt. c.loop-i.invariant i nowhere (omega arith)
