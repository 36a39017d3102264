use Rattle.std.proofs.Common.{◌<◌, length, ◌∙◌, arith}
use Rattle.std.proofs.lemmas.List.{length-set}
use Rattle.wot_regex.specs.Following.{Holds, taking}
use Rattle.wot_regex.specs.declared.set.Set.{Set}
use Rattle.wot_regex.proofs.Followings.{set_more}
use Rattle.wot_regex.proofs.followers.note_masks.Goals as goal

pub loop-b-preserved : goal.loop-b-preserved
loop-b-preserved c =
    let lt : c.loop-b.b < length c.loop-b.masks = omega (arith, c.loop-b.invariant.same) in record {
      same = length-set c.loop-b.masks c.loop-b.b c.mask_of.result ∙ c.loop-b.invariant.same;
      noted = set_more (λ j (s : Set). Holds s.words (taking c.args.nodes.now j)) c.loop-b.masks c.loop-b.b c.mask_of.result lt c.loop-b.invariant.noted c.mask_of.ensures;
    }

pub returns : goal.returns
returns c = λ i d lt. c.loop-b.invariant.noted i d (omega arith)
