use Rattle.std.proofs.Common.{◌+◌, ◌∷◌, ◌&&◌, not, drop, sym, ap, ◌∙◌}
use Rattle.std.proofs.lemmas.List.{drop_more}
use Rattle.wot_index.specs.Indexed.{has, has_pair}
use Rattle.wot_index.proofs.Pairs.{taken}
use Rattle.wot_index.proofs.index.Index.remove_all.Goals as goal

pub loop-pair-preserved : goal.loop-pair-preserved
loop-pair-preserved c = λ n id.
    let pairs = c.args.pairs.now in
    let i = c.loop-pair.pair-index in
    let pair = c.pair-item.result in
    let here = ap (λ p. p ∷ drop (i + 1) pairs) c.pair-item.is ∙ sym (drop_more pairs i pair c.loop-pair-test.true) in
    ap (λ b. b && not (has_pair n id (drop (i + 1) pairs))) (c.remove.ensures.updates.0 (n, id))
    ∙ taken pair.0 pair.1 n id (has c.loop-pair.self n id) (has_pair n id (drop (i + 1) pairs))
    ∙ ap (λ ps. has c.loop-pair.self n id && not (has_pair n id ps)) here
    ∙ c.loop-pair.invariant n id
