use Rattle.std.proofs.Common.{◌+◌, ap, ◌∙◌}
use Rattle.std.specs.List.Sorted.{IsPermutation}
use Rattle.std.proofs.lemmas.List.Sorted.{length_permutation}
use Rattle.wot_types.specs.Selection.{Spot}
use Rattle.wot_types.specs.Arrangement.{spot_of}
use Rattle.wot_levels.proofs.HeadLemmas.{if_there}
use Rattle.wot_levels.proofs.heads.certs_in.Goals as goal

pub returns-clause-moved : goal.returns-clause-moved
returns-clause-moved g c = λ spot is.
    if_there (λ (s : Spot). IsPermutation s.certs c.certs.result.now) (spot_of c.args.keyblock.now.1 c.args.user) c.certs.ensures.same spot is

pub returns-clause-ticks : goal.returns-clause-ticks
returns-clause-ticks g c = λ spot is.
    let moved = if_there (λ (s : Spot). IsPermutation s.certs c.certs.result.now) (spot_of c.args.keyblock.now.1 c.args.user) c.certs.ensures.same spot is in
    c.certs.ensures.cost ∙ ap (λ n. c.args.steps.now + n) (length_permutation spot.certs c.certs.result.now moved)
