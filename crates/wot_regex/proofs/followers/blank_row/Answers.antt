use Rattle.std.proofs.Common.{List, length, subst}
use Rattle.std.proofs.lemmas.List.{take-replicate}
use Rattle.wot_regex.specs.Following.{IsRow}
use Rattle.wot_regex.specs.Reaching.{nowhere}
use Rattle.wot_regex.specs.declared.reach.Reach.{Reach}
use Rattle.wot_regex.proofs.followers.blank_row.Goals as goal

pub returns : goal.returns
returns c =
    let nodes = c.args.nodes.now in
    let P : List Reach → Type 0 = λ x. IsRow nodes c.args.start x c.row_of.result in
    subst P (take-replicate (length nodes) 512 nowhere c.requires.room) c.row_of.ensures
