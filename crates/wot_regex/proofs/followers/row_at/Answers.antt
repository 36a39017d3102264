use Rattle.std.proofs.Common.{false, List, length, replicate, set, take, ap, ◌∙◌, subst}
use Rattle.wot_regex.specs.Following.{IsRow}
use Rattle.wot_regex.specs.Reaching.{nowhere}
use Rattle.wot_regex.specs.declared.reach.Reach.{Reach}
use Rattle.wot_regex.proofs.Followings.{only_made}
use Rattle.wot_regex.proofs.followers.row_at.Goals as goal

pub returns : goal.returns
returns c =
    let nodes = c.args.nodes.now in
    let P : List Reach → Type 0 = λ x. IsRow nodes false x c.row_of.result in
    subst P
    (ap (λ m. take (length nodes) (set (replicate 512 nowhere) c.args.place m)) c.marked.ensures ∙ only_made 512 (length nodes) c.args.place c.requires.room c.requires.there)
    c.row_of.ensures
