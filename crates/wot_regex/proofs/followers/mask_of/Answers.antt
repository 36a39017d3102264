use Rattle.std.proofs.Common.{rules, ◌≡◌, length, ap, ◌∙◌}
use Rattle.std.proofs.lemmas.List.{take-replicate, take_at}
use Rattle.wot_regex.specs.Following.{everywhere}
use Rattle.wot_regex.specs.Gathering.{all_spread, back_start}
use Rattle.wot_regex.proofs.Followings.{holds_spread}
use Rattle.wot_regex.proofs.followers.mask_of.Goals as goal

pub returns : goal.returns
returns c =
    let nodes = c.args.nodes.now in
    let whole : length c.spread.new.cells ≡ length nodes = search rules in
    holds_spread c.set_of.result.words c.args.b nodes _ _
    (take_at c.spread.new.cells _ (length nodes) whole
    ∙ c.spread.ensures
    ∙ ap (λ x. (all_spread c.args.b nodes x back_start).cells) (take-replicate (length nodes) 512 everywhere c.requires.room))
    c.set_of.ensures
