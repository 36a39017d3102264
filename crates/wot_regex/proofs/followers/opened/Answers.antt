use Rattle.std.proofs.Common.{◌≡◌, ◌≤◌, ◌++◌, ◌∷◌, [], length, take, get_or, ap, ap₂, sym, ◌∙◌, arith}
use Rattle.std.proofs.lemmas.List.{length-take-le, take_all, take_more}
use Rattle.wot_regex.specs.Following.{opened}
use Rattle.wot_regex.proofs.Followings.{opened_append, opened_length}
use Rattle.wot_regex.proofs.followers.opened.Goals as goal

pub push-requires : goal.push-requires
push-requires c =
    let i = c.loop-node.node-index in
    let nodes = c.args.nodes.now in
    let le : i ≤ length nodes = omega arith in
    let is : length c.loop-node.table ≡ i = ap length c.loop-node.invariant ∙ opened_length (take i nodes) ∙ length-take-le i nodes le in
    omega (arith, is)

pub loop-node-preserved : goal.loop-node-preserved
loop-node-preserved c =
    let i = c.loop-node.node-index in
    let nodes = c.args.nodes.now in
    c.push.ensures
    ∙ ap₂ (λ x y. x ++ y ∷ []) c.loop-node.invariant c.open_node.ensures
    ∙ sym (opened_append (take i nodes) (get_or nodes i _ ∷ []))
    ∙ sym (ap opened (take_more nodes i _ c.loop-node-test.true))

pub returns : goal.returns
returns c = c.loop-node.invariant ∙ ap opened (take_all c.loop-node.node-index c.args.nodes.now c.loop-node-test.false)
