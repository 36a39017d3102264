use Rattle.std.proofs.Common.{sym, ◌∙◌}
use Rattle.wot_regex.proofs.Found.{found-means}
use Rattle.wot_regex.proofs.Searches.{searched}
use Rattle.wot_regex.proofs.matching.matches.Goals as goal

pub returns-clause-value : goal.returns-clause-value
returns-clause-value c = searched c.args.expr.now c.args.text.now c.nodes-nodes.result.now c.search.result c.nodes-nodes.ensures.value c.nodes-nodes.ensures.room c.search.ensures

pub returns-clause-means : goal.returns-clause-means
returns-clause-means c =
    let tree = c.args.expr.now in
    let text = c.args.text.now in
    let found = searched tree text c.nodes-nodes.result.now c.search.result c.nodes-nodes.ensures.value c.nodes-nodes.ensures.room c.search.ensures in
    let means = found-means tree text in
    (λ h. means.0 (sym found ∙ h), λ m. found ∙ means.1 m)
