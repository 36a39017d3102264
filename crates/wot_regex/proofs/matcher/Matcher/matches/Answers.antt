use Rattle.std.proofs.Common.{sym, ◌∙◌}
use Rattle.wot_regex.proofs.Found.{found-means}
use Rattle.wot_regex.proofs.matcher.Matcher.matches.Goals as goal

pub returns-clause-means : goal.returns-clause-means
returns-clause-means c =
    let tree = c.args.self.now in
    let text = c.args.text.now in
    let found = c.test.ensures.value in
    let means = found-means tree text in
    (λ h. means.0 (sym found ∙ h), λ m. found ∙ means.1 m)
