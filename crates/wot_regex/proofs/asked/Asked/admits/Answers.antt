use Rattle.std.proofs.Common.{◌≡◌, Some, sym, ◌∙◌}
use Rattle.wot_types.specs.Scope.{admits}
use Rattle.wot_regex.proofs.Admitting.{admitted-means}
use Rattle.wot_regex.proofs.asked.Asked.admits.Goals as goal

pub returns-clause-means : goal.returns-clause-means
returns-clause-means c =
    let found : c.test.result ≡ admits (Some c.args.scope.now) c.args.text.now = c.test.ensures in
    let means = admitted-means c.args.scope.now c.args.text.now in
    (λ h. means.0 (sym found ∙ h), λ m. found ∙ means.1 m)
