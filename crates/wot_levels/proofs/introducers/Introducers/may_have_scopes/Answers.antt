use Rattle.std.proofs.Common.{subst}
use Rattle.wot_types.specs.Rows.{HaveNoScopes}
use Rattle.wot_levels.proofs.RowLemmas.{none-limited}
use Rattle.wot_levels.proofs.introducers.Introducers.may_have_scopes.Goals as goal

pub returns : goal.returns
returns c = λ is. subst HaveNoScopes c.self.view_is (none-limited c.self.inside.limit c.self.inside.rows.now (c.may_have_scopes.ensures is))
