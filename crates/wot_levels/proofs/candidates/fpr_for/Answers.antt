use Rattle.std.proofs.Common.{sym, ◌∙◌}
use Rattle.wot_types.specs.Keyring.{fpr_at}
use Rattle.wot_levels.proofs.CandidateLemmas.{none_named}
use Rattle.wot_levels.proofs.candidates.fpr_for.Goals as goal

pub returns-else-names_one : goal.returns-else-names_one
returns-else-names_one c = λ now level id. none_named now level (fpr_at c.args.table.now c.args.issuer) id c.args.run.now (sym c.names_one.ensures ∙ c.if-names_one.false)
