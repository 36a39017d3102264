use Rattle.wot_regex.proofs.Domains.{domains_agree}
use Rattle.wot_regex.proofs.laws.domain_forms_agree.Goals as goal

pub returns : goal.returns
returns c = domains_agree
