use Rattle.wot_types.specs.declared.fault.ListingWhat.TheVariants.{BadDate}
use Rattle.wot_listing.proofs.AnswerLemmas.{gives}
use Rattle.wot_listing.proofs.values.date_in.Goals as goal

pub returns : goal.returns
returns c = rw (c.ok_or.ensures.value, c.ok.ensures.value, c.date_or_0-date.ensures, c.get_or_empty.ensures) (gives _ _ BadDate)
