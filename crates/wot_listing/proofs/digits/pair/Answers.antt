use Rattle.wot_listing.proofs.DigitLemmas.{pair_is}
use Rattle.wot_listing.proofs.digits.pair.Goals as goal

pub returns : goal.returns
returns c i = pair_is c.args.high c.args.low i _ _ _ _ c.digit-high.ensures.value c.digit-low.ensures.value
