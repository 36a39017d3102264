use Rattle.wot_listing.proofs.RisingLemmas.{none_sorted}
use Rattle.wot_listing.proofs.rising_keys.RisingKeys.new.Goals as goal

pub invariant_of-result : goal.invariant_of-result
invariant_of-result c = none_sorted c.new.result.items c.new.ensures.items
