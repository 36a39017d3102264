use Rattle.std.proofs.Common.{Ok, ap}
use Rattle.wot_listing.specs.Reading.{reading_of}
use Rattle.wot_listing.proofs.listing.Listing.new.Goals as goal

pub returns : goal.returns
unfolding reading_of
returns c = ap Ok c.new.ensures
