use Rattle.std.proofs.Common.{None}
use Rattle.wot_listing.specs.Machine.{progress_of}
use Rattle.wot_listing.proofs.so_far.SoFar.new.Goals as goal

pub returns : goal.returns
unfolding progress_of
returns c = λ i. record { lines = 0; keys = c.new.ensures i; block = None; kept = 0; passed = 0 }
