use Rattle.std.specs.FinMap.{values}
use Rattle.wot_listing.proofs.PlaceLemmas.{IsTaking}
use Rattle.wot_listing.proofs.placed_keys.PlacedKeys.into_keys.Given as goal

abbrev pub invariant-loop-place : goal.invariant-loop-place
invariant-loop-place l = IsTaking (values l.fn.self) l.all l.keys.items l.place-iterator
