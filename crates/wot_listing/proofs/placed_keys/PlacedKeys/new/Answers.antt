use Rattle.std.proofs.Common.{sym, ap, subst, ◌∙◌}
use Rattle.std.specs.FinMap.{from_entries}
use Rattle.wot_listing.specs.Places.{IsPlaced, keys_at}
use Rattle.wot_listing.proofs.PlaceLemmas.{no_keys_at, none_placed}
use Rattle.wot_listing.proofs.placed_keys.PlacedKeys.new.Goals as goal

pub invariant_of-result : goal.invariant_of-result
invariant_of-result c = subst (λ es. IsPlaced (from_entries es) c.new-2.result.items) (sym c.new.ensures.empty) (none_placed c.new-2.result.items)

pub returns : goal.returns
returns c = ap (λ es. keys_at (from_entries es) c.new-2.result.items) c.new.ensures.empty ∙ no_keys_at c.new-2.result.items
