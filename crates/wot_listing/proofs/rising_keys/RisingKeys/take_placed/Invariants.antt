use Rattle.std.proofs.Common.{◌≡◌}
use Rattle.wot_listing.proofs.RisingLemmas.{with_all}
use Rattle.wot_listing.proofs.rising_keys.RisingKeys.take_placed.Given as goal

-- with those that are left set too they are all
abbrev pub invariant-loop-id : goal.invariant-loop-id
invariant-loop-id l = with_all l.placed l.id-iterator.rest.items ≡ l.fn.self
