use Rattle.wot_suppose.proofs.NearLemmas.{IsSearched}
use Rattle.wot_suppose.proofs.near.near_keys.Given as goal

abbrev pub invariant-loop : goal.invariant-loop
invariant-loop g l = IsSearched l.table l.fn.id l.counter l.near
