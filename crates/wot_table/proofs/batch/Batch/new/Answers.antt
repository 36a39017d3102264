use Rattle.std.proofs.Common.{reverse, sym, subst}
use Rattle.std.specs.FinMap as map
use Rattle.wot_table.specs.Weights.{IsSummed}
use Rattle.wot_table.proofs.Summing.{summed_empty}
use Rattle.wot_table.proofs.batch.Batch.new.Goals as goal

pub invariant_of-result : goal.invariant_of-result
invariant_of-result c = subst (λ es. IsSummed (map.from_entries (reverse es)) (record { users = 0; certs = 0; text = 0 })) (sym c.in_ok-with_capacity.ensures.items) summed_empty
