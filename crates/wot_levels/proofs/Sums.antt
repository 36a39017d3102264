-- Sums of counts.
use Rattle.std.specs.Prelude.{◌+◌}
use Rattle.wot_types.specs.declared.count.Count.{Count}

abbrev pub plus : Count → Count → Count
plus a b = record { ultimate = a.ultimate + b.ultimate; full = a.full + b.full; marginal = a.marginal + b.marginal; other = a.other + b.other }
