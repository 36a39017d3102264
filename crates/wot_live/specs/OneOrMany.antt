-- The counts of one key as they are kept.
use Rattle.std.specs.Prelude.{List}
use Rattle.wot_types.specs.declared.count.Count.{Count}
use Rattle.wot_live.specs.declared.key_counts.OneOrMany.{OneOrMany}
use Rattle.wot_live.specs.declared.key_counts.OneOrMany.TheVariants.{One, Many}

abbrev pub listed_counts : OneOrMany → List Count
listed_counts (One counts) = counts
listed_counts (Many counts) = counts
