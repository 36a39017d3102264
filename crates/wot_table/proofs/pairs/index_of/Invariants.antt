use Rattle.std.proofs.Common.{◌≡◌, ℕ, ◌||◌, nat_cmp}
use Rattle.std.specs.FinMap as finmap
use Rattle.wot_table.specs.Headings.{AreInRange, is_under}
use Rattle.wot_index.specs.Indexed.{has_pair}
use Rattle.wot_table.proofs.Walks.{entries_under}
use Rattle.wot_table.proofs.pairs.index_of.Given as goal

abbrev pub invariant-loop-id : goal.invariant-loop-id
invariant-loop-id l = record {
  agrees : (n k : ℕ) → (has_pair n k l.pairs.items || entries_under l.heading n k l.id-iterator) ≡ is_under l.heading n (finmap.get (finmap.from_entries {R = nat_cmp} l.keys.entries) k);
  in_range : AreInRange l.heading l.pairs.items;
}
