use Rattle.std.proofs.Common.{◌≡◌, ℕ, ◌==◌, ◌&&◌, ◌||◌, drop}
use Rattle.wot_table.specs.Headings.{AreInRange, certs_under}
use Rattle.wot_index.specs.Indexed.{has_pair}
use Rattle.wot_table.proofs.held.push_pairs_of.Given as goal

abbrev pub invariant-loop-placed : goal.invariant-loop-placed
invariant-loop-placed l = record {
  added : (n k : ℕ)
      → (has_pair n k l.to.items || ((k == l.id) && certs_under l.heading n (drop l.placed-index l.certs)))
      ≡ (has_pair n k l.fn.to.items || ((k == l.id) && certs_under l.heading n l.certs));
  in_range : AreInRange l.heading l.fn.to.items → AreInRange l.heading l.to.items;
}
