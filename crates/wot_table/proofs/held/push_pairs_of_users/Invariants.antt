use Rattle.std.proofs.Common.{◌≡◌, ℕ, ◌==◌, ◌&&◌, ◌||◌, drop}
use Rattle.wot_table.specs.Headings.{AreInRange, users_under}
use Rattle.wot_index.specs.Indexed.{has_pair}
use Rattle.wot_table.proofs.held.push_pairs_of_users.Given as goal

abbrev pub invariant-loop-user : goal.invariant-loop-user
invariant-loop-user l = record {
  added : (n k : ℕ)
      → (has_pair n k l.to.items || ((k == l.id) && users_under l.heading n (drop l.user-index l.users)))
      ≡ (has_pair n k l.fn.to.items || ((k == l.id) && users_under l.heading n l.users));
  in_range : AreInRange l.heading l.fn.to.items → AreInRange l.heading l.to.items;
}
