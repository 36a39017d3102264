use Rattle.std.proofs.Common.{◌<◌, List, ℕ, map, arith, rules, subst}
use Rattle.std.specs.List.Sorted.{IsPermutation}
use Rattle.std.proofs.lemmas.List.Elements.{AllWithin-none}
use Rattle.std.proofs.lemmas.List.Sorted.{IsPermutation-map, answers_always}
use Rattle.wot_types.specs.declared.ownertrust.Ownertrust.{Ownertrust}
use Rattle.wot_print.specs.OwnertrustWalk.{seen}
use Rattle.wot_print.proofs.ownertrust_walk.OwnertrustWalk.of.Goals as goal

pub invariant_of-result : goal.invariant_of-result
invariant_of-result c =
    let sorted = c.sort_unstable_by_key.new.self.items in
    record {
      rising = c.sort_unstable_by_key.ensures.sorted (λ entry. entry.id) (answers_always _ _ _ (λ f a r g called. search rules));
      whole = subst (λ (ts : List (ℕ × List ℕ × Ownertrust)). IsPermutation ts (map seen sorted)) c.in_ok-entries.ensures
          (IsPermutation-map seen c.in_ok-entries.entries.items sorted c.sort_unstable_by_key.ensures.permutation);
      parted = (AllWithin-none (λ entry. entry.id < 0) sorted 0, λ k d from l. omega arith);
    }
