use Rattle.std.proofs.Common.{sym, subst, nat_eq}
use Rattle.std.specs.List.{Contains}
use Rattle.std.specs.List.Sorted.{IsStrictlyIncreasing}
use Rattle.std.proofs.lemmas.List.Filters.{dedup_is}
use Rattle.std.proofs.lemmas.List.Kept.{Contains-dedup_nat, Contains-from_dedup}
use Rattle.std.proofs.lemmas.List.Sorted.{Contains-permutation, IsPermutation-sym}
use Rattle.std.proofs.lemmas.Map.Keys.{IsStrictlyIncreasing-dedup}
use Rattle.wot_index.proofs.index.Index.between.Goals as goal

pub returns-clause-rising : goal.returns-clause-rising
returns-clause-rising c =
    subst IsStrictlyIncreasing (sym (dedup_is nat_eq _ _ c.dedup.ensures.filtered)) (IsStrictlyIncreasing-dedup c.sort_unstable.new.self.items c.sort_unstable.ensures.sorted)

pub returns-clause-found : goal.returns-clause-found
returns-clause-found c = λ id there.
    c.in_ok-ids.ensures.found id
    (Contains-permutation _ _ id (IsPermutation-sym _ _ c.sort_unstable.ensures.permutation)
    (Contains-from_dedup nat_eq c.sort_unstable.new.self.items id (subst (λ ids. Contains ids id) (dedup_is nat_eq _ _ c.dedup.ensures.filtered) there)))

pub returns-clause-all : goal.returns-clause-all
returns-clause-all c = λ n id above upto there.
    subst (λ ids. Contains ids id) (sym (dedup_is nat_eq _ _ c.dedup.ensures.filtered))
    (Contains-dedup_nat c.sort_unstable.new.self.items id (Contains-permutation _ _ id c.sort_unstable.ensures.permutation (c.in_ok-ids.ensures.all n id above upto there)))
