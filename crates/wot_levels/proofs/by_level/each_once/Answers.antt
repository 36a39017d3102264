use Rattle.std.proofs.Common.{◌==◌, nat_eq, sym, ap, subst, ◌∙◌}
use Rattle.std.specs.List.{IsDistinct}
use Rattle.std.proofs.lemmas.List.Filters.{dedup_is}
use Rattle.std.proofs.lemmas.List.Sorted.{list_any-IsPermutation}
use Rattle.wot_levels.specs.Frontier.{among}
use Rattle.wot_levels.proofs.Among.{among_dedup}
use Rattle.wot_levels.proofs.Weights.{distinct_sorted}
use Rattle.wot_levels.proofs.by_level.each_once.Goals as goal

pub returns-clause-same : goal.returns-clause-same
returns-clause-same c = λ x.
    ap (λ xs. among xs x) (dedup_is nat_eq _ _ c.dedup.ensures.filtered) ∙ among_dedup c.sort_unstable.new.self.items x
    ∙ sym (list_any-IsPermutation (λ id. id == x) _ _ c.sort_unstable.ensures.permutation)

pub returns-clause-distinct : goal.returns-clause-distinct
returns-clause-distinct c = subst (IsDistinct nat_eq) (sym (dedup_is nat_eq _ _ c.dedup.ensures.filtered)) (distinct_sorted c.sort_unstable.new.self.items c.sort_unstable.ensures.sorted)
