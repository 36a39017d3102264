use Rattle.std.proofs.Common.{◌==◌, ◌&&◌, reverse, refl, sym, ap, ◌∙◌}
use Rattle.std.specs.BTreeSet.{IsFromIterResult}
use Rattle.std.proofs.lemmas.Iterator.Adapters.{fact_from_collect}
use Rattle.std.proofs.lemmas.Iterator.Consumers.{YieldsList-from_first}
use Rattle.std.proofs.lemmas.List.Filters.{dedup_is}
use Rattle.std.proofs.lemmas.List.Sorted.{IsPermutation-reverse, list_any-IsPermutation}
use Rattle.std.proofs.lemmas.Result.{IfOk-at_ok}
use Rattle.wot_index.specs.Indexed.{has_pair, pair_cmp}
use Rattle.wot_index.proofs.Pairs.{distinct, members}
use Rattle.wot_index.proofs.index.Index.build.Goals as goal

pub returns : goal.returns
returns c = λ n id.
    let left = c.dedup.new.self.items in
    let made = IfOk-at_ok _ c.in_ok-self.was (fact_from_collect (IsFromIterResult pair_cmp) c.collect.result c.collect.ensures.ran (YieldsList-from_first (λ x. x) (λ pairs. pairs) (reverse left) refl)) in
    made.0 (n, id) ∙ members n id (reverse left)
    ∙ sym (list_any-IsPermutation (λ pair. (pair.0 == n) && (pair.1 == id)) left (reverse left) (IsPermutation-reverse left))
    ∙ ap (has_pair n id) (dedup_is (λ p q. (p.0 == q.0) && (p.1 == q.1)) c.args.sorted.items left c.dedup.ensures.filtered)
    ∙ distinct n id c.args.sorted.items
