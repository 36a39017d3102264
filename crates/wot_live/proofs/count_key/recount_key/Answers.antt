use Rattle.std.proofs.Common.{◌≡◌, None, Some, sym, ap, refl, ◌∙◌}
use Rattle.std.specs.FinMap as map
use Rattle.wot_live.specs.Counts.{counts_rule, kept_counts}
use Rattle.wot_live.proofs.Recounts.{counted_one, rule_none, rule_some}
use Rattle.wot_live.proofs.count_key.recount_key.Goals as goal

pub returns-clause-counts : goal.returns-clause-counts
returns-clause-counts g c =
    let s = c.args.state.now in
    let keys = s.keys in
    let rows = c.args.rows.now in
    let id = c.args.id in
    let list = c.in_ok-list.list in
    let kept : kept_counts list ≡ counts_rule s rows id = elim (map.get keys id) as (λ k. map.get keys id ≡ k → kept_counts list ≡ counts_rule s rows id) [
      | None ↦ λ is. ap kept_counts (c.in_ok-list.ensures.none is) ∙ sym (rule_none s rows id is)
      | Some key ↦ λ is. ap kept_counts (c.in_ok-list.ensures.counts key is) ∙ sym (rule_some s rows id key is)
    ] refl in
    λ x. ap (λ m. map.get m x) c.in_ok-set.ensures ∙ counted_one s rows c.args.counts id list kept x
