use Rattle.std.proofs.Common.{sym, subst, ◌∙◌}
use Rattle.wot_live.specs.Follows.{Follows, IsListedSince}
use Rattle.wot_live.proofs.uncounted.count_listed.Goals as goal

pub invariant_of-result : goal.invariant_of-result
invariant_of-result g c =
    let since = c.requires.due.since in
    let same = c.lent.ensures ∙ c.in_ok-state.ensures in
    let listed = subst (λ t. IsListedSince since.0 since.1 t c.args.named) (sym same) since.2 in
    subst (λ t. Follows t c.in_ok-counted.counted.rows c.in_ok-counted.counted.counts) c.lent.ensures (c.in_ok-counted.ensures.counted since.0 since.1 listed)
