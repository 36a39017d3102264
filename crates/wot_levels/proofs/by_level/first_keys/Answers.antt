use Rattle.std.proofs.Common.{◌≤◌, nat_eq, sym, ap, subst, ◌∙◌, arith}
use Rattle.std.specs.FinMap as finmap
use Rattle.std.proofs.lemmas.Result.{IfOk-weaker}
use Rattle.std.specs.List.{IsDistinct}
use Rattle.wot_types.specs.declared.options.Options.{Options}
use Rattle.wot_types.specs.Keyring.{Keyring}
use Rattle.wot_levels.specs.Frontier.{AreCertified, IsReached}
use Rattle.wot_levels.proofs.Frontiers.{reached_certified, reached_first}
use Rattle.wot_levels.proofs.Weights.{distinct_keys}
use Rattle.wot_levels.proofs.by_level.first_keys.Goals as goal

pub returns-then-options-eq0-clause-reached : goal.returns-then-options-eq0-clause-reached
returns-then-options-eq0-clause-reached c =
    let s = c.args.state.now in
    let keys = ap (λ (t : Keyring). finmap.keys t) c.table.ensures in
    IfOk-weaker c.ids.result _ _ (λ ids is. subst (IsReached s 0 c.args.rows.now) (sym (is ∙ keys)) (reached_first s c.args.rows.now c.requires.rows)) c.ids.ensures

pub returns-then-options-eq0-clause-distinct : goal.returns-then-options-eq0-clause-distinct
returns-then-options-eq0-clause-distinct c =
    IfOk-weaker c.ids.result _ _ (λ ids is. subst (IsDistinct nat_eq) (sym is) (distinct_keys c.table.result.now)) c.ids.ensures

pub returns-clause-reached : goal.returns-clause-reached
returns-clause-reached c =
    let s = c.args.state.now in
    let same = c.options-options.ensures in
    let none = c.if-options-eq0.false in
    let no_marginals = c.if-options-eq0-2.false in
    let completes : 1 ≤ s.options.completes = subst (λ (o : Options). 1 ≤ o.completes) same (omega (arith, none)) in
    let marginals : 1 ≤ s.options.marginals = subst (λ (o : Options). 1 ≤ o.marginals) same (omega (arith, no_marginals)) in
    IfOk-weaker c.certified.result _ _ (λ ids all. reached_certified s c.args.rows.now ids.items c.requires.rows (subst (λ (t : Keyring). AreCertified t c.args.rows.now ids.items) c.table-2.ensures all) completes marginals) c.certified.ensures.all
