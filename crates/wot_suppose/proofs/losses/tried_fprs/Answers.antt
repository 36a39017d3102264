use Rattle.std.proofs.Common.{ℕ, ◌≡◌, true, nat_cmp, All, ap, subst, ◌∙◌}
use Rattle.std.specs.BTreeSet as tree
use Rattle.std.specs.FinMap as map
use Rattle.std.specs.List.{filter_map}
use Rattle.std.proofs.lemmas.Result.{IfOk-weaker}
use Rattle.wot_types.specs.declared.options.Options.{Options}
use Rattle.wot_types.specs.Accepted.{IsFiled}
use Rattle.wot_types.specs.Candidates.{RowMap}
use Rattle.wot_types.specs.Keyring.{Keyring}
use Rattle.wot_types.specs.Levels.{rows_of}
use Rattle.wot_types.specs.Ownertrust.{OwnertrustMap}
use Rattle.wot_types.specs.Supposing.{critical, loss_by}
use Rattle.wot_suppose.specs.Introducing.{if_introducing}
use Rattle.wot_suppose.specs.Near.{LeadsTo}
use Rattle.wot_suppose.proofs.Enough.{introducing_enough}
use Rattle.wot_suppose.proofs.losses.tried_fprs.Goals as goal

pub returns : goal.returns
returns g c =
    let s = c.args.engine.now in
    let id = c.args.id in
    let rows = c.rows.result.now in
    let trusts = c.trusts.result.now in
    let near = tree.contains nat_cmp c.in_ok-near.near in
    let filed = subst (λ (keys : Keyring). All IsFiled (map.entries keys)) c.table-table.ensures c.totals.ensures.kept in
    let deep = subst (λ (o : Options). (y : ℕ) → LeadsTo c.table-table.result.now o.depth id y → near y ≡ true) c.options.ensures.options c.in_ok-near.ensures in
    let reached = subst (λ (keys : Keyring). (y : ℕ) → LeadsTo keys s.options.depth id y → near y ≡ true) c.table-table.ensures deep in
    IfOk-weaker c.introducing_fprs.result (λ fprs. fprs.items ≡ filter_map (if_introducing rows near) (map.entries trusts)) (λ fprs. (user : ℕ) → filter_map (loss_by s id user) fprs.items ≡ critical s id user)
    (λ fprs found user.
    ap (filter_map (loss_by s id user)) (found ∙ ap (λ (r : RowMap). filter_map (if_introducing r near) (map.entries trusts)) c.rows.ensures ∙ ap (λ (m : OwnertrustMap). filter_map (if_introducing (rows_of s) near) (map.entries m)) c.trusts.ensures)
    ∙ introducing_enough s id user filed c.options.ensures.ranges.depth near reached)
    c.introducing_fprs.ensures
