use Rattle.std.proofs.Common.{◌≡◌, Some, All, refl, sym, ap, subst, ◌∙◌}
use Rattle.std.specs.FinMap as map
use Rattle.wot_types.specs.Keyring.{Keyring}
use Rattle.wot_types.specs.Levels.{first_row}
use Rattle.wot_levels.proofs.Halfway.{WalksOn}
use Rattle.wot_levels.proofs.RowLemmas.{rows_at_zero}
use Rattle.wot_levels.proofs.WalksOn.{walk_all, walk_put, walk_start}
use Rattle.wot_levels.proofs.first_level.rows_by_keys.Goals as goal

pub loop-keyblock-init : goal.loop-keyblock-init
loop-keyblock-init c =
    let keys = c.args.state.now.keys in
    let rule = first_row c.args.state.now in
    let all = c.into_iter-keyblock-iterator.ensures.into_iter_gives ∙ c.walk-keyblock-items.ensures.whole ∙ ap (λ (t : Keyring). map.entries t) c.table-2.ensures in
    let found = subst (λ (t : Keyring). All (λ e. map.get t e.0 ≡ Some e.1) (map.entries t)) c.table-2.ensures c.walk-keyblock-items.ensures.found in
    subst (λ left. WalksOn rule keys left c.in_ok-rows.rows) (sym all)
    (subst (WalksOn rule keys _) (sym c.in_ok-rows.ensures) (walk_start rule keys found))

pub loop-keyblock-preserved : goal.loop-keyblock-preserved
loop-keyblock-preserved c =
    let keys = c.args.state.now.keys in
    let rule = first_row c.args.state.now in
    let left = subst (λ left. WalksOn rule keys left c.loop-keyblock.rows) c.in-Some.ensures.steps c.loop-keyblock.invariant in
    let k = c.in-Some.keyblock in
    subst (WalksOn rule keys c.next.new.self) (sym c.in_ok-rows-2.ensures)
    (walk_put rule keys k c.next.new.self c.loop-keyblock.rows (rule k.0 k.1) left refl)

pub returns : goal.returns
returns c =
    let s = c.args.state.now in
    walk_all (first_row s) s.keys c.loop-keyblock.rows (subst (λ left. WalksOn (first_row s) s.keys left c.loop-keyblock.rows) c.in-None.ensures.steps.0 c.loop-keyblock.invariant)
    ∙ rows_at_zero s
