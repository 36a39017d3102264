use Rattle.std.proofs.Common.{◌≡◌, ◌+◌, ◌-◌, None, sym, ap, subst, ◌∙◌, arith}
use Rattle.std.specs.FinMap as map
use Rattle.wot_types.specs.Keyring.{Keyring}
use Rattle.wot_types.specs.declared.options.Options.{Options}
use Rattle.wot_types.specs.Levels.{rows_upto}
use Rattle.wot_check.specs.KeyWalk.{IsWalk}
use Rattle.wot_levels.proofs.RowLemmas.{rows_more}
use Rattle.wot_levels.proofs.Settled.{settled}
use Rattle.wot_check.proofs.LevelRows.{level_more, level_zero}
use Rattle.wot_check.proofs.Walked.{keys_walk}
use Rattle.wot_check.proofs.rows_anew.rows_by.Goals as goal

pub loop-level-init : goal.loop-level-init
loop-level-init g c =
    let s = c.args.state.now in
    record { so_far = level_zero s c.in_ok-none.none c.in_ok-rows.rows c.in_ok-none.ensures c.in_ok-rows.ensures; bounded = omega arith }

pub returns-then-len-before : goal.returns-then-len-before
returns-then-len-before g c =
    let s = c.args.state.now in
    let level = c.loop-level.level in
    let rows = c.loop-level.rows in
    let next = c.in_ok-rows-2.rows in
    let so_far = c.loop-level.invariant.so_far in
    let here = level_more s level rows next c.loop-level.auto.level so_far c.in_ok-rows-2.ensures in
    let again : level ≡ level + 1 - 1 = omega arith in
    let is = here ∙ ap (rows_upto s) again ∙ sym (rows_more s level rows c.loop-level.auto.level so_far) in
    settled s level (c.args.state.now.options.depth - 1) rows next so_far c.loop-level.invariant.bounded is (sym c.len-in-loop-level.ensures ∙ c.if-len-before.true ∙ c.len-before.ensures)

pub loop-level-preserved : goal.loop-level-preserved
loop-level-preserved g c =
    let s = c.args.state.now in
    let level = c.loop-level.level in
    let here = level_more s level c.loop-level.rows c.in_ok-rows-2.rows c.loop-level.auto.level c.loop-level.invariant.so_far c.in_ok-rows-2.ensures in
    let again : level ≡ level + 1 - 1 = omega arith in
    record { so_far = here ∙ ap (rows_upto s) again; bounded = omega (arith, c.loop-level-test.true, ap (λ (o : Options). o.depth) c.options.ensures) }

pub with_level-requires-clause-walk : goal.with_level-requires-clause-walk
with_level-requires-clause-walk g c κs within =
    subst (λ (keys : Keyring). IsWalk (λ id. map.contains_key keys id) None c.deref.result.now) c.table.ensures
    (subst (IsWalk (λ id. map.contains_key c.table.result.now id) None) (sym (c.deref.ensures.value ∙ c.in_ok-ids.ensures)) (keys_walk c.table.result.now))

pub with_level-requires-in-loop-level-clause-walk : goal.with_level-requires-in-loop-level-clause-walk
with_level-requires-in-loop-level-clause-walk g c κs within =
    subst (λ (keys : Keyring). IsWalk (λ id. map.contains_key keys id) None c.deref-in-loop-level.result.now) c.table.ensures
    (subst (IsWalk (λ id. map.contains_key c.table.result.now id) None) (sym (c.deref-in-loop-level.ensures.value ∙ c.in_ok-ids.ensures)) (keys_walk c.table.result.now))
