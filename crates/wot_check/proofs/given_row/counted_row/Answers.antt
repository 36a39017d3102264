use Rattle.std.proofs.Common.{◌<◌, is_some, refl, sym, ap, subst, ◌∙◌}
use Rattle.wot_types.specs.declared.options.Options.{Options}
use Rattle.wot_check.specs.Stored.{row_below}
use Rattle.wot_check.proofs.Founds.{first_one, none_yet}
use Rattle.wot_check.proofs.given_row.counted_row.Goals as goal

pub loop-level-init : goal.loop-level-init
unfolding row_below
loop-level-init g c = refl

pub returns-then-is_some : goal.returns-then-is_some
returns-then-is_some g c =
    let s = c.args.state.now in
    let within : c.loop-level.level < s.options.depth = subst (λ (o : Options). c.loop-level.level < o.depth) c.options.ensures c.loop-level-test.true in
    first_one s c.args.rows.now c.args.id c.loop-level.level c.args.state.now.options.depth c.in_ok-row.row c.loop-level.invariant within c.in_ok-row.ensures.row (sym c.is_some.ensures ∙ c.if-is_some.true)

pub loop-level-preserved : goal.loop-level-preserved
loop-level-preserved g c =
    let s = c.args.state.now in
    none_yet s c.args.rows.now c.args.id c.loop-level.level c.loop-level.invariant (ap is_some (sym c.in_ok-row.ensures.row) ∙ sym c.is_some.ensures ∙ c.if-is_some.false)
