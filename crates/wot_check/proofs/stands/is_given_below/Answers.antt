use Rattle.std.proofs.Common.{◌≡◌, ◌-◌, ◌||◌, is_some, sym, ap, ◌∙◌, arith}
use Rattle.wot_levels.specs.Given.{given_row}
use Rattle.wot_check.specs.Stored.{row_below}
use Rattle.wot_check.proofs.Founds.{given_by_two, standing_told}
use Rattle.wot_check.proofs.stands.is_given_below.Goals as goal

pub returns-then-bound-eq0-clause-given : goal.returns-then-bound-eq0-clause-given
unfolding row_below
returns-then-bound-eq0-clause-given g c =
    let none : c.args.bound ≡ 0 = omega (arith, c.if-bound-eq0.true) in
    ap (λ n. is_some (row_below c.args.state.now c.args.rows.now c.args.id n)) (sym none)

pub returns-then-is_some-clause-given : goal.returns-then-is_some-clause-given
returns-then-is_some-clause-given g c =
    let s = c.args.state.now in
    let rows = c.args.rows.now in
    let id = c.args.id in
    let first = ap is_some (sym c.given.ensures.row) ∙ standing_told id 0 c.given.result ∙ sym c.is_some.ensures ∙ c.if-is_some.true in
    sym (given_by_two s rows id c.args.bound (omega (arith, c.if-bound-eq0.false)) ∙ ap (λ b. b || is_some (given_row s rows (c.args.bound - 1) id)) first)

pub returns-clause-given : goal.returns-clause-given
returns-clause-given g c =
    let s = c.args.state.now in
    let rows = c.args.rows.now in
    let id = c.args.id in
    let first = ap is_some (sym c.given.ensures.row) ∙ standing_told id 0 c.given.result ∙ sym c.is_some.ensures ∙ c.if-is_some.false in
    let last = ap is_some (sym c.given-2.ensures.row) ∙ standing_told id (c.args.bound - 1) c.given-2.result ∙ sym c.is_some-2.ensures in
    sym (given_by_two s rows id c.args.bound (omega (arith, c.if-bound-eq0.false)) ∙ ap (λ b. b || is_some (given_row s rows (c.args.bound - 1) id)) first ∙ last)
