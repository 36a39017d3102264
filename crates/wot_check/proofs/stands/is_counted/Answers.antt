use Rattle.std.proofs.Common.{◌<◌, Some, sym, ap, subst, ◌∙◌, arith}
use Rattle.std.proofs.lemmas.Bool.{true≢false}
use Rattle.wot_types.specs.declared.options.Options.{Options}
use Rattle.wot_levels.specs.Given.{given_row}
use Rattle.wot_check.proofs.Founds.{given_there, level_within, none_lower, stands_at}
use Rattle.wot_check.proofs.SameRows.{rows_decided}
use Rattle.wot_check.proofs.stands.is_counted.Goals as goal

pub returns-then-options-row-clause-stands : goal.returns-then-options-row-clause-stands
returns-then-options-row-clause-stands g c =
    let s = c.args.state.now in
    let row = c.args.row.now in
    (λ e. absurd (true≢false (sym e)), λ stands. let within = level_within s c.args.rows.now row.key row c.requires.stored stands in absurd (omega (arith, c.if-options-row.true, ap (λ (o : Options). o.depth) c.options.ensures, within)))

pub returns-then-is_given_below-clause-stands : goal.returns-then-is_given_below-clause-stands
returns-then-is_given_below-clause-stands g c =
    let s = c.args.state.now in
    let row = c.args.row.now in (
      λ e. absurd (true≢false (sym e)),
      λ stands. absurd (true≢false (sym c.if-is_given_below.true ∙ c.is_given_below.ensures.given ∙ none_lower s c.args.rows.now row.key row c.requires.stored stands)),
    )

pub returns-clause-stands : goal.returns-clause-stands
returns-clause-stands g c =
    let s = c.args.state.now in
    let rows = c.args.rows.now in
    let row = c.args.row.now in
    let stored = c.requires.stored in
    let within : row.level < s.options.depth = subst (λ (o : Options). row.level < o.depth) c.options.ensures c.if-options-row.false in
    let none = sym c.is_given_below.ensures.given ∙ c.if-is_given_below.false in
    let same = rows_decided (Some row) (given_row s rows row.level row.key) in (
      λ e. stands_at s rows row.key row stored within none (sym (same.0 (sym c.is_given.ensures.same ∙ e))),
      λ stands. c.is_given.ensures.same ∙ same.1 (sym (given_there s rows row.key row stored stands)),
    )
