use Rattle.std.proofs.Common.{◌≡◌, ◌==◌, false, sym, ap, ◌∙◌, arith, rules, tests, ne_eqb}
use Rattle.std.specs.List.{slice_get}
use Rattle.std.proofs.lemmas.Bool.{cond-false}
use Rattle.std.proofs.lemmas.Iterator.Consumers.{nth_from_yields_List}
use Rattle.std.proofs.lemmas.Iterator.Splits.{YieldsList-from_slice_split}
use Rattle.wot_types.specs.Fields.{is_colon, fields}
use Rattle.wot_fields.proofs.fields.field.Goals as goal

pub returns : goal.returns
returns c =
    let line = c.args.line.now in
    let counted = c.in_ok-skipped.ensures in
    let there : (c.args.n == 0) ≡ false = ne_eqb _ 0 (omega (arith, counted.0)) in
    nth_from_yields_List c.nth.result _ _ c.nth.ensures.ran (YieldsList-from_slice_split _ is_colon line c.split.ensures.rest c.split.ensures.done c.split.ensures.closure (λ x b q k. search (rules, tests)))
    ∙ ap (slice_get (fields line)) counted.1 ∙ sym (cond-false (c.args.n == 0) _ _ there)
