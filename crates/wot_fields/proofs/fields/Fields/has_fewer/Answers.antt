use Rattle.std.proofs.Common.{◌≤◌, sym, ap, ◌∙◌, arith}
use Rattle.std.proofs.lemmas.Bool.{le-ltb}
use Rattle.wot_types.specs.Fields.{has_fewer}
use Rattle.wot_fields.proofs.FieldStartLemmas.{no_fewer}
use Rattle.wot_fields.proofs.fields.Fields.has_fewer.Goals as goal

pub returns-else-n-gt-MOST : goal.returns-else-n-gt-MOST
returns-else-n-gt-MOST c =
    let few : c.args.n ≤ 13 = omega arith in
    le-ltb 13 c.args.n few ∙ sym (no_fewer _ _ _ c.args.n c.self.invariant (omega arith) few) ∙ ap (has_fewer c.args.n) c.self.view_is
