use Rattle.std.proofs.Common.{ℕ, nat_lt, ap, rules, tests}
use Rattle.std.proofs.lemmas.Iterator.Consumers.{count_from_yields_List}
use Rattle.std.proofs.lemmas.Iterator.Splits.{YieldsList-from_slice_split}
use Rattle.wot_types.specs.Fields.{is_colon}
use Rattle.wot_fields.proofs.fields.has_fewer.Goals as goal

pub returns : goal.returns
returns c =
    ap (λ (count : ℕ). nat_lt count c.args.n) (count_from_yields_List c.split.result _ c.count.ensures.ran (YieldsList-from_slice_split _ is_colon c.args.line.now c.split.ensures.rest c.split.ensures.done c.split.ensures.closure (λ x b q k. search (rules, tests))))
