use Rattle.std.proofs.Common.{◌≡◌, ◌-◌, IsSome, None, sym, subst}
use Rattle.wot_types.specs.Arrangement.{spot_at}
use Rattle.wot_types.specs.Outcome.{query_refusal}
use Rattle.wot_answer.specs.Answer.{IsPresentQuery}
use Rattle.wot_answer.proofs.Queries.{asked_there}
use Rattle.wot_answer.proofs.query.reply_with_ok.Goals as goal

pub explanation_text-requires : goal.explanation_text-requires
explanation_text-requires c =
    let some = subst IsPresentQuery c.in-Why.is c.requires.proper in
    let none = subst (λ query. query_refusal c.args.engine.now query ≡ None) c.in-Why.is c.requires.answered in
    record { from_one = some; there = subst (λ id. IsSome (spot_at c.args.engine.now.keys id (c.in-Why.place - 1))) (sym c.key_id-in-Why.ensures) (asked_there c.args.engine.now c.in-Why.fpr c.in-Why.place some none) }
