use Rattle.std.proofs.Common.{refl}
use Rattle.wot_answer.proofs.Queries.{query_answered}
use Rattle.wot_answer.proofs.query.answer_now.Goals as goal

pub returns : goal.returns
returns c = record {
  ends = λ s same.
      query_answered _ s c.args.query c.args.engine c.in_ok-engine.reply c.effect_of-effect.result same
      c.in_ok-engine.ensures.reply c.in_ok-engine.ensures.refused c.effect_of-effect.ensures c.in_ok-engine.ensures.engine refl;
}
