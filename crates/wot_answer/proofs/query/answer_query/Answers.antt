use Rattle.std.proofs.Common.{sym, subst}
use Rattle.std.proofs.lemmas.Result.{IfOk-weaker}
use Rattle.wot_answer.specs.Answer.{Ends}
use Rattle.wot_answer.proofs.Queries.{present_outcome}
use Rattle.wot_answer.proofs.query.answer_query.Goals as goal

pub returns-in_default : goal.returns-in_default
returns-in_default c = record {
  ends =
      IfOk-weaker c.answer_now.result _ _
      (λ answered ends s same many. subst (Ends answered s) (sym (present_outcome c.args.query c.in_default.not-AtList c.in_default.not-AtListOne c.in_default.not-AtWhy s)) (ends s same))
      c.answer_now.ensures.ends;
}
