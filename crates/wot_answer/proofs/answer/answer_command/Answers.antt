use Rattle.std.proofs.Common.{None, refl, sym, ap, subst}
use Rattle.std.specs.Option.{option_copied}
use Rattle.std.proofs.lemmas.Result.{IfOk-weaker}
use Rattle.wot_answer.specs.declared.division.Division.TheVariants.{Between}
use Rattle.wot_answer.specs.Answer.{Answers, Ends}
use Rattle.wot_answer.proofs.Answering.{answers_line}
use Rattle.wot_answer.proofs.Outcomes.{long_is}
use Rattle.wot_answer.proofs.answer.answer_command.Goals as goal

pub returns-in_ok-answered-in-None : goal.returns-in_ok-answered-in-None
returns-in_ok-answered-in-None c = record {
  answers = λ p same at many here.
      let answered = c.in_ok-answered-in-None.answered in
      subst (Answers (record { answered = answered; division = Between }) p) (sym (ap option_copied c.in-None.is))
      (answers_line answered Between p None here refl (subst (Ends answered p.progress.store) (sym (long_is p.progress.store)) (c.in_ok-answered-in-None.ensures.reply p.progress.store same)) tt);
}

pub returns-in-Some : goal.returns-in-Some
returns-in-Some c = record {
  answers =
      IfOk-weaker c.answer_text.result _ _
      (λ given is p same at many here. subst (Answers given p) (sym (ap option_copied c.in-Some.is)) (is p same at many here))
      c.answer_text.ensures.answers;
}
