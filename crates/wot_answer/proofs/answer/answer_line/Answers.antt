use Rattle.std.proofs.Common.{◌≡◌, false, subst}
use Rattle.std.specs.Option.{option_copied}
use Rattle.std.proofs.lemmas.Result.{IfOk-weaker}
use Rattle.wot_answer.specs.Answer.{IsDivision, reads_on}
use Rattle.wot_answer.proofs.Answering.{answers_end, answers_over, is_between, is_ended, is_over, within_division}
use Rattle.wot_answer.proofs.answer.answer_line.Goals as goal

pub answer_body-requires : goal.answer_body-requires
answer_body-requires c = record {
  known =
      let known = within_division c.in-Within.block c.requires.known.0 (subst (λ held. IsDivision held c.requires.known.0) c.in-Within.is c.requires.known.1) in
      (known.0, known.2.read);
}

pub returns-in-Between : goal.returns-in-Between
returns-in-Between c = record {
  answers =
      IfOk-weaker c.answer_command.result _ _
      (λ answered is p same at many division. is p same at many (is_between p.division (subst (λ held. IsDivision held p.division) c.in-Between.is division)))
      c.answer_command.ensures.answers;
}

pub returns-in_ok-answered-in-Within : goal.returns-in_ok-answered-in-Within
returns-in_ok-answered-in-Within c = record {
  answers = λ p same at many division.
      let known = within_division c.in-Within.block p.division (subst (λ held. IsDivision held p.division) c.in-Within.is division) in
      let line = option_copied c.args.line in
      let ended = is_ended c.in-Within.block known.0 line known.2 (subst (λ held. reads_on held line ≡ false) c.in-Within.is c.requires.ended) in
      answers_end c.in_ok-answered-in-Within.answered p line known.0 known.1 ended (c.in_ok-answered-in-Within.ensures.ends p.progress.store known.0 same at known.2.read);
}

pub returns-in-Over : goal.returns-in-Over
returns-in-Over c = record {
  answers = λ p same at many division.
      answers_over c.say_nothing.result p (option_copied c.args.line) c.args.engine same (is_over p.division (subst (λ held. IsDivision held p.division) c.in-Over.is division)) c.say_nothing.ensures.reply;
}
