use Rattle.std.proofs.Common.{sym, subst}
use Rattle.std.specs.Prelude.{IfOk}
use Rattle.std.proofs.lemmas.Result.{IfOk-weaker}
use Rattle.wot_types.specs.Outcome.{edit_outcome}
use Rattle.wot_commands.specs.Heads.{IsProperHead}
use Rattle.wot_answer.specs.Answer.{Ends}
use Rattle.wot_answer.specs.Begun.{head_by}
use Rattle.wot_answer.proofs.Outcomes.{single_is}
use Rattle.wot_answer.proofs.answer.answer_single.Goals as goal

pub make_edit-requires : goal.make_edit-requires
make_edit-requires c = record { proper = subst (λ command. IfOk (head_by command) IsProperHead) c.in-Edit.is c.requires.known.1.proper }

pub answer_query-requires : goal.answer_query-requires
answer_query-requires c = record { proper = subst (λ command. IfOk (head_by command) IsProperHead) c.in-Query.is c.requires.known.1.proper }

pub returns-in_ok-reply-in-Edit : goal.returns-in_ok-reply-in-Edit
returns-in_ok-reply-in-Edit c = record {
  ends =
      IfOk-weaker c.make_edit.result _ _
      (λ answered ends s words same at many of.
      subst (Ends answered s) (sym (single_is s c.args.command _ words of c.in-Edit.is))
      (subst (λ text. Ends answered s (edit_outcome text s c.in-Edit.edit)) (c.in_ok-reply-in-Edit.ensures s.state) (ends s same at)))
      c.make_edit.ensures.ends;
}

pub returns-in-Query : goal.returns-in-Query
returns-in-Query c = record {
  ends =
      IfOk-weaker c.answer_query.result _ _
      (λ answered ends s words same at many of. subst (Ends answered s) (sym (single_is s c.args.command _ words of c.in-Query.is)) (ends s same many))
      c.answer_query.ensures.ends;
}

pub returns-in-DeleteKey : goal.returns-in-DeleteKey
returns-in-DeleteKey c = record {
  ends =
      IfOk-weaker c.delete_key.result _ _
      (λ answered ends s words same at many of. subst (Ends answered s) (sym (single_is s c.args.command _ words of c.in-DeleteKey.is)) (ends s same at))
      c.delete_key.ensures.ends;
}

pub returns-in-Refused : goal.returns-in-Refused
returns-in-Refused c = record {
  ends =
      IfOk-weaker c.refuse.result _ _
      (λ answered reply s words same at many of. subst (Ends answered s) (sym (single_is s c.args.command _ words of c.in-Refused.is)) (reply s same))
      c.refuse.ensures.reply;
}
