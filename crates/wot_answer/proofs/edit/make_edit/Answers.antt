use Rattle.std.proofs.Common.{sym, ◌∙◌}
use Rattle.std.proofs.lemmas.Result.{IfOk-weaker}
use Rattle.wot_types.specs.StateAfter.{state_after}
use Rattle.wot_answer.specs.EditReply.{reply_text}
use Rattle.wot_answer.proofs.Making.{edit_refused}
use Rattle.wot_answer.proofs.edit.make_edit.Goals as goal

pub returns-in-Some : goal.returns-in-Some
returns-in-Some c = record {
  ends =
      IfOk-weaker c.refuse.result _ _
      (λ answered reply s same at. edit_refused (reply_text c.args.reply (state_after s.state c.args.edit)) s c.args.edit c.args.engine c.args.end same at answered c.in-Some.refusal (sym c.refusal.ensures ∙ c.in-Some.is) reply)
      c.refuse.ensures.reply;
}
