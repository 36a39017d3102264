use Rattle.std.proofs.Common.{Err, refl, ap, ◌∙◌}
use Rattle.std.proofs.lemmas.Result.{IfOk-weaker}
use Rattle.wot_types.specs.StateAfter.{state_after}
use Rattle.wot_answer.specs.EditReply.{reply_text}
use Rattle.wot_answer.specs.declared.reply.Reply.TheVariants.{Text}
use Rattle.wot_answer.proofs.Making.{edit_full, edit_made, has_room}
use Rattle.wot_answer.proofs.edit.make_allowed.Goals as goal

pub build_record-requires-clause-room : goal.build_record-requires-clause-room
build_record-requires-clause-room c = has_room c.args.engine c.args.edit c.requires.allowed

pub returns-in-Err-JournalFull : goal.returns-in-Err-JournalFull
returns-in-Err-JournalFull c = record {
  ends =
      IfOk-weaker c.refuse.result _ _
      (λ answered reply s same at. edit_full (reply_text c.args.reply (state_after s.state c.args.edit)) s c.args.edit c.args.engine c.args.end same at answered c.requires.allowed
      (c.in-Err-JournalFull.ensures.full (ap Err c.in-Err-JournalFull.field-0-is)) reply)
      c.refuse.ensures.reply;
}

pub returns-in_ok-engine-in-Ok : goal.returns-in_ok-engine-in-Ok
returns-in_ok-engine-in-Ok c = record {
  ends = λ s same at.
      let built = c.in-Ok.ensures.built in
      let made = c.in_ok-engine-in-Ok.ensures in
      edit_made (reply_text c.args.reply (state_after s.state c.args.edit)) s c.args.edit c.args.engine c.args.end same at _ (Text c.in_ok-engine-in-Ok.text) c.in-Ok.built c.requires.allowed
      built.2 built.0 built.1 made.engine
      (made.text ∙ ap (λ state. reply_text c.args.reply (state_after state c.args.edit)) same)
      refl refl;
}
