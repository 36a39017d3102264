use Rattle.std.proofs.Common.{◌≡◌, Err, length, sym, ap, subst, ◌∙◌}
use Rattle.std.proofs.lemmas.Result.{IfOk-weaker}
use Rattle.wot_types.specs.declared.edit.Edit.TheVariants.{Import}
use Rattle.wot_types.specs.Outcome.{edit_outcome, import_line, listing_outcome}
use Rattle.wot_listing.specs.Reading.{Finishes}
use Rattle.wot_answer.specs.Answer.{Ends}
use Rattle.wot_answer.proofs.answer.import_listing.Goals as goal

pub make_edit-requires : goal.make_edit-requires
make_edit-requires c =
    record { proper = c.in-Ok.ensures.listed c.requires.known.0 c.requires.known.1 }

pub returns-in_ok-reply-in-Ok : goal.returns-in_ok-reply-in-Ok
returns-in_ok-reply-in-Ok c = record {
  ends =
      let b = c.in-Ok.field-0 in
      IfOk-weaker c.make_edit.result _ _
      (λ answered ends s lines same at read.
      let spelled = c.in-Ok.ensures.finishes lines read in
      let is : listing_outcome _ s lines ≡ edit_outcome (import_line (length b.keys) b.kept b.passed) s (Import b.keys) =
      ap (λ f. listing_outcome f s lines) spelled.faultless
      ∙ sym (λ i. edit_outcome (import_line (length (spelled.keys_are i)) (spelled.kept_is i) (spelled.passed_is i)) s (Import (spelled.keys_are i))) in
      subst (Ends answered s) (sym is) (subst (λ t. Ends answered s (edit_outcome t s (Import b.keys))) (c.in_ok-reply-in-Ok.ensures ∙ ap (λ n. import_line n b.kept b.passed) c.len.ensures) (ends s same at)))
      c.make_edit.ensures.ends;
}

pub returns-in-Err-Fault : goal.returns-in-Err-Fault
returns-in-Err-Fault c = record {
  ends =
      IfOk-weaker c.refuse.result _ _
      (λ answered reply s lines same at read.
      subst (Ends answered s) (sym (ap (λ f. listing_outcome f s lines) (subst (λ e. Finishes lines (Err e)) c.in-Err-Fault.field-0-is (c.in-Err-Fault.ensures.finishes lines read)))) (reply s same))
      c.refuse.ensures.reply;
}
