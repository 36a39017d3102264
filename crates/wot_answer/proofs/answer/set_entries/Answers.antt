use Rattle.std.proofs.Common.{◌≡◌, Err, length, sym, ap, subst, ◌∙◌}
use Rattle.std.proofs.lemmas.Result.{IfOk-weaker}
use Rattle.wot_types.specs.declared.edit.Edit.TheVariants.{Ownertrust}
use Rattle.wot_types.specs.Outcome.{edit_outcome, entries_line, entries_outcome}
use Rattle.wot_types.specs.OwnertrustText.{ownertrust_fault}
use Rattle.wot_answer.specs.Answer.{Ends}
use Rattle.wot_answer.proofs.Outcomes.{no_fault}
use Rattle.wot_answer.proofs.answer.set_entries.Goals as goal

pub make_edit-requires : goal.make_edit-requires
make_edit-requires c = record { proper = c.in-Ok.ensures.settable c.requires.known.0 c.requires.known.1 }

pub returns-in_ok-reply-in-Ok : goal.returns-in_ok-reply-in-Ok
returns-in_ok-reply-in-Ok c = record {
  ends =
      let entries = c.in-Ok.entries in
      IfOk-weaker c.make_edit.result _ _
      (λ answered ends s lines same at read.
      let are = c.in-Ok.ensures.entries lines read in
      let none = no_fault (ownertrust_fault lines) c.into_entries.result entries c.in-Ok.is (λ line what. c.into_entries.ensures.fault lines read line what) in
      let is : entries_outcome (ownertrust_fault lines) s lines ≡ edit_outcome (entries_line (length entries)) s (Ownertrust entries) =
      ap (λ f. entries_outcome f s lines) none ∙ ap (λ es. edit_outcome (entries_line (length es)) s (Ownertrust es)) (sym are) in
      subst (Ends answered s) (sym is) (subst (λ t. Ends answered s (edit_outcome t s (Ownertrust entries))) (c.in_ok-reply-in-Ok.ensures ∙ ap entries_line c.len.ensures) (ends s same at)))
      c.make_edit.ensures.ends;
}

pub returns-in-Err-Fault : goal.returns-in-Err-Fault
returns-in-Err-Fault c = record {
  ends =
      IfOk-weaker c.refuse.result _ _
      (λ answered reply s lines same at read.
      subst (Ends answered s) (sym (ap (λ f. entries_outcome f s lines) ((c.into_entries.ensures.fault lines read c.in-Err-Fault.line c.in-Err-Fault.what).0 (c.in-Err-Fault.is ∙ ap Err c.in-Err-Fault.field-0-is)))) (reply s same))
      c.refuse.ensures.reply;
}
