use Rattle.std.proofs.Common.{◌≡◌, false, sym, ap, subst, ◌∙◌, rules}
use Rattle.std.specs.Prelude.{if◌then◌else◌}
use Rattle.std.proofs.lemmas.Result.{IfOk-weaker}
use Rattle.wot_types.specs.declared.edit.Edit.TheVariants.{Delete}
use Rattle.wot_types.specs.declared.refusal.Refusal.TheVariants.{NoSuchKey}
use Rattle.wot_types.specs.State.{State}
use Rattle.wot_types.specs.Fingerprint.{key_id_of}
use Rattle.wot_types.specs.Keyring.{Keyring, has_fpr}
use Rattle.wot_types.specs.Outcome.{edit_outcome, ok_line, refuse}
use Rattle.wot_answer.specs.Answer.{Ends}
use Rattle.wot_answer.proofs.answer.delete_key.Goals as goal

pub returns-then-not-has_fpr : goal.returns-then-not-has_fpr
returns-then-not-has_fpr c = record {
  ends =
      IfOk-weaker c.refuse.result _ _
      (λ answered reply s same at.
      let none : has_fpr s.state.keys c.args.fpr.now ≡ false = ap (λ (state : State). has_fpr state.keys c.args.fpr.now) (sym same) ∙ ap (λ (keys : Keyring). has_fpr keys c.args.fpr.now) (sym c.table.ensures) ∙ sym c.has_fpr.ensures ∙ search rules in
      subst (Ends answered s) (sym (ap (λ b. if b then edit_outcome ok_line s (Delete (key_id_of c.args.fpr.now)) else refuse NoSuchKey) none)) (reply s same))
      c.refuse.ensures.reply;
}
