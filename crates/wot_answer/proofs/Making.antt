-- An edit that was made, or refused.
use Rattle.std.proofs.Common.{◌≡◌, ℕ, ◌+◌, ◌-◌, ◌<◌, ◌≤◌, ◌^◌, arith, length, Bool, true, false, List, if◌then◌else◌, Option, Some, None, Result, drop, refl, sym, ap, ◌∙◌, subst}
use Rattle.std.specs.Prelude.{nat_lt, option_map, IfOk}
use Rattle.std.specs.Option.{option_or}
use Rattle.std.proofs.lemmas.Bool.Decides.{nat_tests}
use Rattle.std.proofs.lemmas.Result.{IfOk-weaker}
use Rattle.wot_types.specs.declared.edit.Edit.{Edit}
use Rattle.wot_types.specs.declared.limit.Limit.TheVariants.{Record}
use Rattle.wot_types.specs.declared.refusal.Refusal.{Refusal}
use Rattle.wot_types.specs.declared.refusal.Refusal.TheVariants.{Full, JournalFull, KeyIdTaken}
use Rattle.wot_types.specs.State.{State}
use Rattle.wot_types.specs.Outcome.{edit_outcome, edited_store, is_past, missing_key, refusal_of, refuse, state_limit, taken_key, unless_refused}
use Rattle.wot_types.specs.StateAfter.{state_after}
use Rattle.wot_types.specs.Limits.{most_record, record_passed}
use Rattle.wot_types.specs.Payload.{IsWritten, payload}
use Rattle.wot_types.specs.Spelling.{number_4, text_bytes}
use Rattle.wot_types.specs.Store.{Store}
use Rattle.wot_types.specs.Store.Change.{makes}
use Rattle.wot_types.proofs.Optionals.{both_none, map_none}
use Rattle.wot_journal.specs.Record.{Framed, most_side, with_length}
use Rattle.wot_answer.specs.Answer.{Does, Ends, IsAsked, IsReply, answer_text, effect_of, is_err, is_refusal, reply_of}
use Rattle.wot_answer.specs.declared.answer.Answered.{Answered}
use Rattle.wot_answer.specs.declared.reply.Answer.TheVariants.{Told}
use Rattle.wot_answer.specs.declared.reply.Effect.TheVariants.{Append}
use Rattle.wot_answer.specs.declared.reply.Reply.{Reply}
use Rattle.wot_answer.proofs.Answering.{if_both}

module _ (text : List ℕ) (s : Store) (edit : Edit) (old : State) (end : ℕ) (same : old ≡ s.state) (at : end ≡ s.end) where
  refusal_here : (why : Option Refusal) → refusal_of old edit ≡ why → edit_outcome text s edit ≡ unless_refused why text s edit
  refusal_here why is = ap (λ why. unless_refused why text s edit) (ap (λ state. refusal_of state edit) (sym same) ∙ is)

  room_here : (past : Bool) → is_past end edit ≡ past → unless_refused None text s edit ≡ (if past then refuse JournalFull else record { text = text; refused = false; change = makes edit })
  room_here past is = ap (λ b. if b then refuse JournalFull else record { text = text; refused = false; change = makes edit }) (ap (λ end. is_past end edit) (sym at) ∙ is)

  -- its key, a limit or a key ID refuses it
  pub edit_refused : (answered : Answered) (why : Refusal) → refusal_of old edit ≡ Some why → IsReply answered old (refuse why) → Ends answered s (edit_outcome text s edit)
  edit_refused answered why is reply = subst (Ends answered s) (sym (refusal_here (Some why) is)) (reply s same)

  -- its record doesn't fit
  pub edit_full : (answered : Answered) → refusal_of old edit ≡ None → is_past end edit ≡ true → IsReply answered old (refuse JournalFull) → Ends answered s (edit_outcome text s edit)
  edit_full answered allowed past reply = subst (Ends answered s) (sym (refusal_here None allowed ∙ room_here true past)) (reply s same)

  -- it was made
  pub edit_made : (answered : Answered) (reply : Reply) (built : Framed) → refusal_of old edit ≡ None → is_past end edit ≡ false → built.end ≡ end → IsWritten built.payload edit
      → answered.engine ≡ state_after old edit → reply_of reply answered.engine ≡ text → is_err reply ≡ false → answered.answer ≡ Told reply (Append built) → Ends answered s (edit_outcome text s edit)
  edit_made answered reply built allowed fits place payload after texts accepted is =
      let stands : state_after s.state edit ≡ answered.engine = ap (λ state. state_after state edit) (sym same) ∙ sym after in
      subst (Ends answered s) (sym (refusal_here None allowed ∙ room_here false fits)) (record {
        text = sym texts ∙ ap (reply_of reply) (sym stands) ∙ ap (λ answer. answer_text answer (edited_store s edit)) (sym is);
        refused = sym accepted ∙ ap (λ answer. is_refusal answer (edited_store s edit)) (sym is);
        asked = subst (λ answer. IsAsked answer (edited_store s edit)) (sym is) tt;
        state = stands;
        does = subst (λ answer. Does (effect_of answer) s (edited_store s edit)) (sym is) (record {
          edit = edit;
          accepts = record { fits = ap (λ end. is_past end edit) (sym at) ∙ fits; allowed = ap (λ state. refusal_of state edit) (sym same) ∙ allowed };
          place = sym at ∙ sym place;
          payload = payload;
          after = refl;
        });
      })

-- what an edit that isn't refused has: a record within the limit
within : (bytes : List ℕ) → record_passed bytes ≡ None → length bytes ≤ most_record
within bytes none = by_test (nat_lt most_record (length bytes)) refl none
  where
    by_test : (b : Bool) → nat_lt most_record (length bytes) ≡ b → (if b then Some Record else None) ≡ None → length bytes ≤ most_record
    by_test true is e = cc
    by_test false is e = grind (arith, nat_tests)

pub has_room : (s : State) (edit : Edit) → refusal_of s edit ≡ None → length (payload edit) ≤ most_record
has_room s edit allowed =
    let limits = both_none (option_map Full (option_or (state_limit s edit) (record_passed (payload edit)))) (option_map KeyIdTaken (taken_key s edit)) (both_none (missing_key s edit) _ allowed).1 in
    within (payload edit) (both_none (state_limit s edit) (record_passed (payload edit)) (map_none Full _ limits.0)).1

-- its record passes the last place of a side, or it doesn't
pub past : (end : ℕ) (bytes : List ℕ) (edit : Edit) → bytes ≡ payload edit → 2 ^ 32 - 1 < end + length bytes + 6 → is_past end edit ≡ true
past end bytes edit is far = ap (λ p. nat_lt (2 ^ 32 - 1) (end + length p + 6)) (sym is) ∙ grind (arith, nat_tests)

pub fits : (end : ℕ) (bytes : List ℕ) (edit : Edit) → bytes ≡ payload edit → end + length bytes + 6 ≤ 2 ^ 32 - 1 → is_past end edit ≡ false
fits end bytes edit is near = ap (λ p. nat_lt (2 ^ 32 - 1) (end + length p + 6)) (sym is) ∙ grind (arith, nat_tests)

-- a payload with its length before it
module _ (spelled bytes : List ℕ) (is : spelled ≡ text_bytes bytes) where
  pub payload_behind : drop 4 spelled ≡ bytes
  unfolding text_bytes number_4
  payload_behind = ap (λ s. drop 4 s) is

  pub length_before : spelled ≡ with_length (drop 4 spelled)
  unfolding text_bytes number_4
  length_before = is ∙ ap with_length (sym payload_behind)

-- the record that was built, or not, for its payload
module _ {E : Type 0} (r : Result Framed E) (end : ℕ) (bytes : List ℕ) (edit : Edit) (spelled : IsWritten bytes edit) where
  pub built_record : IfOk r (λ built. built ≡ record { end = end; payload = bytes }) → IfOk r (λ _. end + length bytes + 6 ≤ most_side)
      → IfOk r (λ built. (built.end ≡ end) × IsWritten built.payload edit × (is_past end edit ≡ false))
  built_record built room =
      IfOk-weaker r _ _
      (λ b both. (ap (λ (b : Framed). b.end) both.0, subst (λ (b : Framed). IsWritten b.payload edit) (sym both.0) spelled, fits end bytes edit spelled.is both.1))
      (if_both _ _ r built room)
