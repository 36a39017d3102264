use Rattle.std.proofs.Common.{◌≡◌, ◌∙◌, refl, subst, sym}
use Rattle.std.specs.Option.{IsSomeAnd}
use Rattle.std.proofs.lemmas.List.{append-nil}
use Rattle.std.proofs.lemmas.Result.{IfOk-weaker}
use Rattle.wot_types.specs.Commands.{Command, Division, unfinished_commands}
use Rattle.wot_types.specs.Commands.Division.{between, within, over}
use Rattle.wot_types.specs.LineByLine.{Position, closing_reply}
use Rattle.wot_types.specs.Session.{after_all, after_command, replies, reply_to}
use Rattle.wot_answer.specs.Answer.{IsDivision}
use Rattle.wot_answer.specs.Block.{IsBlockOf}
use Rattle.wot_answer.specs.declared.block.Block.{Block}
use Rattle.wot_answer.specs.declared.division.Division.TheVariants.{Within, Over}
use Rattle.wot_answer.specs.declared.reply.Answer.{Answer}
use Rattle.wot_session.specs.declared.session.Session.{Session}
use Rattle.wot_session.specs.AtEnd.{closed_at}
use Rattle.wot_session.specs.SessionState.{IsAt, IsDue, IsPlace}
use Rattle.wot_session.proofs.session.Session.close.Goals as goal

-- where a command was unfinished, and it was answered by a session that is over
module _ (old held new : Session) (answer : Answer) (block : Block) (engine : held.engine ≡ old.engine) (place : held.place ≡ old.place) (ended : held.division ≡ Over)
    (all : (p : Position) (command : Command) → IsAt held p → IsBlockOf block command → IsDue new answer p.progress (record p { progress = after_command p.progress command }) (reply_to p.progress command)) where
  closed : (p : Position) → old.division ≡ Within block → IsAt old p → IsDue new answer p.progress (closed_at p) (closing_reply p)
  closed p is at = by_division p.division refl
    where
      Closed : Division → Type 0
      Closed division = IsDue new answer p.progress (record { progress = after_all p.progress (unfinished_commands division); division = over }) (replies p.progress (unfinished_commands division))

      block_is : (division : Division) → p.division ≡ division → IsDivision (Within block) division
      block_is division same = subst (IsDivision (Within block)) same (subst (λ known. IsDivision known p.division) is at.division)

      by_division : (division : Division) → p.division ≡ division → IsDue new answer p.progress (closed_at p) (closing_reply p)
      by_division between same = absurd (block_is between same)
      by_division over same = absurd (block_is over same)
      by_division (within command) same =
          let due = all (record p { division = over }) command (record {
            engine = engine ∙ at.engine;
            sound = at.sound;
            place = subst (λ place. IsSomeAnd place (λ place. IsPlace place p.progress.store)) (sym place) at.place;
            division = subst (λ known. IsDivision known over) (sym ended) tt;
          }) (block_is (within command) same) in
          subst Closed (sym same) (record {
            text = due.text ∙ sym (append-nil (reply_to p.progress command));
            refused = due.refused;
            asked = due.asked;
            engine = due.engine;
            sound = due.sound;
            place = due.place;
            division = due.division;
            does = due.does;
          })

pub returns-in-Within-clause-due : goal.returns-in-Within-clause-due
returns-in-Within-clause-due c =
    IfOk-weaker c.end_block.result _ _
    (λ answer all p at. closed c.args.self.now _ c.end_block.new.self answer c.in-Within.block refl refl c.replace.ensures.after all p (sym c.replace.ensures.value ∙ c.in-Within.is) at)
    c.end_block.ensures.due
