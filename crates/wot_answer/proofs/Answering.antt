-- Where a session stands after a line was answered.
use Rattle.std.proofs.Common.{◌≡◌, ℕ, true, false, ◌||◌, List, [], ◌∷◌, if◌then◌else◌, Some, Result, Ok, Err, refl, sym, ap, ◌∙◌, subst}
use Rattle.std.specs.Prelude.{IfOk, not, ◌&&◌}
use Rattle.std.proofs.lemmas.Bool.{not-false}
use Rattle.std.proofs.lemmas.List.{append-nil}
use Rattle.std.proofs.Math.Bool.{or-false}
use Rattle.wot_types.specs.State.{State}
use Rattle.wot_types.specs.Commands as lines
use Rattle.wot_types.specs.Commands.{Command, ReadLine, closed_command, divided_by, ends, ends_block, is_quit, made_by, of_line, opened_command, opens_block, with_line, words_in}
use Rattle.wot_types.specs.Commands.Division.{between, within, over}
use Rattle.wot_types.specs.Grammar.{has_block}
use Rattle.wot_types.specs.LineByLine.{Position}
use Rattle.wot_types.specs.Outcome.{outcome, skip}
use Rattle.wot_types.specs.Session.{after_all, replies}
use Rattle.wot_answer.specs.declared.block.Block.{Block}
use Rattle.wot_answer.specs.Block.{IsBlockOf}
use Rattle.wot_answer.specs.declared.answer.Answered.{Answered}
use Rattle.wot_answer.specs.declared.division.Division.{Division}
use Rattle.wot_answer.specs.declared.division.Division.TheVariants.{Between, Within, Over}
use Rattle.wot_answer.specs.Answer.{Answers, Does, Ends, IsAsked, IsDivision, IsReply, answer_text, effect_of, is_refusal, reads_on}

-- an answer to a line, and the division after it
module _ (answered : Answered) (division : Division) (p : Position) (line : ReadLine) where
  -- a command is whole, and was answered
  pub answers_whole : (command : Command) → made_by p.division line ≡ command ∷ [] → Ends answered p.progress.store (outcome p.progress.store command) → IsDivision division (divided_by p.division line)
      → Answers (record { answered = answered; division = division }) p line
  answers_whole command made ends now = record {
    text = subst (λ cs. replies p.progress cs ≡ answer_text answered.answer (after_all p.progress cs).store) (sym made) (append-nil _ ∙ ends.text);
    refused = subst (λ cs. (after_all p.progress cs).refused ≡ (p.progress.refused || is_refusal answered.answer (after_all p.progress cs).store)) (sym made) (ap (λ b. p.progress.refused || b) ends.refused);
    asked = subst (λ cs. IsAsked answered.answer (after_all p.progress cs).store) (sym made) ends.asked;
    state = ap (λ cs. (after_all p.progress cs).store.state) made ∙ ends.state;
    division = now;
    does = subst (λ cs. Does (effect_of answered.answer) p.progress.store (after_all p.progress cs).store) (sym made) ends.does;
  }

  -- no command is whole, and nothing was told
  pub answers_none : (old : State) → old ≡ p.progress.store.state → made_by p.division line ≡ [] → IsReply answered old skip → IsDivision division (divided_by p.division line)
      → Answers (record { answered = answered; division = division }) p line
  answers_none old same none reply now =
      let nothing = reply p.progress.store same in
      record {
        text = subst (λ cs. replies p.progress cs ≡ answer_text answered.answer (after_all p.progress cs).store) (sym none) nothing.text;
        refused = subst (λ cs. (after_all p.progress cs).refused ≡ (p.progress.refused || is_refusal answered.answer (after_all p.progress cs).store)) (sym none)
            (sym (or-false p.progress.refused) ∙ ap (λ b. p.progress.refused || b) nothing.refused);
        asked = subst (λ cs. IsAsked answered.answer (after_all p.progress cs).store) (sym none) nothing.asked;
        state = ap (λ cs. (after_all p.progress cs).store.state) none ∙ nothing.state;
        division = now;
        does = subst (λ cs. Does (effect_of answered.answer) p.progress.store (after_all p.progress cs).store) (sym none) nothing.does;
      }

  -- between two commands: one whose line is whole
  pub answers_line : p.division ≡ between → opens_block line ≡ false → Ends answered p.progress.store (outcome p.progress.store (of_line line))
      → IsDivision division (if is_quit (words_in line) then over else between) → Answers (record { answered = answered; division = division }) p line
  answers_line here single ends now =
      answers_whole (of_line line) (ap (λ c. made_by c line) here ∙ ap (λ b. if b then [] else of_line line ∷ []) single) ends
      (subst (IsDivision division) (sym (ap (λ c. divided_by c line) here ∙ ap (λ b. if b then within (opened_command line) else if is_quit (words_in line) then over else between) single)) now)

  -- one whose block begins
  pub answers_opened : (old : State) → old ≡ p.progress.store.state → p.division ≡ between → opens_block line ≡ true → IsReply answered old skip → IsDivision division (within (opened_command line))
      → Answers (record { answered = answered; division = division }) p line
  answers_opened old same here opens reply now =
      answers_none old same (ap (λ c. made_by c line) here ∙ ap (λ b. if b then [] else of_line line ∷ []) opens) reply
      (subst (IsDivision division) (sym (ap (λ c. divided_by c line) here ∙ ap (λ b. if b then within (opened_command line) else if is_quit (words_in line) then over else between) opens)) now)

module _ (answered : Answered) (p : Position) (line : ReadLine) where
  -- within a block: its end
  pub answers_end : (command : Command) → p.division ≡ within command → ends command line ≡ true → Ends answered p.progress.store (outcome p.progress.store (closed_command command))
      → Answers (record { answered = answered; division = Between }) p line
  answers_end command here ended replied =
      answers_whole answered Between p line (closed_command command) (ap (λ c. made_by c line) here ∙ ap (λ b. if b then closed_command command ∷ [] else []) ended) replied
      (subst (IsDivision Between) (sym (ap (λ c. divided_by c line) here ∙ ap (λ b. if b then between else within (with_line command line)) ended)) tt)

  -- behind `quit`
  pub answers_over : (old : State) → old ≡ p.progress.store.state → p.division ≡ over → IsReply answered old skip → Answers (record { answered = answered; division = Over }) p line
  answers_over old same here reply =
      answers_none answered Over p line old same (ap (λ c. made_by c line) here) reply
      (subst (IsDivision Over) (sym (ap (λ c. divided_by c line) here)) tt)

-- what the division is where an answer holds it
pub is_between : (c : lines.Division) → IsDivision Between c → c ≡ between
is_between between is = refl
is_between (within command) is = absurd is
is_between over is = absurd is

pub is_over : (c : lines.Division) → IsDivision Over c → c ≡ over
is_over over is = refl
is_over (within command) is = absurd is
is_over between is = absurd is

pub within_division : (block : Block) (c : lines.Division) → IsDivision (Within block) c → (command : Command) × (c ≡ within command) × IsBlockOf block command
within_division block (within command) is = (command, refl, is)
within_division block between is = absurd is
within_division block over is = absurd is

-- the words of a command whose block is read
pub block_opens : (block : Block) (command : Command) (words : List (List ℕ)) → IsBlockOf block command → command.words ≡ Some words → has_block words ≡ true
block_opens block command words of is = ap lines.opens (sym is ∙ of.read.given) ∙ of.read.opens

-- a line that a block doesn't go on with ends the block of its command
pub is_ended : (block : Block) (command : Command) (line : ReadLine) → IsBlockOf block command → reads_on (Within block) line ≡ false → ends command line ≡ true
is_ended block command line of stops = ap (λ b. not b && ends_block line) of.to_end ∙ not-false _ stops

-- two facts of one result
pub if_both : {X E : Type 0} (P Q : X → Type 0) (r : Result X E) → IfOk r P → IfOk r Q → IfOk r (λ x. P x × Q x)
if_both P Q (Ok x) p q = (p, q)
if_both P Q (Err e) p q = tt
