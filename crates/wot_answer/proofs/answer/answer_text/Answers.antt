use Rattle.std.proofs.Common.{◌≡◌, Some, false, ap, refl, sym, subst, ◌∙◌}
use Rattle.std.specs.Prelude.{[], if◌then◌else◌}
use Rattle.wot_types.specs.Commands.{begun_command, is_quit, line_words, opened_command}
use Rattle.wot_types.specs.Commands.Division.{between, over}
use Rattle.wot_types.specs.Grammar.{has_block}
use Rattle.wot_types.specs.Lines.{without_return}
use Rattle.wot_types.specs.Outcome.{outcome}
use Rattle.wot_answer.specs.Answer.{Ends, IsDivision}
use Rattle.wot_answer.specs.Begun.{Begins, IsSingle, opened_by}
use Rattle.wot_answer.specs.Block.{IsBlockOf}
use Rattle.wot_answer.specs.declared.division.Division.TheVariants.{Between}
use Rattle.wot_answer.proofs.Answering.{answers_line, answers_opened, block_opens}
use Rattle.wot_answer.proofs.Outcomes.{nothing_is}
use Rattle.wot_answer.proofs.answer.answer_text.Goals as goal

pub returns-in-Nothing : goal.returns-in-Nothing
returns-in-Nothing c =
    let words = line_words (without_return c.args.line.now) in
    let is : c.in_ok-words.words ≡ words = c.in_ok-words.ensures ∙ ap line_words c.without_return.ensures in
    let none : words ≡ [] = sym is ∙ subst (λ a. Begins a c.in_ok-words.words false) c.in-Nothing.is c.in_ok-read_command.ensures.begins in
    record {
      answers = λ p same at many here.
          answers_line c.say_nothing.result _ p (Some c.args.line.now) here (ap has_block none)
          (subst (Ends c.say_nothing.result p.progress.store) (sym (ap (λ w. outcome p.progress.store (begun_command w)) none ∙ nothing_is p.progress.store)) (c.say_nothing.ensures.reply p.progress.store same))
          (subst (λ w. IsDivision Between (if is_quit (Some w) then over else between)) (sym none) tt);
    }

pub returns-in-Block : goal.returns-in-Block
returns-in-Block c =
    let words = line_words (without_return c.args.line.now) in
    let is : c.in_ok-words.words ≡ words = c.in_ok-words.ensures ∙ ap line_words c.without_return.ensures in
    let block : IsBlockOf c.in-Block.block (opened_command (Some c.args.line.now)) =
    subst (λ w. IsBlockOf c.in-Block.block (opened_by w false)) is (subst (λ a. Begins a c.in_ok-words.words false) c.in-Block.is c.in_ok-read_command.ensures.begins) in
    record {
      answers = λ p same at many here.
          answers_opened c.say_nothing-in-Block.result _ p (Some c.args.line.now) c.args.engine same here (block_opens _ _ words block refl) c.say_nothing-in-Block.ensures.reply block;
    }

pub returns : goal.returns
returns c =
    let words = line_words (without_return c.args.line.now) in
    let is : c.in_ok-words.words ≡ words = c.in_ok-words.ensures ∙ ap line_words c.without_return.ensures in
    let single : IsSingle c.in-Single.command words = subst (IsSingle c.in-Single.command) is (subst (λ a. Begins a c.in_ok-words.words false) c.in-Single.is c.in_ok-read_command.ensures.begins) in
    record {
      answers = λ p same at many here.
          answers_line c.in_ok-answered-in-Single.answered c.division_after.result p (Some c.args.line.now) here single.blockless
          (c.in_ok-answered-in-Single.ensures.ends p.progress.store words same at many single)
          (subst (λ w. IsDivision c.division_after.result (if is_quit (Some w) then over else between)) is c.division_after.ensures);
    }
