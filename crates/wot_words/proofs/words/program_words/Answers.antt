use Rattle.std.proofs.Common.{◌≡◌, ◌∙◌, IfOk, Option, Some, refl, subst, sym}
use Rattle.wot_words.specs.declared.words.ProgramWords.{ProgramWords}
use Rattle.wot_words.proofs.Answer.{all_text, parsed, refused}
use Rattle.wot_words.proofs.words.program_words.Goals as goal

pub returns-in_err-matches-clause-usage : goal.returns-in_err-matches-clause-usage
returns-in_err-matches-clause-usage c = λ e.
    let gives = c.from_residual-in_err-matches.ensures.1 in
    refused _ _ (all_text c.args.words.now) c.in_ok-command_line.ensures c.in_err-matches.field-0.0 c.in_err-matches.ensures.kinds ((rw e at gives) refl)

pub returns-clause-read : goal.returns-clause-read
returns-clause-read c =
    let same = parsed _ _ (all_text c.args.words.now) c.in_ok-command_line.ensures c.in_ok-matches.matches c.in_ok-matches.ensures.matches c.in_ok-matches.ensures.kinds in
    subst (λ (o : Option ProgramWords). IfOk c.words_asked.result (λ read. o ≡ Some read)) (sym same) c.words_asked.ensures.read

pub returns-clause-usage : goal.returns-clause-usage
returns-clause-usage c = λ e.
    parsed _ _ (all_text c.args.words.now) c.in_ok-command_line.ensures c.in_ok-matches.matches c.in_ok-matches.ensures.matches c.in_ok-matches.ensures.kinds ∙ c.words_asked.ensures.usage e
