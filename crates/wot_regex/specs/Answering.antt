-- What is kept of a scope's answers.
use Rattle.std.specs.Prelude.{◌≡◌, List, ℕ, Some}
use Rattle.std.specs.List.{All}
use Rattle.wot_types.specs.Scope.{admits}
use Rattle.wot_regex.specs.declared.answers.Answer.{Answer}
use Rattle.wot_regex.specs.declared.answers.Answers.{Answers}

-- the scope admits the text, or not, as the answer says
abbrev pub IsAnswer : List ℕ → Answer → Type 0
IsAnswer scope answer = answer.admitted ≡ admits (Some scope) answer.text.items

abbrev pub AreAnswers : List ℕ → Answers → Type 0
AreAnswers scope answers = All (λ answer. IsAnswer scope answer.value) answers.items.items
