-- What words ask for, and the block that follows them.
use Rattle.std.specs.Prelude.{◌≡◌, ℕ, ◌<◌, Bool, false, List, [], length, Some, Result, Ok, Err, IfOk}
use Rattle.wot_types.specs.declared.head.Head.{Head}
use Rattle.wot_types.specs.declared.head.Head.TheVariants as head
use Rattle.wot_types.specs.declared.refusal.Refusal.{Refusal}
use Rattle.wot_types.specs.Commands.{Command}
use Rattle.wot_types.specs.Grammar.{command_of, has_block}
use Rattle.wot_commands.specs.Heads.{IsProperHead}
use Rattle.wot_answer.specs.Block.{IsBlockOf}
use Rattle.wot_answer.specs.declared.begun.Begun.{Begun}
use Rattle.wot_answer.specs.declared.begun.Begun.TheVariants as begun
use Rattle.wot_answer.specs.declared.begun.Single.{Single}
use Rattle.wot_answer.specs.declared.begun.Single.TheVariants as single

-- the command of these words before the first line of its block, which goes to the end of the input or not
abbrev pub opened_by : List (List ℕ) → Bool → Command
opened_by words to_end = record { words = Some words; block = []; ended = to_end }

-- what a command without a block asks for, or why it is refused
abbrev pub head_by : Single → Result Head Refusal
head_by (single.Edit edit) = Ok (head.Edit edit)
head_by (single.Query query) = Ok (head.Query query)
head_by (single.DeleteKey fpr) = Ok (head.DeleteKey fpr)
head_by (single.Refused why) = Err why

-- the words are a command without a block, and ask for this
pub record IsSingle (command : Single) (words : List (List ℕ)) : Type 0 where
  pub some : 0 < length words
  pub blockless : has_block words ≡ false
  pub head : command_of words ≡ head_by command
  pub proper : IfOk (head_by command) IsProperHead

-- there are no words, or a block follows them, which has had no line, or they are a command without a block
abbrev pub Begins : Begun → List (List ℕ) → Bool → Type 0
Begins begun.Nothing words to_end = words ≡ []
Begins (begun.Block block) words to_end = IsBlockOf block (opened_by words to_end)
Begins (begun.Single command) words to_end = IsSingle command words
