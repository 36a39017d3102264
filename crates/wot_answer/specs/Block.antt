-- A block that is read as it comes, and the lines that it has had.
use Rattle.std.specs.Prelude.{◌≡◌, ℕ, Bool, true, List, if◌then◌else◌, Option, Some, None, is_none, Result, Ok}
use Rattle.std.specs.List.{list_any}
use Rattle.std.specs.Result.{result_err}
use Rattle.wot_types.specs.declared.head.Head.{Head}
use Rattle.wot_types.specs.declared.head.Head.TheVariants.{Import, Ownertrust}
use Rattle.wot_types.specs.declared.refusal.Refusal.{Refusal}
use Rattle.wot_types.specs.declared.refusal.Refusal.TheVariants.{LineTooLong}
use Rattle.wot_types.specs.Commands.{Command, ReadLine, block_texts}
use Rattle.wot_types.specs.Grammar.{command_of, has_block}
use Rattle.wot_listing.specs.Reading.{HasRead}
use Rattle.wot_ownertrust.specs.Reading.{reading_of}
use Rattle.wot_answer.specs.declared.block.Block.{Block}
use Rattle.wot_answer.specs.declared.block.Body.{Body}
use Rattle.wot_answer.specs.declared.block.Body.TheVariants as body

abbrev pub has_long : List ReadLine → Bool
has_long lines = list_any is_none lines

-- why a command is refused whatever else its block holds: a line of it is too long, or its words are bad
abbrev pub refused_for : Result Head Refusal → List ReadLine → Option Refusal
refused_for head lines = if has_long lines then Some LineTooLong else result_err head

-- the block of a command with this head has had these lines
abbrev pub HasHad : Body → Result Head Refusal → List ReadLine → Type 0
HasHad (body.Refused why) head lines = refused_for head lines ≡ Some why
HasHad (body.Listing listing) head lines = (refused_for head lines ≡ None) × (head ≡ Ok Import) × HasRead listing (block_texts lines)
HasHad (body.Ownertrust text) head lines = (refused_for head lines ≡ None) × (head ≡ Ok Ownertrust) × (text ≡ reading_of (block_texts lines))

-- it is read for this command
pub record IsReadFor (body : Body) (command : Command) : Type 0 where
  pub words : List (List ℕ)
  pub given : command.words ≡ Some words
  pub opens : has_block words ≡ true
  pub had : HasHad body (command_of words) command.block

-- the block of a command that is unfinished
pub record IsBlockOf (block : Block) (command : Command) : Type 0 where
  pub read : IsReadFor block.body command
  pub to_end : command.ended ≡ block.to_end
