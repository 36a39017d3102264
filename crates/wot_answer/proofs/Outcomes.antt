-- What commands come to: by their words, and by their blocks.
use Rattle.std.proofs.Common.{◌≡◌, ℕ, Bool, true, false, ◌||◌, List, [], ◌∷◌, length, if◌then◌else◌, Option, Some, None, Result, Ok, Err, ◌↔◌, refl, sym, ap, ◌∙◌, arith}
use Rattle.std.specs.Prelude.{is_none, unwrap_or}
use Rattle.std.specs.List.{list_any}
use Rattle.std.specs.Result.{result_err}
use Rattle.wot_types.specs.declared.head.Head.{Head}
use Rattle.wot_types.specs.declared.fault.OwnertrustFault.{OwnertrustFault}
use Rattle.wot_types.specs.declared.head.Head.TheVariants.{Import, Ownertrust}
use Rattle.wot_types.specs.declared.refusal.Refusal.{Refusal}
use Rattle.wot_types.specs.declared.refusal.Refusal.TheVariants.{LineTooLong, UnendedBlock}
use Rattle.wot_types.specs.Commands.{Command, begun_command, block_texts, of_line}
use Rattle.wot_types.specs.Grammar.{command_of, has_block}
use Rattle.wot_types.specs.Listing.{fault_at_end}
use Rattle.wot_types.specs.Outcome.{entries_outcome, head_outcome, listing_outcome, outcome, refuse, skip, words_outcome}
use Rattle.wot_types.specs.OwnertrustText.{ownertrust_fault}
use Rattle.wot_types.specs.Store.{Store}
use Rattle.wot_ownertrust.specs.declared.text.TextError.{TextError}
use Rattle.wot_ownertrust.specs.declared.text.TextError.TheVariants.{Fault}
use Rattle.wot_answer.specs.Begun.{IsSingle, head_by}
use Rattle.wot_answer.specs.Block.{has_long, refused_for}
use Rattle.wot_answer.specs.declared.begun.Single.{Single}

-- a command by its words alone
some_words : (s : Store) (command : Command) (words : List (List ℕ)) → (length words ≡ 0 → ⊥) → words_outcome s command words ≡ head_outcome s command (command_of words)
some_words s command [] some = absurd (some refl)
some_words s command (name ∷ words) some = refl

begun_is : (s : Store) (words : List (List ℕ)) → (length words ≡ 0 → ⊥) → outcome s (begun_command words) ≡ head_outcome s (begun_command words) (command_of words)
unfolding outcome
begun_is s words some = some_words s (begun_command words) words some

-- the command without a block that these words are
pub single_is : (s : Store) (command known : Single) (words : List (List ℕ)) → IsSingle command words → command ≡ known → outcome s (begun_command words) ≡ head_outcome s (begun_command words) (head_by known)
single_is s command known words of is =
    begun_is s words (λ none. omega (arith, of.some, none)) ∙ ap (head_outcome s (begun_command words)) (of.head ∙ ap head_by is)

-- a line that is too long
pub long_is : (s : Store) → outcome s (of_line None) ≡ refuse LineTooLong
unfolding outcome
long_is s = refl

-- a command with a block
module _ (s : Store) (command : Command) (words : List (List ℕ)) (given : command.words ≡ Some words) (opens : has_block words ≡ true) where
  block_words : outcome s command ≡ (if has_long command.block then refuse LineTooLong else head_outcome s command (command_of words))
  unfolding outcome
  block_words =
      ap (λ w. if is_none w || list_any is_none command.block then refuse LineTooLong else words_outcome s command (unwrap_or w [])) given
      ∙ ap (λ o. if has_long command.block then refuse LineTooLong else o) (has_words words opens)
    where
      has_words : (words : List (List ℕ)) → has_block words ≡ true → words_outcome s command words ≡ head_outcome s command (command_of words)
      has_words [] none = cc
      has_words (name ∷ words) some = refl

  refused_cases : (long : Bool) (head : Result Head Refusal) (why : Refusal) → (if long then Some LineTooLong else result_err head) ≡ Some why
      → (if long then refuse LineTooLong else head_outcome s command head) ≡ refuse why
  refused_cases true head why is = ap (λ o. refuse (unwrap_or o LineTooLong)) is
  refused_cases false (Err other) why is = ap (λ o. refuse (unwrap_or o LineTooLong)) is
  refused_cases false (Ok head) why is = cc

  -- it is refused whatever else the block holds
  pub refused_is : (why : Refusal) → refused_for (command_of words) command.block ≡ Some why → outcome s command ≡ refuse why
  refused_is why is = block_words ∙ refused_cases (has_long command.block) (command_of words) why is

  read_cases : (long : Bool) (head : Result Head Refusal) → (if long then Some LineTooLong else result_err head) ≡ None
      → (if long then refuse LineTooLong else head_outcome s command head) ≡ head_outcome s command head
  read_cases true head none = cc
  read_cases false head none = refl

  -- or it is decided by its block
  pub read_is : (head : Head) → refused_for (command_of words) command.block ≡ None → command_of words ≡ Ok head → outcome s command ≡ head_outcome s command (Ok head)
  read_is head none is = block_words ∙ read_cases (has_long command.block) (command_of words) none ∙ ap (head_outcome s command) is

-- a listing, and an ownertrust text, whose end came
pub listing_is : (s : Store) (command : Command) → command.ended ≡ true → head_outcome s command (Ok Import) ≡ listing_outcome (fault_at_end (block_texts command.block)) s (block_texts command.block)
listing_is s command ended = ap (λ b. if b then listing_outcome (fault_at_end (block_texts command.block)) s (block_texts command.block) else refuse UnendedBlock) ended

pub entries_are : (s : Store) (command : Command) → command.ended ≡ true → head_outcome s command (Ok Ownertrust) ≡ entries_outcome (ownertrust_fault (block_texts command.block)) s (block_texts command.block)
entries_are s command ended = ap (λ b. if b then entries_outcome (ownertrust_fault (block_texts command.block)) s (block_texts command.block) else refuse UnendedBlock) ended

-- and those whose end didn't
pub unended_listing : (s : Store) (command : Command) → command.ended ≡ false → head_outcome s command (Ok Import) ≡ refuse UnendedBlock
unended_listing s command ended = ap (λ b. if b then listing_outcome (fault_at_end (block_texts command.block)) s (block_texts command.block) else refuse UnendedBlock) ended

pub unended_entries : (s : Store) (command : Command) → command.ended ≡ false → head_outcome s command (Ok Ownertrust) ≡ refuse UnendedBlock
unended_entries s command ended = ap (λ b. if b then entries_outcome (ownertrust_fault (block_texts command.block)) s (block_texts command.block) else refuse UnendedBlock) ended

-- no command
pub nothing_is : (s : Store) → outcome s (begun_command []) ≡ skip
unfolding outcome
nothing_is s = refl

-- an ownertrust text that ends well has no fault
pub no_fault : {E : Type 0} (f : Option (ℕ × OwnertrustFault)) (r : Result E TextError) (entries : E) → r ≡ Ok entries
    → ((line : ℕ) (what : OwnertrustFault) → (r ≡ Err (Fault line what)) ↔ (f ≡ Some (line, what))) → f ≡ None
no_fault None r entries ok is = refl
no_fault (Some (line, what)) r entries ok is = let bad = sym ok ∙ (is line what).1 refl in cc
