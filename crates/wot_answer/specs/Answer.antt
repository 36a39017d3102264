-- What a line of a session is answered with.
use Rattle.std.specs.Prelude.{◌≡◌, ℕ, ◌≤◌, List, ◌++◌, length, Bool, true, false, not, None, ◌&&◌, ◌||◌}
use Rattle.wot_types.specs.declared.edit.Edit.{Edit}
use Rattle.wot_types.specs.declared.query.Query.{Query}
use Rattle.wot_types.specs.declared.query.Query.TheVariants as query
use Rattle.wot_types.specs.State.{State}
use Rattle.wot_types.specs.Commands as lines
use Rattle.wot_types.specs.Commands.{ReadLine, ends_block}
use Rattle.wot_types.specs.Commands.Division.{between, within, over}
use Rattle.wot_types.specs.Compaction.{compacted_store}
use Rattle.wot_types.specs.EarlierStates.{earlier_state}
use Rattle.wot_types.specs.Levels.{rows_of}
use Rattle.wot_types.specs.LineByLine.{Position, after_line, reply_to_line}
use Rattle.wot_types.specs.Outcome.{Accepts, Outcome, store_after, edited_store, ok_line, outcome_in}
use Rattle.wot_types.specs.Payload.{IsWritten}
use Rattle.wot_types.specs.Printing.{list_text}
use Rattle.wot_types.specs.Store.{Store}
use Rattle.wot_types.specs.Tally.{tally_line}
use Rattle.wot_commands.specs.Heads.{IsProperQuery}
use Rattle.wot_journal.specs.Record.{Framed}
use Rattle.wot_answer.specs.Block.{IsBlockOf}
use Rattle.wot_answer.specs.declared.answer.Answered.{Answered}
use Rattle.wot_answer.specs.declared.answer.LineAnswered.{LineAnswered}
use Rattle.wot_answer.specs.declared.division.Division.{Division}
use Rattle.wot_answer.specs.declared.division.Division.TheVariants.{Between, Within, Over}
use Rattle.wot_answer.specs.declared.reply.Answer.{Answer}
use Rattle.wot_answer.specs.declared.reply.Answer.TheVariants.{Told, Earlier}
use Rattle.wot_answer.specs.declared.reply.Effect.{Effect}
use Rattle.wot_answer.specs.declared.reply.Effect.TheVariants.{Nothing, Append, Compact}
use Rattle.wot_answer.specs.declared.reply.Reply.{Reply}
use Rattle.wot_answer.specs.declared.reply.Reply.TheVariants as told

-- the lines so far are divided so
abbrev pub IsDivision : Division → lines.Division → Type 0
IsDivision Between between = Unit {0}
IsDivision (Within block) (within command) = IsBlockOf block command
IsDivision Over over = Unit {0}
IsDivision _ _ = ⊥

-- a block goes on with this line
abbrev pub reads_on : Division → ReadLine → Bool
reads_on (Within block) line = not (not block.to_end && ends_block line)
reads_on _ line = false

-- the record is that of an edit which the one store accepts, for the end of its journal, and the other is the store after it
pub record Leads (built : Framed) (s t : Store) : Type 0 where
  pub edit : Edit
  pub accepts : Accepts s edit
  pub place : s.end ≡ built.end
  pub payload : IsWritten built.payload edit
  pub after : t ≡ edited_store s edit

-- what is done to the store leads from the one to the other
abbrev pub Does : Effect → Store → Store → Type 0
Does Nothing s t = t ≡ s
Does (Append built) s t = Leads built s t
Does Compact s t = t ≡ compacted_store s

-- what a query does to the store
abbrev pub effect_by : Query → Effect
effect_by query.Compact = Compact
effect_by _ = Nothing

-- what is told in a state: a text, an `err` line, all keys without certifications or with them, or the tally with all rows counted anew
abbrev pub reply_of : Reply → State → List ℕ
reply_of (told.Text text) s = text.items
reply_of (told.Refused text) s = text.items
reply_of told.List s = list_text s None false ++ ok_line
reply_of told.Sigs s = list_text s None true ++ ok_line
reply_of told.Tally s = tally_line s (rows_of s) ++ ok_line

-- it is an `err` line
abbrev pub is_err : Reply → Bool
is_err (told.Refused text) = true
is_err _ = false

-- a query of an earlier state: `list`, `list FPR` or `why FPR PLACE`, whose place is counted from 1
abbrev pub IsEarlierQuery : Query → Type 0
IsEarlierQuery query.List = Unit {0}
IsEarlierQuery (query.ListOne fpr) = Unit {0}
IsEarlierQuery (query.Why fpr place) = 1 ≤ place
IsEarlierQuery _ = ⊥

-- a query that is asked of a state: one that words can ask for, and not of an earlier state
abbrev pub IsPresentQuery : Query → Type 0
IsPresentQuery (query.AtList n) = ⊥
IsPresentQuery (query.AtListOne n fpr) = ⊥
IsPresentQuery (query.AtWhy n fpr place) = ⊥
IsPresentQuery asked = IsProperQuery asked

-- the answer to a command that leaves this store: what is told, in the store's state or in the one after its first n edits
abbrev pub answer_text : Answer → Store → List ℕ
answer_text (Told reply effect) s = reply_of reply s.state
answer_text (Earlier n query) s = (outcome_in (earlier_state s n) query).text

-- the command is refused
abbrev pub is_refusal : Answer → Store → Bool
is_refusal (Told reply effect) s = is_err reply
is_refusal (Earlier n query) s = (outcome_in (earlier_state s n) query).refused

-- what is done to the store before it is told
abbrev pub effect_of : Answer → Effect
effect_of (Told reply effect) = effect
effect_of (Earlier n query) = Nothing

-- an earlier state that is asked is one of the store's
abbrev pub IsAsked : Answer → Store → Type 0
IsAsked (Told reply effect) s = Unit {0}
IsAsked (Earlier n query) s = (n ≤ length s.edits) × IsEarlierQuery query

-- the answer to a command with this outcome in this store: its reply, and the state after it; the store's change is due
pub record Ends (answered : Answered) (s : Store) (o : Outcome) : Type 0 where
  pub text : o.text ≡ answer_text answered.answer (store_after o.change s)
  pub refused : o.refused ≡ is_refusal answered.answer (store_after o.change s)
  pub asked : IsAsked answered.answer (store_after o.change s)
  pub state : (store_after o.change s).state ≡ answered.engine
  pub does : Does (effect_of answered.answer) s (store_after o.change s)

-- the same, whatever the store with this state
abbrev pub IsReply : Answered → State → Outcome → Type 0
IsReply answered old o = (s : Store) → old ≡ s.state → Ends answered s o

-- the answer to a line where a session has come so far, and how the lines are divided after it
pub record Answers (given : LineAnswered) (p : Position) (line : ReadLine) : Type 0 where
  pub text : reply_to_line p line ≡ answer_text given.answered.answer (after_line p line).progress.store
  pub refused : (after_line p line).progress.refused ≡ (p.progress.refused || is_refusal given.answered.answer (after_line p line).progress.store)
  pub asked : IsAsked given.answered.answer (after_line p line).progress.store
  pub state : (after_line p line).progress.store.state ≡ given.answered.engine
  pub division : IsDivision given.division (after_line p line).division
  pub does : Does (effect_of given.answered.answer) p.progress.store (after_line p line).progress.store
