-- The reply to a query of an earlier state, and why there may be none.
use Rattle.std.specs.Prelude.{◌≡◌}
use Rattle.wot_types.specs.declared.query.Query.{Query}
use Rattle.wot_types.specs.Outcome.{outcome_in}
use Rattle.wot_types.specs.State.{State}
use Rattle.wot_site.specs.declared.side.Side.{Side}
use Rattle.wot_answer.specs.Answer.{is_err, reply_of}
use Rattle.wot_answer.specs.declared.reply.Reply.{Reply}
use Rattle.wot_history.specs.declared.error.HistoryError as history
use Rattle.wot_history.specs.declared.error.HistoryError.TheVariants as why
use Rattle.wot_store.specs.declared.error.BadStore.TheVariants as bad
use Rattle.wot_session.specs.declared.stop.Stop.{Stop}
use Rattle.wot_session.specs.declared.stop.Stop.TheVariants.{DiskFault, BadStore, Memory}

-- this reply, told of this engine, is what the query comes to in a state
pub record RepliesIn (s : State) (query : Query) (engine : State) (reply : Reply) : Type 0 where
  pub text : reply_of reply engine ≡ (outcome_in s query).text
  pub refused : is_err reply ≡ (outcome_in s query).refused

-- how a session stops where a side has no such state, or it was not read: a fault of the side's bytes is one of the store
abbrev pub unread_state : Side → history.HistoryError → Stop
unread_state side why.DiskFault = DiskFault
unread_state side (why.Short at) = BadStore (bad.Short side at)
unread_state side (why.Seal page) = BadStore (bad.Seal page)
unread_state side why.Spelling = BadStore bad.Spelling
unread_state side (why.Lost number) = BadStore (bad.Lost number)
unread_state side (why.BadPayload number) = BadStore (bad.BadPayload number)
unread_state side (why.BadEdit number) = BadStore (bad.BadEdit number)
unread_state side why.Memory = Memory
