-- The reply to an accepted edit, told of the state after it.
use Rattle.std.specs.Prelude.{ℕ, List}
use Rattle.wot_types.specs.Outcome.{sample_reply}
use Rattle.wot_types.specs.State.{State}
use Rattle.wot_answer.specs.declared.edit_reply.EditReply.{EditReply}
use Rattle.wot_answer.specs.declared.edit_reply.EditReply.TheVariants.{Text, Tally}

abbrev pub reply_text : EditReply → State → List ℕ
reply_text (Text text) after = text.items
reply_text (Tally count) after = sample_reply after count
