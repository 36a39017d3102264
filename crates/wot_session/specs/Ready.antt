-- What is to be told.
use Rattle.std.specs.Prelude.{ℕ, List, ◌++◌}
use Rattle.wot_types.specs.Outcome.{ok_line}
use Rattle.wot_session.specs.declared.ready.Ready.{Ready}
use Rattle.wot_session.specs.declared.ready.Ready.TheVariants.{Text, Printout}

-- a text, or a listing and the last line of a reply
abbrev pub text_of : Ready → List ℕ
text_of (Text text) = text.items
text_of (Printout printout) = printout ++ ok_line
