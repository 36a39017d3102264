-- The end of the input: the last line, and then a command whose block is unfinished.
use Rattle.std.specs.Prelude.{ℕ, List, ◌++◌, Option}
use Rattle.wot_types.specs.Commands.{Command, unfinished_commands}
use Rattle.wot_types.specs.Commands.Division.{over}
use Rattle.wot_types.specs.LineByLine.{Position, after_closing, after_lines, commands_in}
use Rattle.wot_session.specs.OpenLine.{last_lines}

-- the commands at the end, where this line is open
abbrev pub last_commands : Position → Option (List ℕ) → List Command
last_commands p line = commands_in p (last_lines line) ++ unfinished_commands (after_lines p (last_lines line)).division

-- after the unfinished command was answered: nothing more is read
abbrev pub closed_at : Position → Position
closed_at p = record { progress = after_closing p; division = over }

abbrev pub at_end : Position → Option (List ℕ) → Position
at_end p line = closed_at (after_lines p (last_lines line))
