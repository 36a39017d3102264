-- The command line `wot [--workers N] [WORD]...` as clap reads it: the number of workers as a text, and the command's words.
use Rattle.std.specs.Prelude.{true, List, ℕ, codes, Option, Some, None, [], if◌then◌else◌, option_and_then, option_map, unwrap_or}
use Rattle.std.specs.List.{list_any}
use Rattle.wot_types.specs.Bytes.{is_word}
use Rattle.wot_words.specs.ProgramWords.{with_command, workers_given}
use Rattle.wot_words.specs.declared.words.ProgramWords.{ProgramWords}
use Rattle.clap.specs.Words.{App, Rule, Text, first_value, found_of, matched_of, new_app, new_rule, raw_values, with_rule}
use Rattle.clap.specs.Simple.{on_top}
use Rattle.clap.specs.declared.builder.action.ArgAction.TheVariants.{Append, Set}
use Rattle.clap.specs.declared.parser.matches.ArgMatches.{ArgMatches}

-- `--workers N` or `--workers=N`
abbrev pub workers_option : Rule
workers_option = record (new_rule (codes "workers")) { long = Some (codes "workers"); action = Some Set }

-- each other word
abbrev pub word_argument : Rule
word_argument = record (new_rule (codes "word")) { action = Some Append }

-- no word is the program's name, and none asks for help
abbrev pub bare_command : App
bare_command = on_top (λ top. record top { no_binary_name = true; disable_help_flag = true }) (new_app (codes "wot"))

abbrev pub command_line : App
command_line = with_rule (with_rule bare_command workers_option) word_argument

-- the number of workers that the option's text asks for: one without it
abbrev pub workers_asked : Option Text → Option ℕ
workers_asked None = Some 1
workers_asked (Some text) = workers_given None text

-- clap takes the word `-` for one of the command's, and the grammar refuses it
abbrev pub without_dash : List Text → Option (List Text)
without_dash words = if list_any (is_word (codes "-")) words then None else Some words

-- the number of workers, where it is given, and the command's words
abbrev pub Texts : Type 0
Texts = Option Text × List Text

-- the texts that a parse found
abbrev pub texts_of : ArgMatches → Texts
texts_of m = (first_value (found_of m) (codes "workers"), unwrap_or (option_map raw_values (matched_of (found_of m) (codes "word"))) [])

-- what these texts ask for
abbrev pub asked_by : Texts → Option ProgramWords
asked_by texts = option_and_then (λ n. option_map (with_command (Some n)) (without_dash texts.1)) (workers_asked texts.0)
