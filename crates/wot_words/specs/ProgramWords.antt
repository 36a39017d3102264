-- The words after the program's name: the number of workers, and the words of one command.
use Rattle.std.specs.Prelude.{ℕ, ◌&&◌, nat_eq, nat_le, Bool, List, [], ◌∷◌, length, take, drop, if◌then◌else◌, Option, Some, None, option_map, option_and_then, unwrap_or, codes}
use Rattle.std.specs.Cmp.Lexicographic.{pointwise}
use Rattle.wot_types.specs.Bytes.{is_word}
use Rattle.wot_types.specs.Numbers.{number}
use Rattle.wot_words.specs.declared.words.ProgramWords.{ProgramWords}

-- what the next word may be: an option or a command's word, the number of workers, or a command's word alone
pub data Stage : Type 0 where
  Options : Stage
  Workers : Stage
  Command : Stage

abbrev pub begins_with : List ℕ → List ℕ → Bool
begins_with text word = pointwise nat_eq (take (length text) word) text

-- 1 to 64 workers
abbrev pub in_range : ℕ → Option ℕ
in_range n = if nat_le 1 n && nat_le n 64 then Some n else None

-- the number of workers is given once
abbrev pub workers_given : Option ℕ → List ℕ → Option ℕ
workers_given None text = option_and_then in_range (number text)
workers_given (Some before) text = None

-- without the option there is one worker
abbrev pub with_command : Option ℕ → List (List ℕ) → ProgramWords
with_command workers command = record { workers = unwrap_or workers 1; command = command }

-- a command's word before the others
abbrev pub with_word : List ℕ → ProgramWords → ProgramWords
with_word word words = record { workers = words.workers; command = word ∷ words.command }

-- what words ask for, read from left to right where a number of workers may have been given; None where they aren't in the grammar
unfoldable pub words_after : Stage → Option ℕ → List (List ℕ) → Option ProgramWords
words_after Options workers [] = Some (with_command workers [])
words_after Options workers (word ∷ rest) =
    if is_word (codes "--") word then words_after Command workers rest else
    if is_word (codes "--workers") word then words_after Workers workers rest else
    if begins_with (codes "--workers=") word then option_and_then (λ n. words_after Options (Some n) rest) (workers_given workers (drop 10 word)) else
    if begins_with (codes "-") word then None else option_map (with_word word) (words_after Options workers rest)
words_after Workers workers [] = None
words_after Workers workers (value ∷ rest) = option_and_then (λ n. words_after Options (Some n) rest) (workers_given workers value)
words_after Command workers [] = Some (with_command workers [])
words_after Command workers (word ∷ rest) = if is_word (codes "-") word then None else option_map (with_word word) (words_after Command workers rest)

abbrev pub program_words : List (List ℕ) → Option ProgramWords
program_words words = words_after Options None words

-- the words of the command; None where the words aren't in the grammar
abbrev pub command_words : List (List ℕ) → Option (List (List ℕ))
command_words words = option_map (λ asked. asked.command) (program_words words)
