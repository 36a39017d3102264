-- Where a reply ends: a program that reads replies over a pipe knows it by the line's first bytes alone.
use Rattle.std.specs.Prelude.{◌≡◌, ℕ, Bool, true, false, not, nat_eq, ◌==◌, ◌&&◌, ◌||◌, List, [], ◌∷◌, ◌++◌, length, if◌then◌else◌, unwrap_or, All, codes}
use Rattle.std.specs.FinMap as map
use Rattle.std.specs.List.{list_any, starts_with}
use Rattle.wot_types.specs.Bytes.{is_word}
use Rattle.wot_types.specs.Commands.{Command}
use Rattle.wot_types.specs.EarlierStates.{earlier_state, with_edits}
use Rattle.wot_types.specs.Keyring.{Keyring}
use Rattle.wot_types.specs.Lines.{open_line, whole_lines}
use Rattle.wot_types.specs.Outcome.{has_long_line}
use Rattle.wot_types.specs.Store.{Store}
use Rattle.wot_types.specs.WellFormed.{IsWellFormed}

-- a reply ends at the first line that begins with `ok` or `err`
abbrev pub ends_reply : List ℕ → Bool
ends_reply line = starts_with nat_eq line (codes "ok") || starts_with nat_eq line (codes "err")

-- a line that says whether a command was refused: it begins with `err ` if so, and else it is `ok` or begins with `ok `
abbrev pub tells : Bool → List ℕ → Bool
tells refused line = if refused then starts_with nat_eq line (codes "err ") else (is_word (codes "ok") line || starts_with nat_eq line (codes "ok "))

-- whole lines: the last one ends the reply and tells whether the command was refused, none before it ends it, and nothing stands behind it
pub record IsReply (refused : Bool) (text : List ℕ) : Type 0 where
  pub front : List (List ℕ)
  pub last : List ℕ
  pub lines : whole_lines text ≡ front ++ last ∷ []
  pub rest : open_line text ≡ []
  pub goes_on : list_any ends_reply front ≡ false
  pub ends : ends_reply last ≡ true
  pub told : tells refused last ≡ true

-- a line with no words is no command, and gets no reply
abbrev pub is_silent : Command → Bool
is_silent command = not (has_long_line command) && (length (unwrap_or command.words []) == 0)

-- each key is well formed, as in every keyring of the program
abbrev pub AreWellFormed : Keyring → Type 0
AreWellFormed keys = All (λ e. IsWellFormed e.1) (map.entries keys)

-- so is each key of the states that a store had since its base
abbrev pub WereWellFormed : Store → Type 0
WereWellFormed s = (n : ℕ) → AreWellFormed (earlier_state s n).keys

-- a store whose state came to be by its edits since the base, as in the program
pub record HasHistory (s : Store) : Type 0 where
  pub state : s.state ≡ with_edits s.base s.edits
  pub earlier : WereWellFormed s
