-- Regular expressions, as trees.
use Rattle.std.specs.Prelude.{ℕ, Bool, List}

-- what takes one byte: any byte does; a byte takes itself; a range has members, each from a first to a last byte, and may be negated
pub data Symbol : Type 0 where
  any : Symbol
  byte : ℕ → Symbol
  range : Bool → List (ℕ × ℕ) → Symbol

-- no piece; one byte; the start and the end of the text; one after another; one or another; `*`, `+` and `?`
pub data Tree : Type 0 where
  nothing : Tree
  symbol : Symbol → Tree
  text_start : Tree
  text_end : Tree
  followed : Tree → Tree → Tree
  either : Tree → Tree → Tree
  any_number : Tree → Tree
  at_least_one : Tree → Tree
  at_most_one : Tree → Tree
