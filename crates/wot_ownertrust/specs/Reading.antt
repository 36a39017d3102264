-- Reading an ownertrust text line by line.
use Rattle.std.specs.Prelude.{ℕ, ◌+◌, List, length, Option, Some, None, Result, Ok, Err}
use Rattle.std.specs.FinMap as finmap
use Rattle.wot_types.specs.declared.fault.OwnertrustFault.{OwnertrustFault}
use Rattle.wot_types.specs.declared.ownertrust.Entry.{Entry}
use Rattle.wot_types.specs.Ownertrust.{OwnertrustMap, kept_of}
use Rattle.wot_types.specs.OwnertrustText.{entry_of_line, ownertrust_fault, text_entries}
use Rattle.wot_types.specs.Numbers.{capped}

-- what is kept of lines: their entries and how many lines there are, or the first fault
abbrev pub SoFar : Type 0
SoFar = Result (OwnertrustMap × ℕ) (ℕ × OwnertrustFault)

abbrev pub so_far : Option (ℕ × OwnertrustFault) → OwnertrustMap → ℕ → SoFar
so_far (Some fault) entries count = Err fault
so_far None entries count = Ok (entries, count)

abbrev pub reading_of : List (List ℕ) → SoFar
reading_of lines = so_far (ownertrust_fault lines) (text_entries lines) (capped (length lines))

-- after one more line, which is the line of this number
abbrev pub by_line : Result (Option Entry) OwnertrustFault → OwnertrustMap → ℕ → SoFar
by_line (Err what) entries number = Err (number, what)
by_line (Ok None) entries number = Ok (entries, number)
by_line (Ok (Some entry)) entries number = Ok (finmap.insert entries entry.fpr (kept_of entry), number)

abbrev pub so_far_after : SoFar → List ℕ → SoFar
so_far_after (Err fault) line = Err fault
so_far_after (Ok kept) line = by_line (entry_of_line line) kept.0 (capped (kept.1 + 1))
