-- A text as the reader of listings is given it.
use Rattle.std.specs.Prelude.{ℕ, List, map}
use Rattle.wot_types.specs.Lines.{lines, without_return}

-- its lines, each without its carriage return
abbrev pub listing_lines : List ℕ → List (List ℕ)
listing_lines text = map without_return (lines text)
