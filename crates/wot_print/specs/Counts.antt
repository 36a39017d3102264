-- How many of some letters are which.
use Rattle.std.specs.Prelude.{ℕ, List, [], ◌∷◌, ◌++◌, codes, count_by}
use Rattle.std.specs.FinMap as finmap
use Rattle.wot_types.specs.declared.letter.Letter.{Letter}
use Rattle.wot_types.specs.declared.letter.Letter.TheVariants.{Dash, Q, M, F, U, R, E}
use Rattle.wot_types.specs.Bytes.{newline}
use Rattle.wot_types.specs.Candidates.{RowMap}
use Rattle.wot_types.specs.Numbers.{capped}
use Rattle.wot_types.specs.Printing.{number_field}
use Rattle.wot_types.specs.Tally.{same_letter}
use Rattle.wot_print.specs.declared.counts.LetterCounts.{LetterCounts}

abbrev pub count_in : List Letter → Letter → ℕ
count_in letters letter = capped (count_by (same_letter letter) letters)

abbrev pub counts_of : List Letter → LetterCounts
counts_of letters = record {
  ultimate = count_in letters U;
  full = count_in letters F;
  marginal = count_in letters M;
  undefined = count_in letters Q;
  unknown = count_in letters Dash;
  revoked = count_in letters R;
  expired = count_in letters E;
}

-- the fields of a tally, from the best letter to the marks
abbrev pub count_fields : LetterCounts → List ℕ
count_fields counts =
    number_field counts.ultimate ++ number_field counts.full ++ number_field counts.marginal ++ number_field counts.undefined
    ++ number_field counts.unknown ++ number_field counts.revoked ++ number_field counts.expired

-- tally:ROWS: and the counts
abbrev pub counts_line : RowMap → LetterCounts → List ℕ
counts_line rows counts = codes "tally:" ++ number_field (capped (finmap.len rows)) ++ count_fields counts ++ newline ∷ []
