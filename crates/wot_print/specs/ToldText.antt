-- An explanation by its own fields: what its lines show.
use Rattle.std.specs.Prelude.{ℕ, List, ◌++◌, None}
use Rattle.std.specs.List.{flat_map}
use Rattle.wot_types.specs.declared.letter.Letter.{Letter}
use Rattle.wot_types.specs.declared.row.Row.{Row}
use Rattle.wot_types.specs.WhyText.{by_line, cut_line, row_line, why_line}
use Rattle.wot_explain.specs.declared.why.Counted.{Counted}
use Rattle.wot_explain.specs.declared.why.Why.{Why}

-- a candidate by its key ID and its trust alone
abbrev pub shown_counted : Counted → Row
shown_counted candidate = record { key = candidate.key; level = 0; trust = candidate.trust; left = 0; scope = None; via = None }

-- the lines of any explanation, with the letter over the cut keyring
abbrev pub told_text : ℕ → ℕ → Why → Letter → List ℕ
told_text id user why letter =
    why_line id user why.letter why.count ++ flat_map row_line why.rows ++ flat_map (λ c. by_line (shown_counted c)) why.counted ++ cut_line letter
