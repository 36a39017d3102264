-- The commands of an input that comes in pieces.
use Rattle.std.proofs.Common.{◌≡◌, ℕ, ◌==◌, List, [], ◌++◌, ◌∷◌, length, map, if◌then◌else◌, Option, Some, sym, ap, ◌∙◌, append_assoc}
use Rattle.std.proofs.lemmas.List.{append-nil, map-append}
use Rattle.wot_types.specs.Lines.{lines, open_line, read_line, whole_lines}
use Rattle.wot_types.specs.Commands.{division_after, unfinished_commands, whole_commands}
use Rattle.wot_types.specs.Commands.Division.{over}
use Rattle.wot_types.specs.LineByLine.{Position, after_lines, commands_in}
use Rattle.wot_types.specs.Session.{after_all, replies}
use Rattle.wot_types.proofs.Divisions as laws
use Rattle.wot_types.proofs.Divisions.{after_commands_append, commands_append, division_append, lines_append}
use Rattle.wot_session.specs.AtEnd.{at_end, last_commands}
use Rattle.wot_session.specs.OpenLine.{last_lines, open_from, whole_from}
use Rattle.wot_session.specs.Input.{commands_at, division_at, end_at, so_far_at, whole_at}
use Rattle.wot_tell.specs.Telling.{IsPrefixOf}
use Rattle.wot_session.specs.Turn.{commands_fed, division_fed}
use Rattle.wot_session.proofs.Feeds.{over_commands, over_lines}
use Rattle.wot_session.proofs.Parts.{last_is, open_start, whole_append, whole_start}

-- where a session stands after these bytes
abbrev pub position_after : Position → List ℕ → Position
position_after s bytes = after_lines s (whole_from (Some []) bytes)

-- the commands that are whole in some bytes, by the lines that were fed
fed_commands : (s : Position) (fed : List ℕ) → whole_at s fed ≡ commands_in s (whole_from (Some []) fed)
fed_commands s fed = ap (whole_commands s.division) (sym (whole_start fed))

pub fed_division : (s : Position) (fed : List ℕ) → division_at s fed ≡ (position_after s fed).division
fed_division s fed = ap (division_after s.division) (sym (whole_start fed))

pub progress_after : (s : Position) (fed : List ℕ) → (position_after s fed).progress ≡ after_all s.progress (whole_at s fed)
progress_after s fed = ap (after_all s.progress) (sym (fed_commands s fed))

pub position_append : (s : Position) (xs ys : List ℕ) → position_after s (xs ++ ys) ≡ after_lines (position_after s xs) (whole_from (open_from (Some []) xs) ys)
position_append s xs ys =
    ap (after_lines s) (whole_append xs ys (Some []))
    ∙ lines_append s (whole_from (Some []) xs) (whole_from (open_from (Some []) xs) ys)

-- the commands of some bytes, and then those of the next piece
pub whole_more : (s : Position) (fed piece : List ℕ) → whole_at s (fed ++ piece) ≡ whole_at s fed ++ commands_fed (position_after s fed) (open_from (Some []) fed) piece
whole_more s fed piece =
    fed_commands s (fed ++ piece)
    ∙ ap (commands_in s) (whole_append fed piece (Some []))
    ∙ laws.whole_append s.division (whole_from (Some []) fed) (whole_from (open_from (Some []) fed) piece)
    ∙ ap (λ front. front ++ commands_fed (position_after s fed) (open_from (Some []) fed) piece) (sym (fed_commands s fed))

pub division_more : (s : Position) (fed piece : List ℕ) → division_at s (fed ++ piece) ≡ division_fed (position_after s fed) (open_from (Some []) fed) piece
division_more s fed piece =
    fed_division s (fed ++ piece)
    ∙ ap (division_after s.division) (whole_append fed piece (Some []))
    ∙ division_append s.division (whole_from (Some []) fed) (whole_from (open_from (Some []) fed) piece)

-- all lines: those that a newline ends, and the last one
all_lines : (input : List ℕ) → map read_line (lines input) ≡ whole_from (Some []) input ++ last_lines (open_from (Some []) input)
all_lines input =
    let last = if length (open_line input) == 0 then [] else open_line input ∷ [] in
    let split = map-append read_line (whole_lines input) last in
    let ends = ap last_lines (open_start input) ∙ last_is (open_line input) in
    split ∙ ap (λ front. front ++ map read_line last) (sym (whole_start input)) ∙ ap (λ back. whole_from (Some []) input ++ back) (sym ends)

-- all commands of an input: those that are whole, and those at the end
pub commands_end : (s : Position) (input : List ℕ) → commands_at s input ≡ whole_at s input ++ last_commands (position_after s input) (open_from (Some []) input)
commands_end s input =
    let whole = whole_from (Some []) input in
    let last = last_lines (open_from (Some []) input) in
    let t = position_after s input in
    ap (λ lines. commands_in s lines ++ unfinished_commands (division_after s.division lines)) (all_lines input)
    ∙ ap (λ front. front ++ unfinished_commands (division_after s.division (whole ++ last))) (laws.whole_append s.division whole last)
    ∙ ap (λ division. (commands_in s whole ++ commands_in t last) ++ unfinished_commands division) (division_append s.division whole last)
    ∙ append_assoc (commands_in s whole) (commands_in t last) (unfinished_commands (after_lines t last).division)
    ∙ ap (λ front. front ++ last_commands t (open_from (Some []) input)) (sym (fed_commands s input))

-- how far a session has come at the end
pub end_is : (s : Position) (input : List ℕ) → end_at s input ≡ (at_end (position_after s input) (open_from (Some []) input)).progress
end_is s input =
    let line = open_from (Some []) input in
    let t = position_after s input in
    ap (after_all s.progress) (commands_end s input)
    ∙ after_commands_append s.progress (whole_at s input) (last_commands t line)
    ∙ ap (λ p. after_all p (last_commands t line)) (sym (progress_after s input))
    ∙ after_commands_append t.progress (commands_in t (last_lines line)) (unfinished_commands (after_lines t (last_lines line)).division)

-- what is whole in the first bytes are the first commands of all
pub commands_more : (s : Position) (fed rest : List ℕ)
    → commands_at s (fed ++ rest) ≡ whole_at s fed ++ (commands_fed (position_after s fed) (open_from (Some []) fed) rest ++ last_commands (position_after s (fed ++ rest)) (open_from (Some []) (fed ++ rest)))
commands_more s fed rest =
    let next = commands_fed (position_after s fed) (open_from (Some []) fed) rest in
    let last = last_commands (position_after s (fed ++ rest)) (open_from (Some []) (fed ++ rest)) in
    commands_end s (fed ++ rest) ∙ ap (λ front. front ++ last) (whole_more s fed rest) ∙ append_assoc (whole_at s fed) next last

-- behind `quit` there are no further ones
over_last : (p : Position) (line : Option (List ℕ)) → p.division ≡ over → last_commands p line ≡ []
over_last p line is =
    ap (λ front. front ++ unfinished_commands (after_lines p (last_lines line)).division) (over_commands p (last_lines line) is)
    ∙ ap (λ (q : Position). unfinished_commands q.division) (over_lines p (last_lines line) is) ∙ ap unfinished_commands is

pub commands_over : (s : Position) (fed rest : List ℕ) → (position_after s fed).division ≡ over → commands_at s (fed ++ rest) ≡ whole_at s fed
commands_over s fed rest is =
    let t = position_after s fed in
    let line = open_from (Some []) fed in
    let same : position_after s (fed ++ rest) ≡ t = position_append s fed rest ∙ over_lines t (whole_from line rest) is in
    commands_more s fed rest
    ∙ ap (λ next. whole_at s fed ++ (next ++ last_commands (position_after s (fed ++ rest)) (open_from (Some []) (fed ++ rest)))) (over_commands t (whole_from line rest) is)
    ∙ ap (λ last. whole_at s fed ++ last) (over_last (position_after s (fed ++ rest)) (open_from (Some []) (fed ++ rest)) (ap (λ (q : Position). q.division) same ∙ is))
    ∙ append-nil (whole_at s fed)

-- the replies so far, and then those to what comes next
pub so_far_append : (s : Position) (xs ys : List ℕ)
    → so_far_at s (xs ++ ys) ≡ so_far_at s xs ++ replies (position_after s xs).progress (commands_fed (position_after s xs) (open_from (Some []) xs) ys)
so_far_append s xs ys =
    let next = commands_fed (position_after s xs) (open_from (Some []) xs) ys in
    ap (replies s.progress) (whole_more s xs ys)
    ∙ commands_append s.progress (whole_at s xs) next
    ∙ ap (λ p. so_far_at s xs ++ replies p next) (sym (progress_after s xs))

-- the whole output: the replies so far, and those at the end
pub output_is : (s : Position) (input : List ℕ)
    → replies s.progress (commands_at s input) ≡ so_far_at s input ++ replies (position_after s input).progress (last_commands (position_after s input) (open_from (Some []) input))
output_is s input =
    let last = last_commands (position_after s input) (open_from (Some []) input) in
    ap (replies s.progress) (commands_end s input)
    ∙ commands_append s.progress (whole_at s input) last
    ∙ ap (λ p. so_far_at s input ++ replies p last) (sym (progress_after s input))

-- what was replied so far is a prefix of the output
pub so_far_prefix : (s : Position) (fed rest : List ℕ) → IsPrefixOf (so_far_at s fed) (replies s.progress (commands_at s (fed ++ rest)))
so_far_prefix s fed rest =
    let more = commands_fed (position_after s fed) (open_from (Some []) fed) rest ++ last_commands (position_after s (fed ++ rest)) (open_from (Some []) (fed ++ rest)) in (
      replies (after_all s.progress (whole_at s fed)) more,
      sym (commands_append s.progress (whole_at s fed) more) ∙ ap (replies s.progress) (sym (commands_more s fed rest)),
    )
