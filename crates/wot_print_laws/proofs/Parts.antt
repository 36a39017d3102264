-- Texts of parts, each ended by one byte: the lines of a text, and the fields of a line.
use Rattle.std.proofs.Common.{◌≡◌, ℕ, ◌-◌, ◌==◌, Bool, true, false, not, ◌&&◌, nat_le, List, [], ◌∷◌, ◌++◌, length, append_assoc, append-nil, refl, sym, ap, subst, ◌∙◌, arith, None, slice_get}
use Rattle.std.specs.Prelude.{if◌then◌else◌, unwrap_or, All, map}
use Rattle.std.specs.List.{flat_map, list_all, slice_split}
use Rattle.std.proofs.lemmas.Bool.{and_parts, and_from, cond-false, leb-true, ne_eqb, not-true}
use Rattle.std.proofs.lemmas.List.Elements.{All-cons, All-nil}
use Rattle.std.proofs.lemmas.List.Splits.{slice_split_at}
use Rattle.wot_types.specs.Fields.{field, fields, is_colon}
use Rattle.wot_types.specs.Lines.{front_of, is_newline, last_of, lines, open_line, whole_lines, without_return}
use Rattle.wot_types.proofs.ListEnds.{front_of_more, last_of_more}
use Rattle.wot_print_laws.specs.ListingLines.{listing_lines}

-- each part, and the byte c after it
abbrev pub ended : ℕ → List (List ℕ) → List ℕ
ended c parts = flat_map (λ part. part ++ c ∷ []) parts

-- the parts, each with a colon after it, and then the tail
abbrev pub joined : List (List ℕ) → List ℕ → List ℕ
joined [] tail = tail
joined (part ∷ parts) tail = (part ++ 58 ∷ []) ++ joined parts tail

pub joined_is : (parts : List (List ℕ)) (tail : List ℕ) → joined parts tail ≡ ended 58 parts ++ tail
joined_is [] tail = refl
joined_is (part ∷ parts) tail = ap (λ l. (part ++ 58 ∷ []) ++ l) (joined_is parts tail) ∙ sym (append_assoc (part ++ 58 ∷ []) (ended 58 parts) tail)

-- a byte at which neither a line nor a field is cut, and which no line ends with a return by
abbrev pub is_inner : ℕ → Bool
is_inner b = nat_le 32 b && not (b == 58)

-- neither cuts this text
abbrev pub IsInner : List ℕ → Type 0
IsInner part = list_all is_inner part ≡ true

abbrev pub AllInner : List (List ℕ) → Type 0
AllInner [] = Unit {0}
AllInner (part ∷ parts) = IsInner part × AllInner parts

pub inner_parts : (b : ℕ) (part : List ℕ) → IsInner (b ∷ part) → (is_colon b ≡ false) × (nat_le 32 b ≡ true) × IsInner part
inner_parts b part h =
    let both = and_parts (is_inner b) (list_all is_inner part) h in
    let first = and_parts (nat_le 32 b) (not (b == 58)) both.0 in
    (not-true (b == 58) first.1, first.0, both.1)

pub free_of_colon : (part : List ℕ) → IsInner part → All (λ b. is_colon b ≡ false) part
free_of_colon [] h = All-nil (λ b. is_colon b ≡ false)
free_of_colon (b ∷ part) h =
    let parts = inner_parts b part h in
    All-cons (λ b. is_colon b ≡ false) b part parts.0 (free_of_colon part parts.2)

-- the parts of a text of ended parts, and the empty rest
pub fields_are : (parts : List (List ℕ)) → AllInner parts → fields (ended 58 parts) ≡ parts ++ [] ∷ []
fields_are [] h = refl
fields_are (part ∷ parts) h =
    ap fields (append_assoc part (58 ∷ []) (ended 58 parts))
    ∙ slice_split_at is_colon part 58 (ended 58 parts) (free_of_colon part h.0) refl
    ∙ ap (λ l. part ∷ l) (fields_are parts h.1)

-- field n, where the parts are written out
pub field_is : (parts : List (List ℕ)) → AllInner parts → (n : ℕ)
    → field n (ended 58 parts) ≡ unwrap_or (if n == 0 then None else slice_get (parts ++ [] ∷ []) (n - 1)) []
field_is parts h n = ap (λ l. unwrap_or (if n == 0 then None else slice_get l (n - 1)) []) (fields_are parts h)

-- no newline and no return: no byte below a space
abbrev pub IsLine : List ℕ → Type 0
IsLine line = list_all (λ b. nat_le 32 b) line ≡ true

pub line_more : (part : List ℕ) → IsInner part → (tail : List ℕ) → IsLine tail → IsLine (part ++ tail)
line_more [] h tail t = t
line_more (b ∷ part) h tail t =
    let parts = inner_parts b part h in
    and_from (nat_le 32 b) (list_all (λ b. nat_le 32 b) (part ++ tail)) parts.1 (line_more part parts.2 tail t)

pub joined_is_line : (parts : List (List ℕ)) → AllInner parts → (tail : List ℕ) → IsLine tail → IsLine (joined parts tail)
joined_is_line [] h tail t = t
joined_is_line (part ∷ parts) h tail t =
    subst IsLine (sym (append_assoc part (58 ∷ []) (joined parts tail))) (line_more part h.0 (58 ∷ joined parts tail) (joined_is_line parts h.1 tail t))

free_of_newline : (line : List ℕ) → IsLine line → All (λ b. is_newline b ≡ false) line
free_of_newline [] h = All-nil (λ b. is_newline b ≡ false)
free_of_newline (b ∷ line) h =
    let both = and_parts (nat_le 32 b) (list_all (λ b. nat_le 32 b) line) h in
    All-cons (λ b. is_newline b ≡ false) b line (ne_eqb b 10 (λ p. omega (arith, leb-true 32 b both.0))) (free_of_newline line both.1)

-- no return stands at its end
pub returns_none : (line : List ℕ) → IsLine line → without_return line ≡ line
returns_none [] h = refl
returns_none (b ∷ []) h =
    cond-false (b == 13) [] (b ∷ []) (ne_eqb b 13 (λ p. omega (arith, leb-true 32 b (and_parts (nat_le 32 b) true h).0)))
returns_none (b ∷ c ∷ line) h = ap (λ l. b ∷ l) (returns_none (c ∷ line) (and_parts (nat_le 32 b) (list_all (λ b. nat_le 32 b) (c ∷ line)) h).1)

abbrev pub AllLines : List (List ℕ) → Type 0
AllLines [] = Unit {0}
AllLines (line ∷ lines) = IsLine line × AllLines lines

-- the lines of a text of ended lines
split_lines : (ls : List (List ℕ)) → AllLines ls → slice_split is_newline (ended 10 ls) ≡ ls ++ [] ∷ []
split_lines [] h = refl
split_lines (line ∷ ls) h =
    ap (slice_split is_newline) (append_assoc line (10 ∷ []) (ended 10 ls))
    ∙ slice_split_at is_newline line 10 (ended 10 ls) (free_of_newline line h.0) refl
    ∙ ap (λ l. line ∷ l) (split_lines ls h.1)

without_returns : (ls : List (List ℕ)) → AllLines ls → map without_return ls ≡ ls
without_returns [] h = refl
without_returns (line ∷ ls) h = λ i. returns_none line h.0 i ∷ without_returns ls h.1 i

-- the lines of a text of ended lines
pub lines_are : (ls : List (List ℕ)) → AllLines ls → listing_lines (ended 10 ls) ≡ ls
lines_are ls h =
    let parts = split_lines ls h in
    let front : whole_lines (ended 10 ls) ≡ ls = ap front_of parts ∙ front_of_more ls [] in
    let rest : open_line (ended 10 ls) ≡ [] = ap (λ l. last_of l []) parts ∙ last_of_more ls [] [] in
    ap (map without_return) ((λ i. front i ++ (if length (rest i) == 0 then [] else rest i ∷ [])) ∙ append-nil ls) ∙ without_returns ls h
