-- Which bytes are a regular expression (RFC 9580, section 8; at most 255 bytes are this project's own).
use Rattle.std.specs.Prelude.{◌≡◌, ◌≤◌, ℕ, Bool, false, true, ◌==◌, ◌&&◌, ◌||◌, not, nat_le, List, [], ◌∷◌, ◌++◌, length, if◌then◌else◌}
use Rattle.std.specs.List.{list_all, list_any}
use Rattle.wot_types.specs.Bytes.{asterisk, backslash, bar, caret, closing_bracket, closing_parenthesis, dollar, dot, hyphen, opening_bracket, opening_parenthesis, plus_sign, question_mark}
use Rattle.wot_types.specs.Limits.{longest_scope}
use Rattle.wot_types.specs.Expression.{Tree, any, any_number, at_least_one, at_most_one, byte, either, followed, nothing, range, symbol, text_end, text_start}

-- a byte that does not stand for itself
abbrev pub is_special : ℕ → Bool
is_special b =
    (b == bar) || (b == opening_parenthesis) || (b == closing_parenthesis) || (b == opening_bracket) || (b == dot) || (b == caret) || (b == dollar)
    || (b == backslash) || (b == asterisk) || (b == plus_sign) || (b == question_mark)

-- the members of a range, from left to right: a byte followed by `-` and by another byte begins a member of two
abbrev pub members : List ℕ → List (ℕ × ℕ)
members [] = []
members (a ∷ []) = (a, a) ∷ []
members (a ∷ b ∷ []) = (a, a) ∷ (b, b) ∷ []
members (a ∷ b ∷ c ∷ rest) = if b == hyphen then (a, c) ∷ members rest else (a, a) ∷ members (b ∷ c ∷ rest)

-- what stands between the brackets of a range: one or more bytes of which only the first may be `]`; no member ends before it begins
abbrev pub are_members : ℕ → List ℕ → Bool
are_members first rest = not (list_any (λ b. b == closing_bracket) rest) && list_all (λ m. nat_le m.0 m.1) (members (first ∷ rest))

pub data Part : Type 0 where
  expression : Part
  branch : Part
  piece : Part
  atom : Part

-- a part of an expression, as a tree, and its bytes
pub data Reads : Part → Tree → List ℕ → Type 0 where
  -- an expression is one or more branches with `|` between them
  one_branch : {a : Tree} {s : List ℕ} → Reads branch a s → Reads expression a s
  more_branches : {a b : Tree} {s t : List ℕ} → Reads expression a s → Reads branch b t → Reads expression (either a b) (s ++ bar ∷ t)
  -- a branch is zero or more pieces
  no_piece : Reads branch nothing []
  more_pieces : {a b : Tree} {s t : List ℕ} → Reads branch a s → Reads piece b t → Reads branch (followed a b) (s ++ t)
  -- a piece is an atom, alone or followed by one `*`, `+` or `?`
  alone : {a : Tree} {s : List ℕ} → Reads atom a s → Reads piece a s
  starred : {a : Tree} {s : List ℕ} → Reads atom a s → Reads piece (any_number a) (s ++ asterisk ∷ [])
  repeated : {a : Tree} {s : List ℕ} → Reads atom a s → Reads piece (at_least_one a) (s ++ plus_sign ∷ [])
  optional : {a : Tree} {s : List ℕ} → Reads atom a s → Reads piece (at_most_one a) (s ++ question_mark ∷ [])
  -- an atom is an expression in parentheses, `.`, `^`, `$`, a backslash and one byte, one byte that stands for itself, or a range
  group : {a : Tree} {s : List ℕ} → Reads expression a s → Reads atom a (opening_parenthesis ∷ (s ++ closing_parenthesis ∷ []))
  any_byte : Reads atom (symbol any) (dot ∷ [])
  at_start : Reads atom text_start (caret ∷ [])
  at_end : Reads atom text_end (dollar ∷ [])
  escaped : (b : ℕ) → Reads atom (symbol (byte b)) (backslash ∷ b ∷ [])
  itself : (b : ℕ) → is_special b ≡ false → Reads atom (symbol (byte b)) (b ∷ [])
  -- a `^` that directly follows the `[` always negates
  bracketed : (first : ℕ) (rest : List ℕ) → (first == caret) ≡ false → are_members first rest ≡ true
      → Reads atom (symbol (range false (members (first ∷ rest)))) (opening_bracket ∷ first ∷ (rest ++ closing_bracket ∷ []))
  negated : (first : ℕ) (rest : List ℕ) → are_members first rest ≡ true
      → Reads atom (symbol (range true (members (first ∷ rest)))) (opening_bracket ∷ caret ∷ first ∷ (rest ++ closing_bracket ∷ []))

-- the tree of an expression
abbrev pub IsExpression : Tree → List ℕ → Type 0
IsExpression tree scope = Reads expression tree scope × (length scope ≤ longest_scope)
