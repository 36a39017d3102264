-- What a regular expression matches: bytes, without regard to ASCII case, anywhere in a text.
use Rattle.std.specs.Prelude.{◌≡◌, ◌≤◌, ◌<◌, ◌+◌, ℕ, Bool, true, not, ◌==◌, ◌&&◌, ◌||◌, nat_le, List, length, slice_index, ◌⊎◌, if◌then◌else◌, IsTrue}
use Rattle.std.specs.List.{list_any}
use Rattle.wot_types.specs.Bytes.{lower_case, other_case}
use Rattle.wot_types.specs.Expression.{Symbol, Tree, any, any_number, at_least_one, at_most_one, byte, either, followed, nothing, range, symbol, text_end, text_start}
use Rattle.wot_types.specs.ExpressionGrammar.{IsExpression}

abbrev pub is_member : List (ℕ × ℕ) → ℕ → Bool
is_member members b = list_any (λ m. nat_le m.0 b && nat_le b m.1) members

-- the byte or its other case is a member
abbrev pub is_in_range : List (ℕ × ℕ) → ℕ → Bool
is_in_range members b = is_member members b || is_member members (other_case b)

-- a symbol takes a byte
abbrev pub takes : Symbol → ℕ → Bool
takes any b = true
takes (byte a) b = lower_case a == lower_case b
takes (range negated members) b = if negated then not (is_in_range members b) else is_in_range members b

-- any number of steps, one after another
pub data Chain (Step : ℕ → ℕ → Type 0) : ℕ → ℕ → Type 0 where
  none : {i : ℕ} → Chain Step i i
  more : {i j k : ℕ} → Step i j → Chain Step j k → Chain Step i k

-- a tree matches a text from a place to a place
abbrev pub Matches : List ℕ → Tree → ℕ → ℕ → Type 0
Matches text nothing i j = i ≡ j
Matches text (symbol s) i j = (i < length text) × (j ≡ i + 1) × IsTrue (takes s (slice_index text i))
Matches text text_start i j = (i ≡ 0) × (j ≡ 0)
Matches text text_end i j = (i ≡ length text) × (j ≡ length text)
Matches text (followed a b) i j = (k : ℕ) × Matches text a i k × Matches text b k j
Matches text (either a b) i j = Matches text a i j ⊎ Matches text b i j
Matches text (any_number a) i j = Chain (Matches text a) i j
Matches text (at_least_one a) i j = (k : ℕ) × Matches text a i k × Chain (Matches text a) k j
Matches text (at_most_one a) i j = (i ≡ j) ⊎ Matches text a i j

-- a tree matches somewhere in a text
pub record MatchesIn (tree : Tree) (text : List ℕ) : Type 0 where
  pub from : ℕ
  pub to : ℕ
  pub within : from ≤ length text
  pub matches : Matches text tree from to

-- a scope is an expression that matches somewhere in the text
pub record Admits (scope : List ℕ) (text : List ℕ) : Type 0 where
  pub tree : Tree
  pub reads : IsExpression tree scope
  pub matches : MatchesIn tree text
