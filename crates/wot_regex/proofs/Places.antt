-- A match leads forward, and stays in the text.
use Rattle.std.proofs.Common.{ℕ, ◌≤◌, List, length, inl, inr, le_trans, arith}
use Rattle.wot_types.specs.Expression.{Tree, any_number, at_least_one, at_most_one, either, followed, nothing, symbol, text_end, text_start}
use Rattle.wot_types.specs.ExpressionMatch.{Chain, Matches, none, more}

pub chain_forward : (Step : ℕ → ℕ → Type 0) → ((i j : ℕ) → Step i j → i ≤ j) → (i j : ℕ) → Chain Step i j → i ≤ j
chain_forward Step h i j none = omega arith
chain_forward Step h i k (more {j = j} s rest) = le_trans (h i j s) (chain_forward Step h j k rest)

pub chain_push : (Step : ℕ → ℕ → Type 0) (i j k : ℕ) → Chain Step i j → Step j k → Chain Step i k
chain_push Step i j k none s = more s none
chain_push Step i j k (more {j = m} r rest) s = more r (chain_push Step m j k rest s)

pub matches_forward : (text : List ℕ) (e : Tree) (i j : ℕ) → Matches text e i j → i ≤ j
matches_forward text nothing i j m = omega (arith, m)
matches_forward text (symbol x) i j m = omega (arith, m.1)
matches_forward text text_start i j m = omega (arith, m.0, m.1)
matches_forward text text_end i j m = omega (arith, m.0, m.1)
matches_forward text (followed a b) i j m = le_trans (matches_forward text a i m.0 m.1) (matches_forward text b m.0 j m.2)
matches_forward text (either a b) i j m = elim m [ inl h ↦ matches_forward text a i j h | inr h ↦ matches_forward text b i j h ]
matches_forward text (any_number a) i j m = chain_forward (Matches text a) (λ p q h. matches_forward text a p q h) i j m
matches_forward text (at_least_one a) i j m = le_trans (matches_forward text a i m.0 m.1) (chain_forward (Matches text a) (λ p q h. matches_forward text a p q h) m.0 j m.2)
matches_forward text (at_most_one a) i j m = elim m [ inl h ↦ omega (arith, h) | inr h ↦ matches_forward text a i j h ]

chain_within : (Step : ℕ → ℕ → Type 0) (n : ℕ) → ((i j : ℕ) → Step i j → i ≤ n → j ≤ n) → (i j : ℕ) → Chain Step i j → i ≤ n → j ≤ n
chain_within Step n h i j none le = le
chain_within Step n h i k (more {j = j} s rest) le = chain_within Step n h j k rest (h i j s le)

pub matches_within : (text : List ℕ) (e : Tree) (i j : ℕ) → Matches text e i j → i ≤ length text → j ≤ length text
matches_within text nothing i j m le = omega (arith, m)
matches_within text (symbol x) i j m le = omega (arith, m.0, m.1)
matches_within text text_start i j m le = omega (arith, m.0, m.1)
matches_within text text_end i j m le = omega (arith, m.0, m.1)
matches_within text (followed a b) i j m le = matches_within text b m.0 j m.2 (matches_within text a i m.0 m.1 le)
matches_within text (either a b) i j m le = elim m [ inl h ↦ matches_within text a i j h le | inr h ↦ matches_within text b i j h le ]
matches_within text (any_number a) i j m le = chain_within (Matches text a) (length text) (λ p q h. matches_within text a p q h) i j m le
matches_within text (at_least_one a) i j m le =
    chain_within (Matches text a) (length text) (λ p q h. matches_within text a p q h) m.0 j m.2 (matches_within text a i m.0 m.1 le)
matches_within text (at_most_one a) i j m le = elim m [ inl h ↦ omega (arith, h) | inr h ↦ matches_within text a i j h le ]
