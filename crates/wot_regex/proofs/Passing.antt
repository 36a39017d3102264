-- A tree passes at a place exactly where it matches from that place to itself.
use Rattle.std.proofs.Common.{◌≡◌, ℕ, ◌==◌, ◌≤◌, Bool, true, List, length, inl, inr, refl, subst, eqb-true, eq-eqb, le_antisymm, arith}
use Rattle.std.proofs.lemmas.Bool.{and_from, and_parts, false≢true, or_cases, or_left, or_right}
use Rattle.wot_types.specs.Expression.{Tree, any_number, at_least_one, at_most_one, either, followed, nothing, symbol, text_end, text_start}
use Rattle.wot_types.specs.ExpressionMatch.{Matches, none}
use Rattle.wot_types.specs.ExpressionMarks.{passes}
use Rattle.wot_regex.proofs.Places.{chain_forward, matches_forward}

abbrev pub passes_at : List ℕ → ℕ → Tree → Bool
passes_at text i e = passes (i == 0) (i == length text) e

pub passes-matches : (text : List ℕ) (e : Tree) (i : ℕ) → passes_at text i e ≡ true → Matches text e i i
passes-matches text nothing i h = refl
passes-matches text (symbol x) i h = absurd (false≢true h)
passes-matches text text_start i h = (eqb-true i 0 h, eqb-true i 0 h)
passes-matches text text_end i h = (eqb-true i (length text) h, eqb-true i (length text) h)
passes-matches text (followed a b) i h =
    let parts = and_parts (passes_at text i a) (passes_at text i b) h in (i, passes-matches text a i parts.0, passes-matches text b i parts.1)
passes-matches text (either a b) i h =
    elim (or_cases (passes_at text i a) (passes_at text i b) h) [ inl p ↦ inl (passes-matches text a i p) | inr p ↦ inr (passes-matches text b i p) ]
passes-matches text (any_number a) i h = none
passes-matches text (at_least_one a) i h = (i, passes-matches text a i h, none)
passes-matches text (at_most_one a) i h = inl refl

-- a match from a place to itself stays there
stays : (text : List ℕ) (a : Tree) (i k : ℕ) → k ≤ i → Matches text a i k → Matches text a i i
stays text a i k le m = let P : ℕ → Type 0 = λ q. Matches text a i q in subst P (le_antisymm le (matches_forward text a i k m)) m

starts : (text : List ℕ) (b : Tree) (i k : ℕ) → i ≤ k → Matches text b k i → Matches text b i i
starts text b i k le m = let P : ℕ → Type 0 = λ q. Matches text b q i in subst P (le_antisymm (matches_forward text b k i m) le) m

pub matches-passes : (text : List ℕ) (e : Tree) (i : ℕ) → Matches text e i i → passes_at text i e ≡ true
matches-passes text nothing i m = refl
matches-passes text (symbol x) i m = absurd (omega (arith, m.1))
matches-passes text text_start i m = eq-eqb i 0 m.0
matches-passes text text_end i m = eq-eqb i (length text) m.0
matches-passes text (followed a b) i m =
    and_from (passes_at text i a) (passes_at text i b)
    (matches-passes text a i (stays text a i m.0 (matches_forward text b m.0 i m.2) m.1))
    (matches-passes text b i (starts text b i m.0 (matches_forward text a i m.0 m.1) m.2))
matches-passes text (either a b) i m =
    elim m [
      | inl h ↦ or_left (passes_at text i a) (passes_at text i b) (matches-passes text a i h)
      | inr h ↦ or_right (passes_at text i a) (passes_at text i b) (matches-passes text b i h)
    ]
matches-passes text (any_number a) i m = refl
matches-passes text (at_least_one a) i m =
    matches-passes text a i (stays text a i m.0 (chain_forward (Matches text a) (λ p q h. matches_forward text a p q h) m.0 i m.2) m.1)
matches-passes text (at_most_one a) i m = refl
