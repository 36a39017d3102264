-- The marks find a match exactly where there is one.
use Rattle.std.proofs.Common.{◌≡◌, ℕ, zero, suc, ◌+◌, ◌<◌, ◌≤◌, ◌==◌, Bool, true, false, ◌||◌, ◌↔◌, List, [], ◌∷◌, length, get_or, drop, inl, inr, refl, sym, ap, ◌∙◌, subst, add-one, eq-eqb, ne_eqb, arith}
use Rattle.std.proofs.lemmas.Bool.{cases_lt, or_cases, or_left, or_right}
use Rattle.std.proofs.lemmas.List.{drop_more}
use Rattle.wot_types.specs.Expression.{Tree}
use Rattle.wot_types.specs.ExpressionMatch.{Matches, MatchesIn}
use Rattle.wot_types.specs.ExpressionMarks.{Marks, accepts, finds, shifted, unmarked}
use Rattle.wot_types.specs.Scope.{matches_in}
use Rattle.wot_regex.proofs.Places.{matches_forward, matches_within}
use Rattle.wot_regex.proofs.Passing.{matches-passes, passes-matches, passes_at}
use Rattle.wot_regex.proofs.Walks.{Walk, ended-complete, ended-sound, ended_at}

-- the marks at each place of a text, where a match may begin everywhere
abbrev marks_at : List ℕ → (e : Tree) → ℕ → Marks e
marks_at text e zero = unmarked e
marks_at text e (suc i) = shifted (i == 0) (i == length text) (get_or text i 0) true e (marks_at text e i)

everywhere : (text : List ℕ) (e : Tree) → Walk text e (λ _. true) (marks_at text e)
everywhere text e = record { begins = refl; steps = λ i h. ap (marks_at text e) (add-one i) }

abbrev accepts_at : List ℕ → (e : Tree) → ℕ → Bool
accepts_at text e i = accepts (i == 0) (i == length text) e (marks_at text e i)

accepts-matches : (text : List ℕ) (e : Tree) (j : ℕ) → j ≤ length text → accepts_at text e j ≡ true → MatchesIn e text
accepts-matches text e j le h =
    elim (or_cases (passes_at text j e) (ended_at text j e (marks_at text e j)) h) [
      | inl p ↦ record { from = j; to = j; within = le; matches = passes-matches text e j p }
      | inr p ↦
          let d = ended-sound text e (λ _. true) (marks_at text e) (everywhere text e) j le p in
          record { from = d.from; to = j; within = omega arith; matches = d.matches }
    ]

matches-accepts : (text : List ℕ) (e : Tree) (m : MatchesIn e text) → accepts_at text e m.to ≡ true
matches-accepts text e m =
    elim (cases_lt m.from m.to) [
      | inl lt ↦
          or_right (passes_at text m.to e) (ended_at text m.to e (marks_at text e m.to))
          (ended-complete text e (λ _. true) (marks_at text e) (everywhere text e) m.from m.to m.matches lt (matches_within text e m.from m.to m.matches m.within) refl)
      | inr le ↦
          let same : m.from ≡ m.to = omega (arith, matches_forward text e m.from m.to m.matches) in
          let P : ℕ → Type 0 = λ q. Matches text e q m.to in
          or_left (passes_at text m.to e) (ended_at text m.to e (marks_at text e m.to)) (matches-passes text e m.to (subst P same m.matches))
    ]

-- what is found from a place on
abbrev finds_from : List ℕ → (e : Tree) → ℕ → List ℕ → Bool
finds_from text e j rest = finds (j == 0) e (marks_at text e j) rest

at_end : (text : List ℕ) (e : Tree) (j : ℕ) → j ≡ length text → finds_from text e j [] ≡ accepts_at text e j
at_end text e j h = ap (λ t. accepts (j == 0) t e (marks_at text e j)) (sym (eq-eqb j (length text) h))

before_end : (text : List ℕ) (e : Tree) (j b : ℕ) (rest : List ℕ) → j < length text → get_or text j 0 ≡ b
    → finds_from text e j (b ∷ rest) ≡ (accepts_at text e j || finds_from text e (suc j) rest)
before_end text e j b rest lt h =
    let inside : (j == length text) ≡ false = ne_eqb j (length text) (λ q. absurd (omega arith)) in
    let behind : (suc j == 0) ≡ false = ne_eqb (suc j) 0 (λ q. absurd (omega arith)) in
    rw (inside, behind, h) refl

record Accepted (text : List ℕ) (e : Tree) (j : ℕ) : Type 0 where
  place : ℕ
  reached : j ≤ place
  within : place ≤ length text
  accepted : accepts_at text e place ≡ true

found : (text : List ℕ) (e : Tree) (rest : List ℕ) (j : ℕ) → j + length rest ≡ length text → drop j text ≡ rest → finds_from text e j rest ≡ true → Accepted text e j
found text e [] j fits is h =
    let here : j ≡ length text = omega arith in
    record { place = j; reached = omega arith; within = omega arith; accepted = sym (at_end text e j here) ∙ h }
found text e (b ∷ rest) j fits is h =
    let lt : j < length text = omega arith in
    let split : get_or text j 0 ∷ drop (j + 1) text ≡ b ∷ rest = sym (drop_more text j 0 lt) ∙ is in
    let first : get_or text j 0 ≡ b = cc in
    let others : drop (j + 1) text ≡ rest = cc in
    let tail : drop (suc j) text ≡ rest = ap (λ k. drop k text) (sym (add-one j)) ∙ others in
    elim (or_cases (accepts_at text e j) (finds_from text e (suc j) rest) (sym (before_end text e j b rest lt first) ∙ h)) [
      | inl p ↦ record { place = j; reached = omega arith; within = omega arith; accepted = p }
      | inr p ↦
          let a = found text e rest (suc j) (omega arith) tail p in
          record { place = a.place; reached = omega arith; within = a.within; accepted = a.accepted }
    ]

finds_accepted : (text : List ℕ) (e : Tree) (rest : List ℕ) (j : ℕ) → j + length rest ≡ length text → drop j text ≡ rest → Accepted text e j → finds_from text e j rest ≡ true
finds_accepted text e [] j fits is a =
    let here : a.place ≡ j = omega arith in
    let end : j ≡ length text = omega arith in
    at_end text e j end ∙ ap (accepts_at text e) (sym here) ∙ a.accepted
finds_accepted text e (b ∷ rest) j fits is a =
    let lt : j < length text = omega arith in
    let split : get_or text j 0 ∷ drop (j + 1) text ≡ b ∷ rest = sym (drop_more text j 0 lt) ∙ is in
    let first : get_or text j 0 ≡ b = cc in
    let others : drop (j + 1) text ≡ rest = cc in
    let tail : drop (suc j) text ≡ rest = ap (λ k. drop k text) (sym (add-one j)) ∙ others in
    before_end text e j b rest lt first
    ∙ elim (cases_lt j a.place) [
      | inl p ↦
          or_right (accepts_at text e j) (finds_from text e (suc j) rest)
          (finds_accepted text e rest (suc j) (omega arith) tail (record { place = a.place; reached = omega arith; within = a.within; accepted = a.accepted }))
      | inr p ↦
          let here : a.place ≡ j = omega arith in
          or_left (accepts_at text e j) (finds_from text e (suc j) rest) (ap (accepts_at text e) (sym here) ∙ a.accepted)
    ]

-- the marks find a match exactly where a tree matches somewhere
pub found-means : (e : Tree) (text : List ℕ) → (matches_in e text ≡ true) ↔ MatchesIn e text
found-means e text = (
  λ h. let a = found text e text 0 (omega arith) refl h in accepts-matches text e a.place a.within a.accepted,
  λ m. finds_accepted text e text 0 (omega arith) refl (record { place = m.to; reached = omega arith; within = matches_within text e m.from m.to m.matches m.within; accepted = matches-accepts text e m }),
)
