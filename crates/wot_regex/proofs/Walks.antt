-- Along a text a tree's marks tell where its matches end.
use Rattle.std.proofs.Common.{◌≡◌, ℕ, zero, suc, ◌+◌, ◌<◌, ◌≤◌, ◌==◌, Bool, true, ◌&&◌, ◌||◌, List, length, get_or, inl, inr, sym, ap, ◌∙◌, subst, add-one, lt_trans, le_trans, arith}
use Rattle.std.proofs.lemmas.Bool.{and_from, and_parts, cases_lt, false≢true, or_cases, or_left, or_right}
use Rattle.wot_types.specs.Expression.{Symbol, Tree, any_number, at_least_one, at_most_one, either, followed, nothing, symbol, text_end, text_start}
use Rattle.wot_types.specs.ExpressionMatch.{Chain, Matches, more, none, takes}
use Rattle.wot_types.specs.ExpressionMarks.{Marks, ended, shifted, unmarked}
use Rattle.wot_regex.proofs.Places.{chain_forward, chain_push, matches_forward}
use Rattle.wot_regex.proofs.Passing.{matches-passes, passes-matches, passes_at}

abbrev pub ended_at : List ℕ → ℕ → (e : Tree) → Marks e → Bool
ended_at text i e m = ended (i == 0) (i == length text) e m

-- the marks at each place, where a match may begin at the places that are entries
pub record Walk (text : List ℕ) (e : Tree) (entry : ℕ → Bool) (marks : ℕ → Marks e) : Type 0 where
  pub begins : marks 0 ≡ unmarked e
  pub steps : (i : ℕ) → i < length text → marks (i + 1) ≡ shifted (i == 0) (i == length text) (get_or text i 0) (entry i) e (marks i)

-- a match that began before, at an entry, and ends at a place
pub record Ending (text : List ℕ) (e : Tree) (entry : ℕ → Bool) (j : ℕ) : Type 0 where
  pub from : ℕ
  pub before : from < j
  pub enters : entry from ≡ true
  pub matches : Matches text e from j

abbrev Sound : (text : List ℕ) (e : Tree) → (ℕ → Bool) → (ℕ → Marks e) → Type 0
Sound text e entry marks = (j : ℕ) → j ≤ length text → ended_at text j e (marks j) ≡ true → Ending text e entry j

abbrev Complete : (text : List ℕ) (e : Tree) → (ℕ → Bool) → (ℕ → Marks e) → Type 0
Complete text e entry marks = (i j : ℕ) → Matches text e i j → i < j → j ≤ length text → entry i ≡ true → ended_at text j e (marks j) ≡ true

-- where the second part may begin
abbrev next_entry : (text : List ℕ) (a : Tree) → (ℕ → Bool) → (ℕ → Marks a) → ℕ → Bool
next_entry text a entry marks i = (entry i && passes_at text i a) || ended_at text i a (marks i)

-- where a repeated part may begin
abbrev again_entry : (text : List ℕ) (a : Tree) → (ℕ → Bool) → (ℕ → Marks a) → ℕ → Bool
again_entry text a entry marks i = entry i || ended_at text i a (marks i)

first_walk : (text : List ℕ) (a b : Tree) (entry : ℕ → Bool) (marks : ℕ → Marks (followed a b)) → Walk text (followed a b) entry marks → Walk text a entry (λ i. (marks i).0)
first_walk text a b entry marks w = record {
  begins = ap (λ (m : Marks a × Marks b). m.0) w.begins;
  steps = λ i h. ap (λ (m : Marks a × Marks b). m.0) (w.steps i h);
}

next_walk : (text : List ℕ) (a b : Tree) (entry : ℕ → Bool) (marks : ℕ → Marks (followed a b)) → Walk text (followed a b) entry marks → Walk text b (next_entry text a entry (λ i. (marks i).0)) (λ i. (marks i).1)
next_walk text a b entry marks w = record {
  begins = ap (λ (m : Marks a × Marks b). m.1) w.begins;
  steps = λ i h. ap (λ (m : Marks a × Marks b). m.1) (w.steps i h);
}

one_walk : (text : List ℕ) (a b : Tree) (entry : ℕ → Bool) (marks : ℕ → Marks (either a b)) → Walk text (either a b) entry marks → Walk text a entry (λ i. (marks i).0)
one_walk text a b entry marks w = record {
  begins = ap (λ (m : Marks a × Marks b). m.0) w.begins;
  steps = λ i h. ap (λ (m : Marks a × Marks b). m.0) (w.steps i h);
}

other_walk : (text : List ℕ) (a b : Tree) (entry : ℕ → Bool) (marks : ℕ → Marks (either a b)) → Walk text (either a b) entry marks → Walk text b entry (λ i. (marks i).1)
other_walk text a b entry marks w = record {
  begins = ap (λ (m : Marks a × Marks b). m.1) w.begins;
  steps = λ i h. ap (λ (m : Marks a × Marks b). m.1) (w.steps i h);
}

star_walk : (text : List ℕ) (a : Tree) (entry : ℕ → Bool) (marks : ℕ → Marks a) → Walk text (any_number a) entry marks → Walk text a (again_entry text a entry marks) marks
star_walk text a entry marks w = record { begins = w.begins; steps = w.steps }

plus_walk : (text : List ℕ) (a : Tree) (entry : ℕ → Bool) (marks : ℕ → Marks a) → Walk text (at_least_one a) entry marks → Walk text a (again_entry text a entry marks) marks
plus_walk text a entry marks w = record { begins = w.begins; steps = w.steps }

maybe_walk : (text : List ℕ) (a : Tree) (entry : ℕ → Bool) (marks : ℕ → Marks a) → Walk text (at_most_one a) entry marks → Walk text a entry marks
maybe_walk text a entry marks w = record { begins = w.begins; steps = w.steps }

-- what ends is a match

symbol_sound : (text : List ℕ) (x : Symbol) (entry : ℕ → Bool) (marks : ℕ → Bool) → Walk text (symbol x) entry marks → Sound text (symbol x) entry marks
symbol_sound text x entry marks w zero le h = absurd (false≢true (sym w.begins ∙ h))
symbol_sound text x entry marks w (suc k) le h =
    let lt : k < length text = omega arith in
    let step : marks (suc k) ≡ (entry k && takes x (get_or text k 0)) = ap marks (sym (add-one k)) ∙ w.steps k lt in
    let parts = and_parts (entry k) (takes x (get_or text k 0)) (sym step ∙ h) in
    record { from = k; before = omega arith; enters = parts.0; matches = (lt, omega arith, parts.1) }

followed_sound : (text : List ℕ) (a b : Tree) (entry : ℕ → Bool) (marks : ℕ → Marks (followed a b)) → Sound text a entry (λ i. (marks i).0) → Sound text b (next_entry text a entry (λ i. (marks i).0)) (λ i. (marks i).1)
    → Sound text (followed a b) entry marks
followed_sound text a b entry marks first second j le h =
    elim (or_cases (ended_at text j b (marks j).1) (ended_at text j a (marks j).0 && passes_at text j b) h) [
      | inl p ↦ through (second j le p)
      | inr p ↦
          let parts = and_parts (ended_at text j a (marks j).0) (passes_at text j b) p in
          let d = first j le parts.0 in
          record { from = d.from; before = d.before; enters = d.enters; matches = (j, d.matches, passes-matches text b j parts.1) }
    ]
  where
    through : Ending text b (next_entry text a entry (λ i. (marks i).0)) j → Ending text (followed a b) entry j
    through e =
        elim (or_cases (entry e.from && passes_at text e.from a) (ended_at text e.from a (marks e.from).0) e.enters) [
          | inl q ↦
              let parts = and_parts (entry e.from) (passes_at text e.from a) q in
              record { from = e.from; before = e.before; enters = parts.0; matches = (e.from, passes-matches text a e.from parts.1, e.matches) }
          | inr q ↦
              let d = first e.from (omega arith) q in
              record { from = d.from; before = lt_trans d.before e.before; enters = d.enters; matches = (e.from, d.matches, e.matches) }
        ]

-- one match of a repeated part after another
plus_sound : (text : List ℕ) (a : Tree) (entry : ℕ → Bool) (marks : ℕ → Marks a) → Sound text a (again_entry text a entry marks) marks
    → (bound j : ℕ) → j < bound → j ≤ length text → ended_at text j a (marks j) ≡ true → Ending text (at_least_one a) entry j
plus_sound text a entry marks each zero j lt le h = absurd (omega arith)
plus_sound text a entry marks each (suc bound) j lt le h =
    let e = each j le h in
    elim (or_cases (entry e.from) (ended_at text e.from a (marks e.from)) e.enters) [
      | inl q ↦ record { from = e.from; before = e.before; enters = q; matches = (j, e.matches, none) }
      | inr q ↦
          let d = plus_sound text a entry marks each bound e.from (omega arith) (omega arith) q in
          record { from = d.from; before = lt_trans d.before e.before; enters = d.enters; matches = (d.matches.0, d.matches.1, chain_push (Matches text a) d.matches.0 e.from j d.matches.2 e.matches) }
    ]

pub ended-sound : (text : List ℕ) (e : Tree) (entry : ℕ → Bool) (marks : ℕ → Marks e) → Walk text e entry marks → Sound text e entry marks
ended-sound text nothing entry marks w j le h = absurd (false≢true h)
ended-sound text (symbol x) entry marks w j le h = symbol_sound text x entry marks w j le h
ended-sound text text_start entry marks w j le h = absurd (false≢true h)
ended-sound text text_end entry marks w j le h = absurd (false≢true h)
ended-sound text (followed a b) entry marks w j le h =
    followed_sound text a b entry marks
    (λ i l p. ended-sound text a entry (λ k. (marks k).0) (first_walk text a b entry marks w) i l p)
    (λ i l p. ended-sound text b (next_entry text a entry (λ k. (marks k).0)) (λ k. (marks k).1) (next_walk text a b entry marks w) i l p)
    j le h
ended-sound text (either a b) entry marks w j le h =
    elim (or_cases (ended_at text j a (marks j).0) (ended_at text j b (marks j).1) h) [
      | inl p ↦
          let d = ended-sound text a entry (λ k. (marks k).0) (one_walk text a b entry marks w) j le p in
          record { from = d.from; before = d.before; enters = d.enters; matches = inl d.matches }
      | inr p ↦
          let d = ended-sound text b entry (λ k. (marks k).1) (other_walk text a b entry marks w) j le p in
          record { from = d.from; before = d.before; enters = d.enters; matches = inr d.matches }
    ]
ended-sound text (any_number a) entry marks w j le h =
    let d = plus_sound text a entry marks (λ i l p. ended-sound text a (again_entry text a entry marks) marks (star_walk text a entry marks w) i l p) (suc j) j (omega arith) le h in
    record { from = d.from; before = d.before; enters = d.enters; matches = more d.matches.1 d.matches.2 }
ended-sound text (at_least_one a) entry marks w j le h =
    plus_sound text a entry marks (λ i l p. ended-sound text a (again_entry text a entry marks) marks (plus_walk text a entry marks w) i l p) (suc j) j (omega arith) le h
ended-sound text (at_most_one a) entry marks w j le h =
    let d = ended-sound text a entry marks (maybe_walk text a entry marks w) j le h in
    record { from = d.from; before = d.before; enters = d.enters; matches = inr d.matches }

-- what matches ends

symbol_complete : (text : List ℕ) (x : Symbol) (entry : ℕ → Bool) (marks : ℕ → Bool) → Walk text (symbol x) entry marks → Complete text (symbol x) entry marks
symbol_complete text x entry marks w i j m lt le h = ap marks m.1 ∙ w.steps i m.0 ∙ and_from (entry i) (takes x (get_or text i 0)) h m.2

followed_complete : (text : List ℕ) (a b : Tree) (entry : ℕ → Bool) (marks : ℕ → Marks (followed a b)) → Complete text a entry (λ i. (marks i).0) → Complete text b (next_entry text a entry (λ i. (marks i).0)) (λ i. (marks i).1)
    → Complete text (followed a b) entry marks
followed_complete text a b entry marks first second i j m lt le h =
    elim (cases_lt m.0 j) [
      | inl p ↦ or_left (ended_at text j b (marks j).1) (ended_at text j a (marks j).0 && passes_at text j b) (second m.0 j m.2 p le enters)
      | inr p ↦
          let same : m.0 ≡ j = omega (arith, matches_forward text b m.0 j m.2) in
          let A : ℕ → Type 0 = λ q. Matches text a i q in
          let B : ℕ → Type 0 = λ q. Matches text b q j in
          or_right (ended_at text j b (marks j).1) (ended_at text j a (marks j).0 && passes_at text j b)
          (and_from (ended_at text j a (marks j).0) (passes_at text j b) (first i j (subst A same m.1) lt le h) (matches-passes text b j (subst B same m.2)))
    ]
  where
    enters : next_entry text a entry (λ k. (marks k).0) m.0 ≡ true
    enters =
        elim (cases_lt i m.0) [
          | inl q ↦
              or_right (entry m.0 && passes_at text m.0 a) (ended_at text m.0 a (marks m.0).0)
              (first i m.0 m.1 q (le_trans (matches_forward text b m.0 j m.2) le) h)
          | inr q ↦
              let same : i ≡ m.0 = omega (arith, matches_forward text a i m.0 m.1) in
              let A : ℕ → Type 0 = λ p. Matches text a p m.0 in
              or_left (entry m.0 && passes_at text m.0 a) (ended_at text m.0 a (marks m.0).0)
              (and_from (entry m.0) (passes_at text m.0 a) (ap entry (sym same) ∙ h) (matches-passes text a m.0 (subst A same m.1)))
        ]

plus_complete : (text : List ℕ) (a : Tree) (entry : ℕ → Bool) (marks : ℕ → Marks a) → Complete text a (again_entry text a entry marks) marks
    → (i k : ℕ) → Chain (Matches text a) i k → i < k → k ≤ length text → again_entry text a entry marks i ≡ true → ended_at text k a (marks k) ≡ true
plus_complete text a entry marks each i k none lt le h = absurd (omega arith)
plus_complete text a entry marks each i k (more {j = j} s rest) lt le h =
    elim (cases_lt i j) [
      | inl p ↦
          let within : j ≤ length text = le_trans (chain_forward (Matches text a) (λ q r m. matches_forward text a q r m) j k rest) le in
          let ends : ended_at text j a (marks j) ≡ true = each i j s p within h in
          elim (cases_lt j k) [
            | inl q ↦ plus_complete text a entry marks each j k rest q le (or_right (entry j) (ended_at text j a (marks j)) ends)
            | inr q ↦
                let same : j ≡ k = omega (arith, chain_forward (Matches text a) (λ q r m. matches_forward text a q r m) j k rest) in
                let P : ℕ → Type 0 = λ r. ended_at text r a (marks r) ≡ true in
                subst P same ends
          ]
      | inr p ↦
          let same : i ≡ j = omega (arith, matches_forward text a i j s) in
          let P : ℕ → Type 0 = λ r. again_entry text a entry marks r ≡ true in
          plus_complete text a entry marks each j k rest (omega arith) le (subst P same h)
    ]

pub ended-complete : (text : List ℕ) (e : Tree) (entry : ℕ → Bool) (marks : ℕ → Marks e) → Walk text e entry marks → Complete text e entry marks
ended-complete text nothing entry marks w i j m lt le h = absurd (omega (arith, m))
ended-complete text (symbol x) entry marks w i j m lt le h = symbol_complete text x entry marks w i j m lt le h
ended-complete text text_start entry marks w i j m lt le h = absurd (omega (arith, m.0, m.1))
ended-complete text text_end entry marks w i j m lt le h = absurd (omega (arith, m.0, m.1))
ended-complete text (followed a b) entry marks w i j m lt le h =
    followed_complete text a b entry marks
    (λ p q. ended-complete text a entry (λ k. (marks k).0) (first_walk text a b entry marks w) p q)
    (λ p q. ended-complete text b (next_entry text a entry (λ k. (marks k).0)) (λ k. (marks k).1) (next_walk text a b entry marks w) p q)
    i j m lt le h
ended-complete text (either a b) entry marks w i j m lt le h =
    elim m [
      | inl p ↦
          or_left (ended_at text j a (marks j).0) (ended_at text j b (marks j).1)
          (ended-complete text a entry (λ k. (marks k).0) (one_walk text a b entry marks w) i j p lt le h)
      | inr p ↦
          or_right (ended_at text j a (marks j).0) (ended_at text j b (marks j).1)
          (ended-complete text b entry (λ k. (marks k).1) (other_walk text a b entry marks w) i j p lt le h)
    ]
ended-complete text (any_number a) entry marks w i j m lt le h =
    plus_complete text a entry marks (λ p q. ended-complete text a (again_entry text a entry marks) marks (star_walk text a entry marks w) p q) i j m lt le
    (or_left (entry i) (ended_at text i a (marks i)) h)
ended-complete text (at_least_one a) entry marks w i j m lt le h =
    plus_complete text a entry marks (λ p q. ended-complete text a (again_entry text a entry marks) marks (plus_walk text a entry marks w) p q) i j (more m.1 m.2) lt le
    (or_left (entry i) (ended_at text i a (marks i)) h)
ended-complete text (at_most_one a) entry marks w i j m lt le h =
    elim m [
      | inl p ↦ absurd (omega (arith, p))
      | inr p ↦ ended-complete text a entry marks (maybe_walk text a entry marks w) i j p lt le h
    ]
