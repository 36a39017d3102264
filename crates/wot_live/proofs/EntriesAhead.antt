-- A map that is walked beside keys which rise.
use Rattle.std.proofs.Common.{◌≡◌, ◌==◌, ◌≤◌, ◌<◌, ℕ, T, true, false, List, [], ◌∷◌, MatchOption, Option, Some, None, refl, sym, ◌∙◌, arith}
use Rattle.std.specs.FinMap as map
use Rattle.std.specs.FinMap.{FinMap, entries_sorted, find, get-entries}
use Rattle.std.specs.FinMap.Entries.{below_all}
use Rattle.std.specs.Ordering.{eq_by_cmp, is_le, is_lt, nat_cmp}
use Rattle.std.proofs.lemmas.Bool.{cond-false, cond-true}
use Rattle.std.proofs.lemmas.Bool.Decides.{nat_tests}
use Rattle.wot_types.proofs.Tests.{first_part, second_part}
use Rattle.std.specs.Borrow.{Bor}
use Rattle.wot_live.specs.Ahead.{IsAhead, entries_left}

another : (k x : ℕ) → x < k → eq_by_cmp nat_cmp k x ≡ false
another k x less = grind (arith, nat_tests)

before : (k x : ℕ) → k < x → eq_by_cmp nat_cmp k x ≡ false
before k x less = grind (arith, nat_tests)

the_same : (k x : ℕ) → x ≡ k → eq_by_cmp nat_cmp k x ≡ true
the_same k x same = grind (arith, nat_tests)

pub lower : (id x : ℕ) → is_le (nat_cmp id x) ≡ false → x < id
lower id x h = grind (arith, nat_tests)

pub later : (id x : ℕ) → id ≤ x → (x == id) ≡ false → id < x
later id x from other = grind (arith, nat_tests)

above : (x y : ℕ) → T (is_lt (nat_cmp x y)) → x < y
above x y h = grind (arith, nat_tests)

module _ {X : Type 0} where
  -- one entry is taken
  pub taken : (r : Option (Bor ℕ × Bor X)) (old new : List (ℕ × X)) → MatchOption r ((old ≡ []) × (new ≡ [])) (λ e. old ≡ (e.0.now, e.1.now) ∷ new) → old ≡ entries_left r new
  taken None old new h = h.0
  taken (Some e) old new h = h

  -- all entries of a map are ahead
  pub ahead_all : (m : FinMap nat_cmp X) → IsAhead m 0 (map.entries m)
  ahead_all m = record { rising = entries_sorted m; found = λ k _. sym (get-entries m k) }

  module _ (m : FinMap nat_cmp X) where
    -- from a later key on less is asked for
    pub ahead_later : (from id : ℕ) (left : List (ℕ × X)) → from ≤ id → IsAhead m from left → IsAhead m id left
    ahead_later from id left later ahead = record { rising = ahead.rising; found = λ k h. ahead.found k (omega (arith, later, h)) }

    -- an entry of a lower key is passed
    pub ahead_behind : (id x : ℕ) (v : X) (left : List (ℕ × X)) → x < id → IsAhead m id ((x, v) ∷ left) → IsAhead m id left
    ahead_behind id x v left less ahead = record {
      rising = second_part _ _ ahead.rising;
      found = λ k h. sym (cond-false (eq_by_cmp nat_cmp k x) (Some v) (find nat_cmp k left) (another k x (omega (arith, less, h)))) ∙ ahead.found k h;
    }

    -- the first entry is that of the key
    pub found_first : (id x : ℕ) (v : X) (left : List (ℕ × X)) → x ≡ id → IsAhead m id ((x, v) ∷ left) → Some v ≡ map.get m id
    found_first id x v left same ahead =
        sym (cond-true (eq_by_cmp nat_cmp id x) (Some v) (find nat_cmp id left) (the_same id x same)) ∙ ahead.found id (omega arith)

    none_above : (id x : ℕ) (left : List (ℕ × X)) → id < x → T (below_all nat_cmp x left) → find nat_cmp id left ≡ None
    none_above id x [] less h = refl
    none_above id x (e ∷ left) less h =
        let more = above x e.0 (first_part _ _ h) in
        cond-false (eq_by_cmp nat_cmp id e.0) (Some e.1) (find nat_cmp id left) (before id e.0 (omega (arith, less, more))) ∙ none_above id x left less (second_part _ _ h)

    -- or the map has nothing at the key
    pub none_first : (id x : ℕ) (v : X) (left : List (ℕ × X)) → id < x → IsAhead m id ((x, v) ∷ left) → None ≡ map.get m id
    none_first id x v left less ahead =
        sym (cond-false (eq_by_cmp nat_cmp id x) (Some v) (find nat_cmp id left) (before id x less) ∙ none_above id x left less (first_part _ _ ahead.rising)) ∙ ahead.found id (omega arith)

    pub none_left : (id : ℕ) → IsAhead m id [] → None ≡ map.get m id
    none_left id ahead = ahead.found id (omega arith)
