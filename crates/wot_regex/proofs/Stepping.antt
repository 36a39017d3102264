-- What comes next by marks of steps, and by those together with others.
use Rattle.std.proofs.Common.{◌≡◌, ◌≢◌, ℕ, suc, zero, ◌+◌, ◌<◌, ◌≤◌, ◌==◌, ◌⊎◌, inl, inr, Bool, true, false, ◌&&◌, ◌||◌, not, List, [], ◌∷◌, length, get_or, refl, sym, ap, ap₂, ◌∙◌, subst, arith}
use Rattle.std.proofs.lemmas.Bool.{cases_eq}
use Rattle.std.proofs.lemmas.List.{get_or_default}
use Rattle.wot_regex.specs.Following.{Holds, IsRow, IsRows, IsStep, cells_by, entered, front, has, only, two_on}
use Rattle.wot_regex.specs.Knowing.{found_at}
use Rattle.wot_regex.specs.Reaching.{marked, nowhere}
use Rattle.wot_regex.specs.declared.followers.Row.{Row}
use Rattle.wot_regex.specs.declared.node.Node.{Node}
use Rattle.wot_regex.specs.declared.reach.Reach.{Reach}
use Rattle.wot_regex.specs.declared.steps.Common.{Common}
use Rattle.wot_regex.proofs.Followings.{entered_joins, entered_length, found_joins, front_all, front_joins, front_skips, holds_plain, join_at, or_false, reach_is, row_joined, row_none}
use Rattle.wot_regex.proofs.Joins.{AllJoin, Joins, more, none}

-- truth values

or_same : (x : Bool) → (x || x) ≡ x
or_same true = refl
or_same false = refl

or_more : (a p q : Bool) → ((a || p) || (a || q)) ≡ (a || (p || q))
or_more true p q = refl
or_more false p q = refl

in_or_out : (m s : Bool) → m ≡ ((m && not s) || (m && s))
in_or_out true true = refl
in_or_out true false = refl
in_or_out false s = refl

in_both : (m s : Bool) → (m && s) ≡ true → s ≡ true
in_both true s on = on
in_both false true on = refl
in_both false false on = on

-- the marks of the first places

abbrev before : ℕ → (ℕ → Bool) → ℕ → Bool
before zero m j = false
before (suc k) m zero = m 0
before (suc k) m (suc j) = before k (λ x. m (suc x)) j

behind_none : (j : ℕ) → (suc j == 0) ≡ false
behind_none j = grind arith

none_behind : (k : ℕ) → (0 == suc k) ≡ false
none_behind k = grind arith

both_behind : (j k : ℕ) → (suc j == suc k) ≡ (j == k)
both_behind j k = which (cases_eq j k)
  where
    which : (j ≡ k) ⊎ (j ≢ k) → (suc j == suc k) ≡ (j == k)
    which (inl e) = grind (arith, e)
    which (inr apart) = grind (arith, apart)

before_on : (k : ℕ) (m : ℕ → Bool) (j : ℕ) → m k ≡ true → before (suc k) m j ≡ (before k m j || (j == k))
before_on zero m zero on = on
before_on zero m (suc j) on = sym (behind_none j)
before_on (suc k) m zero on = or_false (m 0) ∙ ap (λ b. m 0 || b) (sym (none_behind k))
before_on (suc k) m (suc j) on = before_on k (λ x. m (suc x)) j on ∙ ap (λ b. before k (λ x. m (suc x)) j || b) (sym (both_behind j k))

before_off : (k : ℕ) (m : ℕ → Bool) (j : ℕ) → m k ≡ false → before (suc k) m j ≡ before k m j
before_off zero m zero off = off
before_off zero m (suc j) off = refl
before_off (suc k) m zero off = refl
before_off (suc k) m (suc j) off = before_off k (λ x. m (suc x)) j off

before_all : (k : ℕ) (m : ℕ → Bool) (j : ℕ) → j < k → before k m j ≡ m j
before_all zero m j lt = absurd (omega arith)
before_all (suc k) m zero lt = refl
before_all (suc k) m (suc j) lt = before_all k (λ x. m (suc x)) j (omega arith)

-- the places two on from these

two_none : (m : ℕ → Bool) (i : ℕ) → two_on (before 0 m) i ≡ false
two_none m zero = refl
two_none m (suc zero) = refl
two_none m (suc (suc i)) = refl

two_more : (k : ℕ) (m : ℕ → Bool) (i : ℕ) → m k ≡ true → two_on (before (suc k) m) i ≡ (two_on (before k m) i || two_on (λ j. j == k) i)
two_more k m zero on = refl
two_more k m (suc zero) on = refl
two_more k m (suc (suc i)) on = before_on k m i on

two_same : (k : ℕ) (m : ℕ → Bool) (i : ℕ) → m k ≡ false → two_on (before (suc k) m) i ≡ two_on (before k m) i
two_same k m zero off = refl
two_same k m (suc zero) off = refl
two_same k m (suc (suc i)) off = before_off k m i off

two_all : (k : ℕ) (m : ℕ → Bool) (i : ℕ) → i < k → two_on (before k m) i ≡ two_on m i
two_all k m zero lt = refl
two_all k m (suc zero) lt = refl
two_all k m (suc (suc i)) lt = before_all k m i (omega arith)

pub two_like : (m other : ℕ → Bool) → ((j : ℕ) → m j ≡ other j) → (i : ℕ) → two_on m i ≡ two_on other i
two_like m other same zero = refl
two_like m other same (suc zero) = refl
two_like m other same (suc (suc i)) = same i

-- marks that are all of steps lead two on
record Stepped (nodes : List Node) (cells : List Reach) (first : Row) (m : ℕ → Bool) : Type 0 where
  pub next : (i : ℕ) → i < length nodes → get_or (entered nodes false cells) i nowhere ≡ marked (has first.next.words i || two_on m i)
  pub found : first.found ≡ found_at nodes false false cells

module _ (nodes : List Node) (common : Common) (rows : List Row) (words : List ℕ) (cells : List Reach) (room : length nodes ≤ 512) (whole : length nodes ≡ length rows) (known : IsRows nodes common rows) (same : length cells ≡ length nodes) (holds : Holds words cells)
    (all : (i : ℕ) → i < length nodes → has words i ≡ true → has common.steps.words i ≡ true) where
  none_stepped : Stepped nodes (front 0 cells) common.first (before 0 (has words))
  none_stepped =
      let row = row_none nodes common rows cells known same in record {
        next = λ i lt.
            row.next i (omega (arith, lt, entered_length nodes false (front 0 cells)))
            ∙ ap marked (or_false (has common.first.next.words i) ∙ ap (λ b. has common.first.next.words i || b) (sym (two_none (has words) i)));
        found = row.found;
      }

  more_stepped : (k : ℕ) → k < length nodes → has words k ≡ true → Stepped nodes (front k cells) common.first (before k (has words)) → Stepped nodes (front (suc k) cells) common.first (before (suc k) (has words))
  more_stepped k lt on so_far =
      let here : k < length cells = omega (arith, lt, same) in
      let alone = only (length cells) k in
      let row = get_or rows k common.first in
      let P : ℕ → Type 0 = λ n. IsRow nodes false (only n k) row in
      let is : IsRow nodes false alone row = subst P (sym same) (known.each k common.first lt) in
      let step = known.steps k common.first (omega (arith, lt, whole)) (all k lt on) in
      let t : AllJoin (front (suc k) cells) (front k cells) alone = front_joins k cells (holds_plain words cells holds) here (holds k here ∙ ap marked on) in
      record {
        next = λ i less.
            let j = join_at (entered_joins nodes t) i in
            let q = so_far.next i less in
            let b = is.next i (omega (arith, less, entered_length nodes false alone)) in
            reach_is (get_or (entered nodes false (front (suc k) cells)) i nowhere) (has common.first.next.words i || two_on (before (suc k) (has words)) i)
            (j.one ∙ ap (λ (r : Reach). r.passes) q)
            (j.ended
            ∙ ap₂ (λ (x y : Reach). x.ended || y.ended) q b
            ∙ ap (λ x. (has common.first.next.words i || two_on (before k (has words)) i) || x) (step.next i (omega (arith, less, room)))
            ∙ or_more (has common.first.next.words i) (two_on (before k (has words)) i) (two_on (λ j. j == k) i)
            ∙ ap (λ x. has common.first.next.words i || x) (sym (two_more k (has words) i on)));
        found = sym (found_joins nodes t ∙ ap₂ (λ x y. x || y) (sym so_far.found) (sym is.found ∙ step.found) ∙ or_same common.first.found);
      }

  same_stepped : (k : ℕ) → k < length nodes → has words k ≡ false → Stepped nodes (front k cells) common.first (before k (has words)) → Stepped nodes (front (suc k) cells) common.first (before (suc k) (has words))
  same_stepped k lt off so_far =
      let here : k < length cells = omega (arith, lt, same) in
      let P : List Reach → Type 0 = λ x. Stepped nodes x common.first (before (suc k) (has words)) in
      subst P (sym (front_skips k cells (holds k here ∙ ap marked off)))
      (record {
        next = λ i less. so_far.next i less ∙ ap (λ x. marked (has common.first.next.words i || x)) (sym (two_same k (has words) i off));
        found = so_far.found;
      })

  one_stepped : (k : ℕ) (on : Bool) → k < length nodes → has words k ≡ on → Stepped nodes (front k cells) common.first (before k (has words)) → Stepped nodes (front (suc k) cells) common.first (before (suc k) (has words))
  one_stepped k true lt on so_far = more_stepped k lt on so_far
  one_stepped k false lt off so_far = same_stepped k lt off so_far

  front_stepped : (k : ℕ) → k ≤ length nodes → Stepped nodes (front k cells) common.first (before k (has words))
  front_stepped zero le = none_stepped
  front_stepped (suc k) le = one_stepped k (has words k) (omega arith) refl (front_stepped k (omega arith))

  pub row_stepped : (row : Row) → ((i : ℕ) → i < 512 → has row.next.words i ≡ (has common.first.next.words i || two_on (has words) i)) → row.found ≡ common.first.found → IsRow nodes false cells row
  row_stepped row next found =
      let P : List Reach → Type 0 = λ x. Stepped nodes x common.first (before (length nodes) (has words)) in
      let every = subst P (front_all (length nodes) cells (omega (arith, same))) (front_stepped (length nodes) (omega arith)) in
      record {
        next = λ i less.
            let lt : i < length nodes = omega (arith, less, entered_length nodes false cells) in
            every.next i lt
            ∙ ap marked (ap (λ x. has common.first.next.words i || x) (two_all (length nodes) (has words) i lt) ∙ sym (next i (omega (arith, lt, room))));
        found = found ∙ every.found;
      }

-- cells with these marks

pub cells_by_length : (m : ℕ → Bool) (n : ℕ) → length (cells_by m n) ≡ n
cells_by_length m zero = refl
cells_by_length m (suc n) = ap (λ k. suc k) (cells_by_length (λ x. m (suc x)) n)

pub cells_by_at : (m : ℕ → Bool) (n i : ℕ) → i < n → get_or (cells_by m n) i nowhere ≡ marked (m i)
cells_by_at m zero i lt = absurd (omega arith)
cells_by_at m (suc n) zero lt = refl
cells_by_at m (suc n) (suc i) lt = cells_by_at (λ x. m (suc x)) n i (omega arith)

pub holds_by : (words : List ℕ) (n : ℕ) → Holds words (cells_by (has words) n)
holds_by words n i lt = cells_by_at (has words) n i (omega (arith, lt, cells_by_length (has words) n))

pub parts_join : (cells : List Reach) (f g : ℕ → Bool) → ((i : ℕ) → i < length cells → get_or cells i nowhere ≡ marked (f i || g i)) → AllJoin cells (cells_by f (length cells)) (cells_by g (length cells))
parts_join [] f g is = none
parts_join (c ∷ cs) f g is =
    let P : Reach → Type 0 = λ x. Joins x (marked (f 0)) (marked (g 0)) in
    more (subst P (sym (is 0 (omega arith))) (record { one = refl; other = refl; ended = refl })) (parts_join cs (λ x. f (suc x)) (λ x. g (suc x)) (λ i lt. is (suc i) (omega arith)))

-- steps and other places together
module _ (nodes : List Node) (common : Common) (rows : List Row) (words moved others : List ℕ) (cells : List Reach) (room : length nodes ≤ 512) (whole : length nodes ≡ length rows) (known : IsRows nodes common rows) (same : length cells ≡ length nodes) (holds : Holds words cells)
    (is_moved : (i : ℕ) → i < 512 → has moved i ≡ (has words i && has common.steps.words i)) (is_others : (i : ℕ) → i < 512 → has others i ≡ (has words i && not (has common.steps.words i))) where
  pub row_of_both : (by_places by_steps row : Row)
      → ((cells : List Reach) → length cells ≡ length nodes → Holds others cells → IsRow nodes false cells by_places)
      → ((i : ℕ) → i < 512 → has by_steps.next.words i ≡ (has common.first.next.words i || two_on (has moved) i)) → by_steps.found ≡ common.first.found
      → ((i : ℕ) → i < 512 → has row.next.words i ≡ (has by_places.next.words i || has by_steps.next.words i)) → row.found ≡ (by_places.found || by_steps.found) → IsRow nodes false cells row
  row_of_both by_places by_steps row is_places next found joined_next joined_found =
      let n = length cells in
      let some = cells_by (has moved) n in
      let rest = cells_by (has others) n in
      let all : (i : ℕ) → i < length nodes → has moved i ≡ true → has common.steps.words i ≡ true =
      λ i lt on. in_both (has words i) (has common.steps.words i) (sym (is_moved i (omega (arith, lt, room))) ∙ on) in
      let t : AllJoin cells rest some = parts_join cells (has others) (has moved) (λ i lt.
      let less : i < 512 = omega (arith, lt, same, room) in
      holds i lt ∙ ap marked (in_or_out (has words i) (has common.steps.words i) ∙ ap₂ (λ x y. x || y) (sym (is_others i less)) (sym (is_moved i less)))) in
      row_joined nodes row by_places by_steps room t
      (is_places rest (cells_by_length (has others) n ∙ same) (holds_by others n))
      (row_stepped nodes common rows moved some room whole known (cells_by_length (has moved) n ∙ same) (holds_by moved n) all by_steps next found)
      joined_next joined_found

-- the set of a place alone

pub alone_has : (words : List ℕ) (p : ℕ) → has words p ≡ true → ((i : ℕ) → i ≢ p → has words i ≡ false) → (j : ℕ) → has words j ≡ (j == p)
alone_has words p one others j = which (cases_eq j p)
  where
    which : (j ≡ p) ⊎ (j ≢ p) → has words j ≡ (j == p)
    which (inl e) = ap (has words) e ∙ one ∙ grind (arith, e)
    which (inr apart) = others j apart ∙ grind (arith, apart)

-- one more place is looked at

pub steps_more : (first : Row) (old new : List ℕ) (rows : List Row) (i : ℕ) (d : Row) (on : Bool) → i < length rows → has new i ≡ (on || has old i) → ((j : ℕ) → j ≢ i → has new j ≡ has old j)
    → (on ≡ true → IsStep first (get_or rows i d) i) → ((j : ℕ) (e : Row) → j < i → has old j ≡ true → IsStep first (get_or rows j e) j) → ((j : ℕ) → i ≤ j → has old j ≡ false)
    → (j : ℕ) (e : Row) → j < i + 1 → has new j ≡ true → IsStep first (get_or rows j e) j
steps_more first old new rows i d on lt one others step done rest j e less marks = which (cases_eq j i)
  where
    which : (j ≡ i) ⊎ (j ≢ i) → IsStep first (get_or rows j e) j
    which (inl same) =
        let P : ℕ → Type 0 = λ k. IsStep first (get_or rows k e) k in
        let Q : Row → Type 0 = λ r. IsStep first r i in
        let is_on : on ≡ true = or_false on ∙ ap (λ b. on || b) (sym (rest i (omega arith))) ∙ sym one ∙ ap (has new) (sym same) ∙ marks in
        subst P (sym same) (subst Q (get_or_default rows i d e lt) (step is_on))
    which (inr apart) = done j e (omega (arith, less, apart)) (sym (others j apart) ∙ marks)
