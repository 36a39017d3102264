-- The higher the level, the more introducers: a user ID that is full at a level is full at each later one.
use Rattle.std.proofs.Common.{◌≡◌, ◌≤◌, ◌&&◌, ◌||◌, not, ℕ, Bool, true, false, cond, nat_lt, count_by, List, [], ◌∷◌, Some, None, is_some, option_map, option_and_then, refl, sym, ap, subst, ◌∙◌, arith}
use Rattle.std.specs.List.{AllByRecursion, cons_option, filter_map, list_any}
use Rattle.std.specs.FinMap as finmap
use Rattle.std.specs.FinMap.{entries}
use Rattle.std.proofs.lemmas.Bool.Decides.{nat_tests}
use Rattle.std.proofs.lemmas.List.Sums.{sum_by-cons}
use Rattle.wot_types.specs.declared.count.Count.{Count}
use Rattle.wot_types.specs.declared.options.Options.{Options}
use Rattle.wot_types.specs.declared.row.Row.{Row}
use Rattle.wot_types.specs.declared.trust.Trust.{Trust}
use Rattle.wot_types.specs.State.{State}
use Rattle.wot_types.specs.Candidates.{RowMap, candidates, count_of, is_candidate, is_full}
use Rattle.wot_types.specs.Expiry.{key_is_live}
use Rattle.wot_types.specs.Keyring.{fpr_at}
use Rattle.wot_types.specs.Levels.{live_spots, new_row}
use Rattle.wot_types.specs.Selection.{Spot, usable}
use Rattle.wot_types.specs.Trust.{is_fully_trusted, is_marginal, is_ultimate}
use Rattle.wot_types.proofs.Chains.{lower_part, same_admits}
use Rattle.wot_types.proofs.MapBy.{entry_by}
use Rattle.wot_types.proofs.Passing.{same_count}
use Rattle.wot_levels.proofs.LevelCuts.{get_below}
use Rattle.wot_levels.proofs.MapEntries.{entries-map_by}
use Rattle.wot_levels.specs.Given.{if_below, rows_below}

module _ (n m : ℕ) (higher : n ≤ m) where
  still_below : (row : Row) → nat_lt row.level n ≡ true → nat_lt row.level m ≡ true
  still_below row is = grind (arith, nat_tests, is, higher)

  abbrev at_level : ℕ → List (ℕ × Row) → List (ℕ × Row)
  at_level k es = filter_map (entry_by (λ (_ : ℕ) (row : Row). if_below k row)) es

  more_counted : (p : ℕ × Row → Bool) (es : List (ℕ × Row)) → count_by p (at_level n es) ≤ count_by p (at_level m es)
  more_counted p [] = omega arith
  more_counted p (e ∷ es) =
      let rest = more_counted p es in
      let one = λ (xs : List (ℕ × Row)). sum_by-cons (λ x. cond (p x) 1 0) (e.0, e.1) xs in
      elim (nat_lt e.1.level n) as (λ b. nat_lt e.1.level n ≡ b
      → count_by p (cons_option (option_map (λ y. (e.0, y)) (cond b (Some e.1) None)) (at_level n es)) ≤ count_by p (cons_option (option_map (λ y. (e.0, y)) (cond (nat_lt e.1.level m) (Some e.1) None)) (at_level m es))) [
        | true ↦ λ is. subst (λ b. count_by p ((e.0, e.1) ∷ at_level n es) ≤ count_by p (cons_option (option_map (λ y. (e.0, y)) (cond b (Some e.1) None)) (at_level m es))) (sym (still_below e.1 is))
            (omega (arith, rest, one (at_level n es), one (at_level m es)))
        | false ↦ λ _. elim (nat_lt e.1.level m) as (λ b. count_by p (at_level n es) ≤ count_by p (cons_option (option_map (λ y. (e.0, y)) (cond b (Some e.1) None)) (at_level m es))) [
          | true ↦ omega (arith, rest, one (at_level m es))
          | false ↦ rest
        ]
      ] refl

  more_candidates : (test : Trust → Bool) (s : State) (spot : Spot) (rows : RowMap) → candidates test s spot (rows_below n rows) ≤ candidates test s spot (rows_below m rows)
  more_candidates test s spot rows =
      let p = is_candidate test s (rows_below n rows) spot in
      let q = is_candidate test s (rows_below m rows) spot in
      let few = ap (count_by p) (entries-map_by (λ (_ : ℕ) (row : Row). if_below n row) rows) in
      let same = same_count p q (at_level n (entries rows)) (each (entries rows)) in
      let many = ap (count_by q) (entries-map_by (λ (_ : ℕ) (row : Row). if_below m row) rows) in
      omega (arith, few, same, many, more_counted q (entries rows))
    where
      -- an introducer of a lower level has the same chain
      lower : (y : ℕ) → option_and_then (if_below n) (finmap.get (rows_below n rows) y) ≡ option_and_then (if_below n) (finmap.get (rows_below m rows) y)
      lower y =
          ap (option_and_then (if_below n)) (get_below n rows y) ∙ lower_part n n (finmap.get rows y) (omega arith)
          ∙ sym (ap (option_and_then (if_below n)) (get_below m rows y) ∙ lower_part n m (finmap.get rows y) higher)

      is_below : (row : Row) → nat_lt row.level n ≡ true → row.level ≤ n
      is_below row is = grind (arith, nat_tests, is)

      one : (e : ℕ × Row) → nat_lt e.1.level n ≡ true → is_candidate test s (rows_below n rows) spot e ≡ is_candidate test s (rows_below m rows) spot e
      one e is =
          ap (λ b. test e.1.trust && is_some (cond (not s.options.pgp || b) (usable s.date s.options.level (fpr_at s.keys e.0) e.0 spot.certs) None))
          (same_admits n (rows_below n rows) (rows_below m rows) lower e.1 spot.user.text (is_below e.1 is))

      each : (es : List (ℕ × Row)) → AllByRecursion (λ e. is_candidate test s (rows_below n rows) spot e ≡ is_candidate test s (rows_below m rows) spot e) (at_level n es)
      each [] = tt
      each (e ∷ es) = elim (nat_lt e.1.level n) as (λ b. nat_lt e.1.level n ≡ b
          → AllByRecursion (λ e. is_candidate test s (rows_below n rows) spot e ≡ is_candidate test s (rows_below m rows) spot e) (cons_option (option_map (λ y. (e.0, y)) (cond b (Some e.1) None)) (at_level n es))) [
            | true ↦ λ is. (one (e.0, e.1) is, each es)
            | false ↦ λ _. each es
          ] refl

  still_full : (o : Options) (c d : Count) → c.ultimate ≤ d.ultimate → c.full ≤ d.full → c.marginal ≤ d.marginal → is_full o c ≡ true → is_full o d ≡ true
  still_full o c d ultimate full marginal is = grind (arith, nat_tests, ultimate, full, marginal, is)

  full_again : (s : State) (rows : RowMap) (spot : Spot) → is_full s.options (count_of s spot (rows_below n rows)) ≡ true → is_full s.options (count_of s spot (rows_below m rows)) ≡ true
  full_again s rows spot is =
      still_full s.options (count_of s spot (rows_below n rows)) (count_of s spot (rows_below m rows))
      (more_candidates is_ultimate s spot rows) (more_candidates is_fully_trusted s spot rows) (more_candidates is_marginal s spot rows) is

  any_again : (s : State) (rows : RowMap) (spots : List Spot)
      → list_any (λ spot. is_full s.options (count_of s spot (rows_below n rows))) spots ≡ true → list_any (λ spot. is_full s.options (count_of s spot (rows_below m rows))) spots ≡ true
  any_again s rows [] is = is
  any_again s rows (spot ∷ spots) is =
      let rest = list_any (λ spot. is_full s.options (count_of s spot (rows_below n rows))) spots in
      let later = list_any (λ spot. is_full s.options (count_of s spot (rows_below m rows))) spots in
      or_again (is_full s.options (count_of s spot (rows_below n rows))) rest (is_full s.options (count_of s spot (rows_below m rows))) later (full_again s rows spot) (any_again s rows spots) is
    where
      or_again : (a b c d : Bool) → (a ≡ true → c ≡ true) → (b ≡ true → d ≡ true) → (a || b) ≡ true → (c || d) ≡ true
      or_again true b c d f g is = ap (λ x. x || d) (f refl)
      or_again false b true d f g is = refl
      or_again false b false d f g is = g is

  pub given_again : (s : State) (rows : RowMap) (id : ℕ) → is_some (option_and_then (new_row s (rows_below n rows) n id) (finmap.get s.keys id)) ≡ true
      → is_some (option_and_then (new_row s (rows_below m rows) m id) (finmap.get s.keys id)) ≡ true
  given_again s rows id is =
      elim (finmap.get s.keys id) as (λ k. is_some (option_and_then (new_row s (rows_below n rows) n id) k) ≡ true → is_some (option_and_then (new_row s (rows_below m rows) m id) k) ≡ true) [
        | None ↦ λ is. is
        | Some key ↦ λ is. both (key_is_live s.date key) _ _ _ _ (any_again s rows (live_spots s.date key)) is
      ] is
    where
      both : (live a b : Bool) (x y : Row) → (a ≡ true → b ≡ true) → is_some (cond (live && a) (Some x) None) ≡ true → is_some (cond (live && b) (Some y) None) ≡ true
      both true true b x y f is = ap (λ c. is_some (cond c (Some y) None)) (f refl)
      both true false b x y f is = cc
      both false a b x y f is = is
