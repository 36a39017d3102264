-- Runs of a list that grows at its end.
use Rattle.std.proofs.Common.{◌≡◌, Bool, true, false, cond, ◌||◌, ◌&&◌, List, [], ◌∷◌, ◌++◌, Some, None, refl, sym, ap, ◌∙◌}
use Rattle.std.specs.Prelude.{option_map, option_to_list}
use Rattle.std.specs.List.{list_any}
use Rattle.std.proofs.lemmas.List.Folds.{list_any-append}
use Rattle.std.proofs.lemmas.Bool.{or_parts}
use Rattle.std.proofs.Math.Bool.{or-false}
use Rattle.wot_types.specs.Runs.{Run, alone, open_run, runs, up_to}
use Rattle.wot_types.proofs.RunEnds.{Ends, begins_not}
use Rattle.wot_listing.specs.EndedRuns.{ended_runs}

module _ {X : Type 0} where
  -- a run with one more element
  abbrev pub longer : X → Run X → Run X
  longer x run = record run { rest = run.rest ++ x ∷ [] }

  pub any_more : (p : X → Bool) (xs : List X) (y : X) → list_any p (xs ++ y ∷ []) ≡ (list_any p xs || p y)
  any_more p xs y = list_any-append p xs (y ∷ []) ∙ ap (λ b. list_any p xs || b) (or-false (p y))

  cons_cond : (x : X) (b : Bool) (l m : List X) → x ∷ cond b l m ≡ cond b (x ∷ l) (x ∷ m)
  cons_cond x true l m = refl
  cons_cond x false l m = refl

  -- the front of a longer list
  pub up_to_more : (ends : X → Bool) (xs : List X) (y : X) → up_to ends (xs ++ y ∷ []) ≡ cond (list_any ends xs || ends y) (up_to ends xs) (up_to ends xs ++ y ∷ [])
  up_to_more ends [] y = refl
  up_to_more ends (x ∷ xs) y = elim (ends x) as (λ b. cond b [] (x ∷ up_to ends (xs ++ y ∷ [])) ≡ cond ((b || list_any ends xs) || ends y) (cond b [] (x ∷ up_to ends xs)) (cond b [] (x ∷ up_to ends xs) ++ y ∷ [])) [
    | true ↦ refl
    | false ↦ ap (λ l. x ∷ l) (up_to_more ends xs y) ∙ cons_cond x (list_any ends xs || ends y) (up_to ends xs) (up_to ends xs ++ y ∷ [])
  ]

  -- where nothing ends a run, the elements are one
  up_to_none : (ends : X → Bool) (xs : List X) → list_any ends xs ≡ false → up_to ends xs ≡ xs
  up_to_none ends [] h = refl
  up_to_none ends (x ∷ xs) h = rw (or_parts (ends x) (list_any ends xs) h).0 (ap (λ l. x ∷ l) (up_to_none ends xs (or_parts (ends x) (list_any ends xs) h).1))

  runs_none : (begins ends : X → Bool) → Ends begins ends → (xs : List X) → list_any ends xs ≡ false → runs begins ends xs ≡ []
  runs_none begins ends e [] h = refl
  runs_none begins ends e (x ∷ xs) h = rw (begins_not begins ends e x (or_parts (ends x) (list_any ends xs) h).0) (runs_none begins ends e xs (or_parts (ends x) (list_any ends xs) h).1)

  ended_none : (begins ends : X → Bool) → Ends begins ends → (xs : List X) → list_any ends xs ≡ false → ended_runs begins ends xs ≡ []
  ended_none begins ends e [] h = refl
  ended_none begins ends e (x ∷ xs) h = rw (begins_not begins ends e x (or_parts (ends x) (list_any ends xs) h).0) (ended_none begins ends e xs (or_parts (ends x) (list_any ends xs) h).1)

  open_none : (begins ends : X → Bool) → Ends begins ends → (xs : List X) → list_any ends xs ≡ false → open_run begins ends xs ≡ None
  open_none begins ends e [] h = refl
  open_none begins ends e (x ∷ xs) h = rw (begins_not begins ends e x (or_parts (ends x) (list_any ends xs) h).0) (open_none begins ends e xs (or_parts (ends x) (list_any ends xs) h).1)

  module _ (begins ends : X → Bool) (e : Ends begins ends) where
    split_at : (x : X) (xs : List X) → runs begins ends xs ≡ ended_runs begins ends xs ++ option_to_list (open_run begins ends xs)
        → (b any : Bool) → begins x ≡ b → list_any ends xs ≡ any
        → runs begins ends (x ∷ xs) ≡ ended_runs begins ends (x ∷ xs) ++ option_to_list (open_run begins ends (x ∷ xs))
    split_at x xs ih false any p q = rw p ih
    split_at x xs ih true true p q = rw (p, q) (ap (λ l. record { first = x; rest = up_to ends xs } ∷ l) ih)
    split_at x xs ih true false p q = rw (p, q, ended_none begins ends e xs q, runs_none begins ends e xs q, up_to_none ends xs q) refl

    -- the runs are those that an element has ended, and the one that none has
    pub runs_split : (xs : List X) → runs begins ends xs ≡ ended_runs begins ends xs ++ option_to_list (open_run begins ends xs)
    runs_split [] = refl
    runs_split (x ∷ xs) = split_at x xs (runs_split xs) _ _ refl refl

    open_at : (x : X) (xs : List X) (y : X)
        → open_run begins ends (xs ++ y ∷ []) ≡ cond (ends y) (cond (begins y) (Some (alone y)) None) (option_map (longer y) (open_run begins ends xs))
        → (t b any : Bool) → ends y ≡ t → begins x ≡ b → list_any ends xs ≡ any
        → open_run begins ends (x ∷ xs ++ y ∷ []) ≡ cond (ends y) (cond (begins y) (Some (alone y)) None) (option_map (longer y) (open_run begins ends (x ∷ xs)))
    open_at x xs y ih t false any r p q = rw p ih
    open_at x xs y ih true true true r p q = rw (p, any_more ends xs y, q) ih
    open_at x xs y ih true true false r p q = rw (p, any_more ends xs y, q, r) (rw r at ih)
    open_at x xs y ih false true true r p q = rw (p, any_more ends xs y, q) ih
    open_at x xs y ih false true false r p q = rw (p, any_more ends xs y, q, r) refl

    open_first : (y : X) (b t : Bool) → begins y ≡ b → ends y ≡ t
        → open_run begins ends (y ∷ []) ≡ cond (ends y) (cond (begins y) (Some (alone y)) None) None
    open_first y true true p q = rw (p, q) refl
    open_first y true false p q = absurd (let f : true ≡ false = sym (e y p) ∙ q in cc)
    open_first y false true p q = rw (p, q) refl
    open_first y false false p q = rw (p, q) refl

    -- the open run of a longer list
    pub open_more : (xs : List X) (y : X) → open_run begins ends (xs ++ y ∷ []) ≡ cond (ends y) (cond (begins y) (Some (alone y)) None) (option_map (longer y) (open_run begins ends xs))
    open_more [] y = open_first y _ _ refl refl
    open_more (x ∷ xs) y = open_at x xs y (open_more xs y) _ _ _ refl refl refl

    ended_at : (x : X) (xs : List X) (y : X)
        → ended_runs begins ends (xs ++ y ∷ []) ≡ cond (ends y) (ended_runs begins ends xs ++ option_to_list (open_run begins ends xs)) (ended_runs begins ends xs)
        → (t b any : Bool) → ends y ≡ t → begins x ≡ b → list_any ends xs ≡ any
        → ended_runs begins ends (x ∷ xs ++ y ∷ []) ≡ cond (ends y) (ended_runs begins ends (x ∷ xs) ++ option_to_list (open_run begins ends (x ∷ xs))) (ended_runs begins ends (x ∷ xs))
    ended_at x xs y ih t false any r p q = rw p ih
    ended_at x xs y ih true true true r p q = rw (p, any_more ends xs y, up_to_more ends xs y, q, r) (ap (λ l. record { first = x; rest = up_to ends xs } ∷ l) (rw r at ih))
    ended_at x xs y ih true true false r p q = rw (p, any_more ends xs y, up_to_more ends xs y, q, r, ended_none begins ends e xs q, up_to_none ends xs q)
        (ap (λ l. record { first = x; rest = xs } ∷ l) (rw (r, ended_none begins ends e xs q, open_none begins ends e xs q) at ih))
    ended_at x xs y ih false true true r p q = rw (p, any_more ends xs y, up_to_more ends xs y, q, r) (ap (λ l. record { first = x; rest = up_to ends xs } ∷ l) (rw r at ih))
    ended_at x xs y ih false true false r p q = rw (p, any_more ends xs y, q, r) (rw r at ih)

    -- an element that ends a run adds the open one
    pub ended_more : (xs : List X) (y : X) → ended_runs begins ends (xs ++ y ∷ []) ≡ cond (ends y) (ended_runs begins ends xs ++ option_to_list (open_run begins ends xs)) (ended_runs begins ends xs)
    ended_more [] y = elim (begins y) as (λ b. cond (b && false) (record { first = y; rest = [] } ∷ []) [] ≡ cond {A = List (Run X)} (ends y) [] []) [
      | true ↦ elim (ends y) as (λ b. [] ≡ cond {A = List (Run X)} b [] []) [ true ↦ refl | false ↦ refl ]
      | false ↦ elim (ends y) as (λ b. [] ≡ cond {A = List (Run X)} b [] []) [ true ↦ refl | false ↦ refl ]
    ]
    ended_more (x ∷ xs) y = ended_at x xs y (ended_more xs y) _ _ _ refl refl refl
