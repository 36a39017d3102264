-- The induction over the levels of changed rows.
use Rattle.std.proofs.Common.{◌≡◌, ◌≢◌, ◌-◌, ◌<◌, ◌≤◌, ◌==◌, ◌&&◌, ◌||◌, ◌⊎◌, inl, inr, not, ℕ, suc, Bool, true, false, cond, nat_lt, List, [], ◌∷◌, ◌++◌, Option, Some, None, option_and_then, IfSome, is_some, refl, sym, ap, subst, ◌∙◌, arith}
use Rattle.std.specs.Option.{option_map_or}
use Rattle.std.specs.FinMap as finmap
use Rattle.std.specs.FinMap.{get-empty, nat_cmp-IsAntisymmetric, same_map}
use Rattle.std.specs.Ordering.{nat_cmp}
use Rattle.std.specs.List.{list_any}
use Rattle.std.specs.Cmp.{nat_cmp_total}
use Rattle.std.proofs.lemmas.Bool.{and_parts, false≢true, true≢false}
use Rattle.std.proofs.lemmas.Bool.Decides.{nat_tests}
use Rattle.std.proofs.lemmas.List.Folds.{list_any-append}
use Rattle.std.proofs.Math.Bool.{or-true}
use Rattle.wot_types.specs.declared.key.Key.{Key}
use Rattle.wot_types.specs.declared.row.Row.{Row}
use Rattle.wot_types.specs.State.{State}
use Rattle.wot_types.specs.Candidates.{RowMap, chain, chain_of}
use Rattle.wot_types.specs.Explanation.{KeySet}
use Rattle.wot_types.specs.Levels.{first_row, kept_or, new_row, rows_of, rows_upto}
use Rattle.wot_types.specs.Indexes.{has_cert_by, key_issuers}
use Rattle.wot_types.specs.Touched.{chain_differs, is_certified_at, is_certified_by, is_touched}
use Rattle.wot_types.proofs.Chains.{chain_row, was_there}
use Rattle.wot_types.proofs.Frames.{IssuersStay, certified_by_one, first_row_frame, issuers_of, new_row_frame, via_certified}
use Rattle.wot_types.proofs.SameRows.{chains_differ, decide_standing}
use Rattle.wot_types.proofs.Tests.{is_key}
use Rattle.wot_levels.specs.Given.{given_row, row_at_level, rows_below}
use Rattle.wot_live.specs.Recounting.{IntroducersStay, IsAlike, IsRecounted, IsTouchedList, among, is_carried, is_via_of, kept_above, recounted}
use Rattle.wot_live.proofs.BeforeLevels.{IsStage, row_below, rows_before}
use Rattle.wot_live.proofs.LevelChains.{back_chain, before_level, chain_at, next_chain}
use Rattle.wot_live.proofs.Befores.{before_below_itself, get_below, get_step, high_goes, level_given, low_stays, no_key_before, of_final}

-- ---- one key at one level

abbrev pub IsGiven : ℕ → Option Row → Type 0
IsGiven n o = IfSome o (λ row. row.level ≡ n)

at_level : (n : ℕ) (o : Option Row) → IsGiven n o → row_below (suc n) o ≡ o
at_level n None h = refl
at_level n (Some row) h = low_stays (suc n) (Some row) (omega (arith, h))

pub not_low : (n : ℕ) (old : Row) → nat_lt old.level n ≡ false → n ≤ old.level
not_low n old h = grind (arith, nat_tests)

pub is_low : (n : ℕ) (old : Row) → nat_lt old.level n ≡ true → old.level < n
is_low n old h = grind (arith, nat_tests)

above : (n : ℕ) (old : Row) → nat_lt old.level n ≡ false → (old.level == n) ≡ false → suc n ≤ old.level
above n old h e = grind (arith, nat_tests)

-- a recounted row of a level that isn't lower is what the level gives
counted_here : (n : ℕ) (old : Row) (new : Option Row) → IsGiven n new → nat_lt old.level n ≡ false → row_below (suc n) (kept_above n old new) ≡ new
counted_here n old (Some new) given high = at_level n (Some new) given
counted_here n old None given high = elim (old.level == n) as (λ b. (old.level == n) ≡ b → row_below (suc n) (cond b None (Some old)) ≡ None) [
  | true ↦ λ _. refl
  | false ↦ λ other. high_goes (suc n) (Some old) (above n old high other)
] refl

-- the lower rows stay
pub lower_stays : (n : ℕ) (old new : Option Row) → IsGiven n new → row_below n (recounted n old new) ≡ row_below n old
lower_stays n None new given = high_goes n new (far new given)
  where
    far : (o : Option Row) → IsGiven n o → IfSome o (λ row. n ≤ row.level)
    far None h = tt
    far (Some row) h = omega (arith, h)
lower_stays n (Some old) new given = elim (nat_lt old.level n) as (λ b. nat_lt old.level n ≡ b → row_below n (cond b (Some old) (kept_above n old new)) ≡ row_below n (Some old)) [
  | true ↦ λ _. refl
  | false ↦ λ high. gone new given high ∙ sym (high_goes n (Some old) (not_low n old high))
] refl
  where
    gone : (o : Option Row) → IsGiven n o → nat_lt old.level n ≡ false → row_below n (kept_above n old o) ≡ None
    gone (Some row) h high = high_goes n (Some row) (omega (arith, h))
    gone None h high = elim (old.level == n) as (λ b. row_below n (cond b None (Some old)) ≡ None) [
      | true ↦ refl
      | false ↦ high_goes n (Some old) (not_low n old high)
    ]

-- where a recount changes a row, the rows up to the level differ
pub changes_here : (n : ℕ) (old new : Option Row) → IsGiven n new → (recounted n old new ≡ old) ⊎ (row_below (suc n) (recounted n old new) ≢ row_below (suc n) old)
changes_here n None None given = inl refl
changes_here n None (Some new) given = inr (λ e. apart (sym (at_level n (Some new) given) ∙ e))
  where
    apart : Some new ≡ None → ⊥
    apart e = cc
changes_here n (Some old) new given =
    elim (nat_lt old.level n) as (λ b. nat_lt old.level n ≡ b → (cond b (Some old) (kept_above n old new) ≡ Some old) ⊎ (row_below (suc n) (cond b (Some old) (kept_above n old new)) ≢ row_below (suc n) (Some old))) [
      | true ↦ λ _. inl refl
      | false ↦ λ high. at new given high
    ] refl
  where
    none_some : (x : Row) → None ≡ Some x → ⊥
    none_some x e = cc

    at : (o : Option Row) → IsGiven n o → nat_lt old.level n ≡ false → (kept_above n old o ≡ Some old) ⊎ (row_below (suc n) (kept_above n old o) ≢ row_below (suc n) (Some old))
    at None h high = elim (old.level == n) as (λ b. (old.level == n) ≡ b → (cond b None (Some old) ≡ Some old) ⊎ (row_below (suc n) (cond b None (Some old)) ≢ row_below (suc n) (Some old))) [
      | true ↦ λ here. inr (λ e. none_some old (e ∙ at_level n (Some old) (is_key old.level n here)))
      | false ↦ λ _. inl refl
    ] refl
    at (Some new) h high = elim (decide_standing (Some new) (Some old)) as (λ _. (Some new ≡ Some old) ⊎ (row_below (suc n) (Some new) ≢ row_below (suc n) (Some old))) [
      | inl same ↦ inl same
      | inr apart ↦ inr (λ e. elim (old.level == n) as (λ b. (old.level == n) ≡ b → ⊥) [
        | true ↦ λ here. apart (sym (at_level n (Some new) h) ∙ e ∙ at_level n (Some old) (is_key old.level n here))
        | false ↦ λ other. none_some new (sym (high_goes (suc n) (Some old) (above n old high other)) ∙ sym e ∙ at_level n (Some new) h)
      ] refl)
    ]

-- ---- one level

pub among_more : (todo added : List ℕ) (x : ℕ) → among (todo ++ added) x ≡ false → among todo x ≡ false
among_more todo added x h = first (among todo x) (among added x) (sym (list_any-append (λ id. id == x) todo added) ∙ h)
  where
    first : (a b : Bool) → (a || b) ≡ false → a ≡ false
    first true b e = e
    first false b e = refl

pub among_first : (todo added : List ℕ) (x : ℕ) → among todo x ≡ true → among (todo ++ added) x ≡ true
among_first todo added x h = list_any-append (λ id. id == x) todo added ∙ ap (λ b. b || among added x) h

-- the rows with lower ones in their places
right_below : (t : State) (n : ℕ) (rows : RowMap) → ((x : ℕ) → row_below n (finmap.get rows x) ≡ finmap.get (rows_before t n) x) → rows_below n rows ≡ rows_before t n
right_below t n rows h = same_map nat_cmp_total nat_cmp-IsAntisymmetric _ _ (λ x. get_below n rows x ∙ h x)

pub certified_here : (t : State) (x y : ℕ) (key : Key) → finmap.get t.keys x ≡ Some key → issuers_of key y ≡ true → has_cert_by t.keys y x ≡ true
certified_here t x y key is its = ap (λ o. option_map_or (λ key. list_any (λ n. n == y) (key_issuers key)) o false) is ∙ its

-- the kept rows of lower levels are those of the state
module _ (t : State) (n : ℕ) (rows : RowMap) (below : (x : ℕ) → row_below n (finmap.get rows x) ≡ finmap.get (rows_before t n) x) where
  -- what the level gives a key that is recounted
  step_of : (x : ℕ) → finmap.get (rows_before t (suc n)) x ≡ option_and_then (λ key. kept_or (finmap.get (rows_before t n) x) (row_at_level t rows n x key)) (finmap.get t.keys x)
  step_of x = get_step t n rows x (right_below t n rows below)

  had_key : (x : ℕ) (row : Row) → finmap.get (rows_before t n) x ≡ Some row → option_and_then {U = Row} (λ (key : Key). Some row) (finmap.get t.keys x) ≡ Some row
  had_key x row is = elim (finmap.get t.keys x) as (λ o. finmap.get t.keys x ≡ o → option_and_then {U = Row} (λ (key : Key). Some row) o ≡ Some row) [
    | None ↦ λ none. absurd (there (sym is ∙ no_key_before t n x none))
    | Some key ↦ λ _. refl
  ] refl
    where
      there : Some row ≡ None → ⊥
      there e = cc

  pub counted_is : (x : ℕ) (old : Option Row) → finmap.get rows x ≡ old → row_below (suc n) (recounted n old (given_row t rows n x)) ≡ finmap.get (rows_before t (suc n)) x
  counted_is x None is =
      let none = sym (below x) ∙ ap (row_below n) is in
      at_level n (given_row t rows n x) (level_given t rows n x)
      ∙ sym (step_of x ∙ ap (λ r. option_and_then (λ key. kept_or r (row_at_level t rows n x key)) (finmap.get t.keys x)) none)
  counted_is x (Some old) is =
      elim (nat_lt old.level n) as (λ b. nat_lt old.level n ≡ b → row_below (suc n) (cond b (Some old) (kept_above n old (given_row t rows n x))) ≡ finmap.get (rows_before t (suc n)) x) [
        | true ↦ λ low.
            let there = sym (below x) ∙ ap (row_below n) is ∙ low_stays n (Some old) (is_low n old low) in
            let less = is_low n old low in
            low_stays (suc n) (Some old) (omega (arith, less))
            ∙ sym (step_of x ∙ ap (λ r. option_and_then (λ key. kept_or r (row_at_level t rows n x key)) (finmap.get t.keys x)) there ∙ had_key x old there)
        | false ↦ λ high.
            let none = sym (below x) ∙ ap (row_below n) is ∙ high_goes n (Some old) (not_low n old high) in
            counted_here n old (given_row t rows n x) (level_given t rows n x) high
            ∙ sym (step_of x ∙ ap (λ r. option_and_then (λ key. kept_or r (row_at_level t rows n x key)) (finmap.get t.keys x)) none)
      ] refl

some_below : (n : ℕ) (o : Option Row) → is_some (row_below n o) ≡ true → is_some o ≡ true
some_below n None h = h
some_below n (Some row) h = refl

-- a key with a row is there
pub key_of_row : (t : State) (n y : ℕ) → is_some (finmap.get (rows_before t n) y) ≡ true → finmap.contains_key t.keys y ≡ true
key_of_row t n y there = elim (finmap.get t.keys y) as (λ o. finmap.get t.keys y ≡ o → is_some o ≡ true) [
  | None ↦ λ none. sym (ap is_some (no_key_before t n y none)) ∙ there
  | Some key ↦ λ _. refl
] refl

module _ (s t : State) (options : s.options ≡ t.options) (fprs : IntroducersStay (rows_of s) s.keys t.keys) (start : List ℕ) (alike_but : (x : ℕ) → among start x ≡ false → IsAlike s t x) (some : 1 ≤ t.options.depth) where
  old_depth : (n : ℕ) → n ≤ t.options.depth → n ≤ s.options.depth
  old_depth n h = subst (λ o. n ≤ o.depth) (sym options) h

  before_of : (n x : ℕ) → n ≤ t.options.depth → row_below n (finmap.get (rows_of s) x) ≡ finmap.get (rows_before s n) x
  before_of n x h = of_final s n x (old_depth n h) (old_depth 1 some)

  -- a key that both states have alike, and whose issuers have the same chains of lower rows, gets the same row
  alike_step : (n x : ℕ) → n ≤ t.options.depth → IsAlike s t x → finmap.get (rows_before s n) x ≡ finmap.get (rows_before t n) x
      → ((y : ℕ) → has_cert_by t.keys y x ≡ true → chain (rows_before s n) y ≡ chain (rows_before t n) y)
      → finmap.get (rows_before s (suc n)) x ≡ finmap.get (rows_before t (suc n)) x
  alike_step n x within alike before issuers =
      let a = rows_before s n in
      let b = rows_before t n in
      get_step s n a x (before_below_itself s n)
      ∙ ap (option_and_then (λ key. kept_or (finmap.get a x) (row_at_level s a n x key))) alike.key
      ∙ elim (finmap.get t.keys x) as (λ o. finmap.get t.keys x ≡ o
      → option_and_then (λ key. kept_or (finmap.get a x) (row_at_level s a n x key)) o ≡ option_and_then (λ key. kept_or (finmap.get b x) (row_at_level t b n x key)) o) [
        | None ↦ λ _. refl
        | Some key ↦ λ is. λ i. kept_or (before i) (same key is i)
      ] refl
      ∙ sym (get_step t n b x (before_below_itself t n))
    where
      lower : (y : ℕ) → chain (rows_before s n) y ≡ chain (rows_before t n) y → chain (rows_below n (rows_before s n)) y ≡ chain (rows_below n (rows_before t n)) y
      lower y e = ap (λ m. chain m y) (before_below_itself s n) ∙ e ∙ sym (ap (λ m. chain m y) (before_below_itself t n))

      stays : (key : Key) → finmap.get t.keys x ≡ Some key → IssuersStay s.keys t.keys key (rows_below n (rows_before t n))
      stays key is y its there =
          let after = sym (ap (λ m. is_some (finmap.get m y)) (before_below_itself t n)) ∙ there in
          let had = some_below n (finmap.get (rows_of s) y) (ap is_some (before_of n y within ∙ chain_row (rows_before s n) (rows_before t n) y (issuers y (certified_here t x y key is its))) ∙ after) in
          fprs y had (key_of_row t n y after)

      same : (key : Key) → finmap.get t.keys x ≡ Some key → row_at_level s (rows_before s n) n x key ≡ row_at_level t (rows_before t n) n x key
      same key is =
          let own = alike.own key is in
          let dates = alike.dates key is in
          let m = rows_below n (rows_before s n) in
          let l = rows_below n (rows_before t n) in
          let chains : (y : ℕ) → issuers_of key y ≡ true → chain m y ≡ chain l y = λ y its. lower y (issuers y (certified_here t x y key is its)) in
          elim (n == 0) as (λ b. cond b (first_row s x key) (new_row s m n x key) ≡ cond b (first_row t x key) (new_row t l n x key)) [
            | true ↦ first_row_frame s t options m l key dates chains (stays key is) x own
            | false ↦ new_row_frame s t options m l key dates chains (stays key is) n x own
          ]

  -- a key that both states have alike was certified by whoever its old row names
  names_certifier : (x z : ℕ) (row : Row) → IsAlike s t x → finmap.get (rows_of s) x ≡ Some row → row.via ≡ Some z → has_cert_by t.keys z x ≡ true
  names_certifier x z row alike at via = ap (λ o. option_map_or (λ key. list_any (λ n. n == z) (key_issuers key)) o false) (sym alike.key) ∙ via_certified s (s.options.depth - 1) x z row at via

  module _ (n : ℕ) (within : suc n ≤ t.options.depth) (rows : RowMap) (todo moved : List ℕ) (stage : IsStage s t n rows todo moved) (apart : (x : ℕ) → among todo x ≡ false → among start x ≡ false)
      (new : RowMap) (more fresh : List ℕ) (pass : IsRecounted t n moved todo rows todo [] new more fresh) where
    low_within : n ≤ t.options.depth
    low_within = omega (arith, within)

    untouched : (x : ℕ) → among todo x ≡ false → finmap.get new x ≡ finmap.get (rows_of s) x
    untouched x out = pass.others x out ∙ stage.kept x out

    next_below : (x : ℕ) → row_below (suc n) (finmap.get new x) ≡ finmap.get (rows_before t (suc n)) x
    next_below x = elim (among todo x) as (λ b. among todo x ≡ b → row_below (suc n) (finmap.get new x) ≡ finmap.get (rows_before t (suc n)) x) [
      | true ↦ λ its. ap (row_below (suc n)) (pass.counted x its) ∙ counted_is t n rows stage.below x (finmap.get rows x) refl
      | false ↦ λ out.
          let before = sym (before_of n x low_within) ∙ sym (ap (row_below n) (stage.kept x out)) ∙ stage.below x in
          ap (row_below (suc n)) (untouched x out) ∙ before_of (suc n) x within
          ∙ alike_step n x low_within (alike_but x (apart x out)) before (λ y cert. stage.alike y (stage.reach x y out cert))
    ] refl

    -- the chains that changed so far, with those of this level
    abbrev is_moved : ℕ → Bool
    is_moved y = among moved y || among fresh y

    moved_not : (y : ℕ) → is_moved y ≡ false → (among moved y ≡ false) × (among fresh y ≡ false)
    moved_not y h = both_out (among moved y) (among fresh y) h
      where
        both_out : (a b : Bool) → (a || b) ≡ false → (a ≡ false) × (b ≡ false)
        both_out false b e = (refl, e)
        both_out true b e = absurd (true≢false e)

    next_old : (y : ℕ) → is_moved y ≡ false → finmap.get new y ≡ finmap.get (rows_of s) y
    next_old y h = let outs = moved_not y h in (pass.stays y outs.1).1 ∙ stage.old y outs.0

    same_next : (y : ℕ) → is_moved y ≡ false → finmap.get (rows_before s (suc n)) y ≡ finmap.get (rows_before t (suc n)) y
    same_next y h = sym (before_of (suc n) y within) ∙ ap (row_below (suc n)) (sym (next_old y h)) ∙ next_below y

    -- the key that a row of this level names hasn't changed its chain, where the key with the row hasn't
    via_not_moved : (y z : ℕ) (row : Row) → is_moved y ≡ false → finmap.get new y ≡ Some row → row.level ≡ n → row.via ≡ Some z → among moved z ≡ false
    via_not_moved y z row h at level via = elim (among todo y) as (λ b. among todo y ≡ b → among moved z ≡ false) [
      | true ↦ λ its.
          let here : (row.level == n) ≡ true = ap (λ l. l == n) level ∙ itself n in
          sym (ap (λ o. option_map_or (among moved) o false) via) ∙ sym (ap (λ b. b && is_via_of moved row) here) ∙ sym (ap (is_carried moved n) at) ∙ (pass.stays y (moved_not y h).1).2 its
      | false ↦ λ out. stage.reach y z out (names_certifier y z row (alike_but y (apart y out)) (sym (next_old y h) ∙ at) via)
    ] refl
      where
        itself : (k : ℕ) → (k == k) ≡ true
        itself k = grind (arith, nat_tests)

    next_alike : (y : ℕ) → is_moved y ≡ false → chain (rows_before s (suc n)) y ≡ chain (rows_before t (suc n)) y
    next_alike y h = by (finmap.get (rows_before t (suc n)) y) refl
      where
        same : finmap.get (rows_before s (suc n)) y ≡ finmap.get (rows_before t (suc n)) y
        same = same_next y h

        by : (o : Option Row) → finmap.get (rows_before t (suc n)) y ≡ o → chain (rows_before s (suc n)) y ≡ chain (rows_before t (suc n)) y
        by None none = ap (λ o. option_map_or (chain_of (rows_before s (suc n))) o []) (same ∙ none) ∙ sym (ap (λ o. option_map_or (chain_of (rows_before t (suc n))) o []) none)
        by (Some row) at = elim (nat_lt row.level n) as (λ b. nat_lt row.level n ≡ b → chain (rows_before s (suc n)) y ≡ chain (rows_before t (suc n)) y) [
          | true ↦ λ low. next_chain s t n y row (same ∙ at) at (is_low n row low) (stage.alike y (moved_not y h).0)
          | false ↦ λ high.
              let upper = before_level t (suc n) y row at in
              let lower = not_low n row high in
              let level : row.level ≡ n = omega (arith, upper, lower) in
              let now = was_there (suc n) (finmap.get new y) row (next_below y ∙ at) in
              chain_at s n y row (same ∙ at) level
              ∙ ap (λ xs. row ∷ xs) (above row.via (λ z via. stage.alike z (via_not_moved y z row h now level via)))
              ∙ sym (chain_at t n y row at level)
        ] refl
          where
            above : (via : Option ℕ) → ((z : ℕ) → via ≡ Some z → chain (rows_before s n) z ≡ chain (rows_before t n) z) → option_map_or (chain (rows_before s n)) via [] ≡ option_map_or (chain (rows_before t n)) via []
            above None f = refl
            above (Some z) f = f z refl

    later_differs : (y : ℕ) → chain (rows_before s n) y ≢ chain (rows_before t n) y → chain (rows_before s (suc n)) y ≢ chain (rows_before t (suc n)) y
    later_differs y d e = d (back_chain s t n (suc n) y (omega arith) e)

    -- where the row changed the chain did
    row_moved : (y : ℕ) → among moved y ≡ false → finmap.get new y ≢ finmap.get rows y → chain (rows_before s (suc n)) y ≢ chain (rows_before t (suc n)) y
    row_moved y out changed e = elim (among todo y) as (λ b. among todo y ≡ b → ⊥) [
      | false ↦ λ gone. changed (pass.others y gone)
      | true ↦ λ its. elim (changes_here n (finmap.get rows y) (given_row t rows n y) (level_given t rows n y)) as (λ _. ⊥) [
        | inl kept ↦ changed (pass.counted y its ∙ kept)
        | inr d ↦ d (sym (ap (row_below (suc n)) (pass.counted y its)) ∙ next_below y ∙ sym (chain_row (rows_before s (suc n)) (rows_before t (suc n)) y e)
            ∙ sym (before_of (suc n) y within) ∙ sym (ap (row_below (suc n)) (stage.old y out)))
      ]
    ] refl

    -- where the chain changed above the row it did
    carried_moved : (y : ℕ) → is_carried moved n (finmap.get new y) ≡ true → chain (rows_before s (suc n)) y ≢ chain (rows_before t (suc n)) y
    carried_moved y carried e = by (finmap.get new y) refl carried
      where
        named : (row : Row) (via : Option ℕ) → option_map_or (among moved) via false ≡ true → row.level ≡ n → row.via ≡ via → finmap.get new y ≡ Some row → ⊥
        named row None none level via at = false≢true none
        named row (Some z) its level via at =
            let now = sym (next_below y) ∙ ap (row_below (suc n)) at ∙ low_stays (suc n) (Some row) (omega (arith, level)) in
            let was = chain_row (rows_before s (suc n)) (rows_before t (suc n)) y e ∙ now in
            let both = sym (chain_at s n y row was level) ∙ e ∙ chain_at t n y row now level in
            stage.apart z its (sym (ap (λ o. option_map_or (chain (rows_before s n)) o []) via) ∙ behind row _ _ both ∙ ap (λ o. option_map_or (chain (rows_before t n)) o []) via)
          where
            behind : (r : Row) (xs ys : List Row) → (r ∷ xs) ≡ (r ∷ ys) → xs ≡ ys
            behind r xs ys e = cc

        by : (o : Option Row) → finmap.get new y ≡ o → is_carried moved n o ≡ true → ⊥
        by None at none = false≢true none
        by (Some row) at its =
            let parts = and_parts (row.level == n) (is_via_of moved row) its in
            named row row.via parts.1 (is_key row.level n parts.0) refl at

    next_apart : (y : ℕ) → is_moved y ≡ true → chain (rows_before s (suc n)) y ≢ chain (rows_before t (suc n)) y
    next_apart y h = elim (among moved y) as (λ b. among moved y ≡ b → (b || among fresh y) ≡ true → chain (rows_before s (suc n)) y ≢ chain (rows_before t (suc n)) y) [
      | true ↦ λ before _. later_differs y (stage.apart y before)
      | false ↦ λ out new_one. elim (pass.moves y new_one) as (λ _. chain (rows_before s (suc n)) y ≢ chain (rows_before t (suc n)) y) [
        | inl none ↦ absurd (false≢true none)
        | inr why ↦ elim why as (λ _. chain (rows_before s (suc n)) y ≢ chain (rows_before t (suc n)) y) [
          | inl changed ↦ row_moved y out changed
          | inr carried ↦ carried_moved y carried
        ]
      ]
    ] refl h

    out_before : (x : ℕ) → among more x ≡ false → among todo x ≡ false
    out_before x out = among_more todo pass.longer.0 x (sym (ap (λ ids. among ids x) pass.longer.1) ∙ out)

    next_reach : (x y : ℕ) → among more x ≡ false → has_cert_by t.keys y x ≡ true → is_moved y ≡ false
    next_reach x y out cert = (λ i. stage.reach x y (out_before x out) cert i || unmoved i)
      where
        unmoved : among fresh y ≡ false
        unmoved = elim (among fresh y) as (λ b. among fresh y ≡ b → b ≡ false) [
          | false ↦ λ _. refl
          | true ↦ λ its. elim (pass.reach y its) as (λ _. true ≡ false) [
            | inl none ↦ absurd (false≢true none)
            | inr all ↦ absurd (false≢true (sym out ∙ all x cert))
          ]
        ] refl

    -- the stage before the next level
    pub next_stage : (all : List ℕ) → ((y : ℕ) → among all y ≡ (among moved y || among fresh y)) → IsStage s t (suc n) new more all
    next_stage all are = record {
      below = next_below;
      kept = λ x out. untouched x (out_before x out);
      old = λ y h. next_old y (sym (are y) ∙ h);
      alike = λ y h. next_alike y (sym (are y) ∙ h);
      apart = λ y h. next_apart y (sym (are y) ∙ h);
      reach = λ x y out cert. are y ∙ next_reach x y out cert;
    }

    -- ---- each key to be recounted is touched

    differs_in_the_end : (m y : ℕ) → m ≤ t.options.depth → chain (rows_before s m) y ≢ chain (rows_before t m) y → chain_differs s t y ≡ true
    differs_in_the_end m y h d = ap not (chains_differ (chain (rows_of s) y) (chain (rows_of t) y) (λ e. d (back_chain s t m (suc (t.options.depth - 1)) y (omega (arith, h, some)) (at_the_end y e))))
      where
        last : s.options.depth - 1 ≡ t.options.depth - 1
        last = ap (λ o. o.depth - 1) options

        at_the_end : (y : ℕ) → chain (rows_of s) y ≡ chain (rows_of t) y → chain (rows_before s (suc (t.options.depth - 1))) y ≡ chain (rows_before t (suc (t.options.depth - 1))) y
        at_the_end y e = ap (λ k. chain (rows_upto s k) y) (sym last) ∙ e

    certified : (named : KeySet) (x y : ℕ) → has_cert_by t.keys y x ≡ true → chain_differs s t y ≡ true → is_touched named s t x ≡ true
    certified named x y cert its =
        let one : is_certified_at t.keys (chain_differs s t) x ≡ true = elim (finmap.get t.keys x) as (λ o. option_map_or (λ key. list_any (λ n. n == y) (key_issuers key)) o false ≡ true → option_map_or (is_certified_by (chain_differs s t)) o false ≡ true) [
          | None ↦ λ h. h
          | Some key ↦ λ h. certified_by_one (chain_differs s t) y its key h
        ] cert in
        let before = named x || is_certified_at s.keys (chain_differs s t) x in
        ap (λ b. before || b) one ∙ or-true before

    -- what is to be recounted at the next level is touched
    pub next_touched : (named : KeySet) → IsTouchedList named s t todo → IsTouchedList named s t more
    next_touched named sofar x its = elim (pass.only x its) as (λ _. is_touched named s t x ≡ true) [
      | inl old ↦ sofar x old
      | inr found ↦ certified named x found.0 found.2 (differs_in_the_end (suc n) found.0 within (next_apart found.0 (ap (λ b. among moved found.0 || b) found.1 ∙ or-true (among moved found.0))))
    ]

-- ---- the last level

-- no kept row is of a higher level
abbrev pub IsLow : ℕ → RowMap → Type 0
IsLow top rows = (x : ℕ) → IfSome (finmap.get rows x) (λ row. row.level ≤ top)

low_all : (n : ℕ) (o : Option Row) (top : ℕ) → top < n → IfSome o (λ row. row.level ≤ top) → row_below n o ≡ o
low_all n None top h low = refl
low_all n (Some row) top h low = low_stays n (Some row) (omega (arith, h, low))

module _ (s t : State) (some : 1 ≤ t.options.depth) (n : ℕ) (rows : RowMap) (todo moved : List ℕ) (stage : IsStage s t n rows todo moved) (top : ℕ) (low : IsLow top rows) where
  all_below : top < n → rows ≡ rows_before t n
  all_below h = same_map nat_cmp_total nat_cmp-IsAntisymmetric _ _ (λ x. sym (low_all n (finmap.get rows x) top h (low x)) ∙ stage.below x)

  -- behind the last level the kept rows are those of the state
  pub final_at_the_end : n ≡ t.options.depth → top < n → rows ≡ rows_of t
  final_at_the_end e h =
      let last : n ≡ suc (t.options.depth - 1) = omega (arith, e, some) in
      all_below h ∙ ap (rows_before t) last

  -- the issuers of a key that wasn't recounted have their old chains
  pub issuers_alike : s.options ≡ t.options → n ≡ t.options.depth → (x y : ℕ) → among todo x ≡ false → has_cert_by t.keys y x ≡ true → chain (rows_of s) y ≡ chain (rows_of t) y
  issuers_alike options end x y out cert =
      let last : n ≡ suc (t.options.depth - 1) = omega (arith, end, some) in
      let same = ap (λ o. o.depth - 1) options in
      ap (λ k. chain (rows_upto s k) y) same ∙ sym (ap (λ k. chain (rows_before s k) y) last) ∙ stage.alike y (stage.reach x y out cert) ∙ ap (λ k. chain (rows_before t k) y) last

-- ---- the first level

pub first_stage : (s t : State) (todo : List ℕ) → IsStage s t 0 (rows_of s) todo []
first_stage s t todo = record {
  below = λ x. none (finmap.get (rows_of s) x) ∙ sym (get-empty nat_cmp x);
  kept = λ x _. refl;
  old = λ y _. refl;
  alike = λ y _. refl;
  apart = λ y its. absurd (false≢true its);
  reach = λ x y _ _. refl;
}
  where
    none : (o : Option Row) → row_below 0 o ≡ None
    none o = high_goes 0 o (each o)
      where
        each : (r : Option Row) → IfSome r (λ row. 0 ≤ row.level)
        each None = tt
        each (Some row) = omega arith
