-- The rows of the levels below one are those of every later level, as far as they are of lower levels.
use Rattle.std.proofs.Common.{◌≡◌, ◌+◌, ◌-◌, ◌<◌, ◌≤◌, ◌==◌, ◌&&◌, ℕ, zero, suc, true, false, cond, nat_lt, Option, Some, None, option_and_then, IfSome, refl, sym, ap, subst, ◌∙◌, arith}
use Rattle.std.specs.FinMap as map
use Rattle.std.specs.FinMap.{get-empty, nat_cmp-IsAntisymmetric, same_map}
use Rattle.std.specs.Cmp.{nat_cmp_total}
use Rattle.std.specs.Ordering.{nat_cmp}
use Rattle.std.proofs.lemmas.Bool.Decides.{nat_tests}
use Rattle.wot_types.specs.declared.key.Key.{Key}
use Rattle.wot_types.specs.declared.row.Row.{Row}
use Rattle.wot_types.specs.declared.trust.Trust.TheVariants.{Ultimate}
use Rattle.wot_types.specs.State.{State}
use Rattle.wot_types.specs.Candidates.{RowMap}
use Rattle.wot_types.specs.Expiry.{key_is_live}
use Rattle.wot_types.specs.Levels.{delegation, first_row, has_full_user, kept_or, new_row, row_by, rows_of, rows_upto, trust_of_owner}
use Rattle.wot_types.specs.Trust.{is_ultimate}
use Rattle.wot_types.proofs.LevelLemmas.{get_first, get_next, level_le, no_key, row_by_level}
use Rattle.wot_types.proofs.MapBy.{get-map_by}
use Rattle.wot_levels.specs.Given.{given_row, if_below, row_at_level, rows_below}
use Rattle.wot_live.proofs.BeforeLevels.{row_below, rows_before}

is_zero : (n : ℕ) → (n == 0) ≡ true → n ≡ 0
is_zero n h = grind (arith, nat_tests)

not_zero : (n : ℕ) → (suc n == 0) ≡ false
not_zero n = grind (arith, nat_tests)

-- a row that is given at a level is of that level
pub level_at : (s : State) (rows : RowMap) (n id : ℕ) (key : Key) → IfSome (row_at_level s rows n id key) (λ row. row.level ≡ n)
level_at s rows n id key =
    let lower = rows_below n rows in
    elim (n == 0) as (λ b. (n == 0) ≡ b → IfSome (cond b (first_row s id key) (new_row s lower n id key)) (λ row. row.level ≡ n)) [
      | true ↦ λ zero. elim (key_is_live s.date key && is_ultimate (trust_of_owner s key)) as
          (λ b. IfSome (cond b (Some (record { key = id; level = 0; trust = Ultimate; left = 0; scope = None; via = None })) None) (λ (row : Row). row.level ≡ n)) [
            | true ↦ sym (is_zero n zero)
            | false ↦ tt
          ]
      | false ↦ λ _. elim (key_is_live s.date key && has_full_user s lower key) as
          (λ b. IfSome (cond b (Some (row_by lower id n (trust_of_owner s key) (delegation s lower key))) None) (λ row. row.level ≡ n)) [
            | true ↦ row_by_level lower id n (trust_of_owner s key) (delegation s lower key)
            | false ↦ tt
          ]
    ] refl

pub level_given : (s : State) (rows : RowMap) (n id : ℕ) → IfSome (given_row s rows n id) (λ row. row.level ≡ n)
level_given s rows n id = elim (map.get s.keys id) as (λ o. IfSome (option_and_then (row_at_level s rows n id) o) (λ row. row.level ≡ n)) [
  | None ↦ tt
  | Some key ↦ level_at s rows n id key
]

-- ---- the parts of an optional row

pub low_stays : (n : ℕ) (o : Option Row) → IfSome o (λ row. row.level < n) → row_below n o ≡ o
low_stays n None h = refl
low_stays n (Some row) h = let low : nat_lt row.level n ≡ true = grind (arith, nat_tests) in ap (λ b. cond b (Some row) None) low

pub high_goes : (n : ℕ) (o : Option Row) → IfSome o (λ row. n ≤ row.level) → row_below n o ≡ None
high_goes n None h = refl
high_goes n (Some row) h = let high : nat_lt row.level n ≡ false = grind (arith, nat_tests) in ap (λ b. cond b (Some row) None) high

pub lower_part : (n m : ℕ) (o : Option Row) → n ≤ m → row_below n (row_below m o) ≡ row_below n o
lower_part n m None h = refl
lower_part n m (Some row) h =
    elim (nat_lt row.level m) as (λ b. nat_lt row.level m ≡ b → row_below n (cond b (Some row) None) ≡ row_below n (Some row)) [
      | true ↦ λ _. refl
      | false ↦ λ high. sym (high_goes n (Some row) (far high))
    ] refl
  where
    far : nat_lt row.level m ≡ false → n ≤ row.level
    far high = grind (arith, nat_tests)

pub get_below : (n : ℕ) (rows : RowMap) (x : ℕ) → map.get (rows_below n rows) x ≡ row_below n (map.get rows x)
get_below n rows x = get-map_by (λ _ row. if_below n row) rows x

-- ---- levels

module _ (t : State) where
  pub no_key_before : (n x : ℕ) → map.get t.keys x ≡ None → map.get (rows_before t n) x ≡ None
  no_key_before zero x none = get-empty nat_cmp x
  no_key_before (suc n) x none = no_key t n x none

  before_low : (n x : ℕ) → IfSome (map.get (rows_before t n) x) (λ row. row.level < n)
  before_low zero x = subst (λ o. IfSome o (λ (row : Row). row.level < zero)) (sym (get-empty nat_cmp x)) tt
  before_low (suc n) x = elim (map.get (rows_upto t n) x) as (λ o. map.get (rows_upto t n) x ≡ o → IfSome o (λ row. row.level < suc n)) [
    | None ↦ λ _. tt
    | Some row ↦ λ is. let low = level_le t n x row is in omega (arith, low)
  ] refl

  pub before_itself : (n x : ℕ) → row_below n (map.get (rows_before t n) x) ≡ map.get (rows_before t n) x
  before_itself n x = low_stays n (map.get (rows_before t n) x) (before_low n x)

  pub before_below_itself : (n : ℕ) → rows_below n (rows_before t n) ≡ rows_before t n
  before_below_itself n = same_map nat_cmp_total nat_cmp-IsAntisymmetric _ _ (λ x. get_below n (rows_before t n) x ∙ before_itself n x)

  -- the next level's rows, over any rows whose lower ones are right
  pub get_step : (n : ℕ) (rows : RowMap) (x : ℕ) → rows_below n rows ≡ rows_before t n
      → map.get (rows_before t (suc n)) x ≡ option_and_then (λ key. kept_or (map.get (rows_before t n) x) (row_at_level t rows n x key)) (map.get t.keys x)
  get_step zero rows x is =
      get_first t x
      ∙ elim (map.get t.keys x) as (λ o. option_and_then (first_row t x) o ≡ option_and_then (λ key. kept_or (map.get (rows_before t zero) x) (row_at_level t rows zero x key)) o) [
        | None ↦ refl
        | Some key ↦ sym (ap (λ r. kept_or r (row_at_level t rows zero x key)) (get-empty nat_cmp x))
      ]
  get_step (suc n) rows x is =
      get_next t n x
      ∙ elim (map.get t.keys x) as (λ o. option_and_then (λ key. kept_or (map.get (rows_upto t n) x) (new_row t (rows_upto t n) (suc n) x key)) o
      ≡ option_and_then (λ key. kept_or (map.get (rows_upto t n) x) (row_at_level t rows (suc n) x key)) o) [
        | None ↦ refl
        | Some key ↦
            ap (kept_or (map.get (rows_upto t n) x)) (ap (λ r. new_row t r (suc n) x key) (sym is)
            ∙ ap (λ b. cond b (first_row t x key) (new_row t (rows_below (suc n) rows) (suc n) x key)) (sym (not_zero n)))
      ]

  one_more : (n q x : ℕ) → n ≤ q → row_below n (map.get (rows_before t (suc q)) x) ≡ row_below n (map.get (rows_before t q) x)
  one_more n q x h =
      let rows = rows_before t q in
      ap (row_below n) (get_step q rows x (before_below_itself q))
      ∙ elim (map.get t.keys x) as (λ o. map.get t.keys x ≡ o → row_below n (option_and_then (λ key. kept_or (map.get rows x) (row_at_level t rows q x key)) o) ≡ row_below n (map.get rows x)) [
        | None ↦ λ none. sym (ap (row_below n) (no_key_before q x none))
        | Some key ↦ λ _. elim (map.get rows x) as (λ r. row_below n (kept_or r (row_at_level t rows q x key)) ≡ row_below n r) [
          | Some row ↦ refl
          | None ↦ high_goes n (row_at_level t rows q x key) (far key (row_at_level t rows q x key) (level_at t rows q x key))
        ]
      ] refl
    where
      far : (key : Key) (o : Option Row) → IfSome o (λ row. row.level ≡ q) → IfSome o (λ row. n ≤ row.level)
      far key None e = tt
      far key (Some row) e = omega (arith, e, h)

  -- lower rows are a part of all later ones
  pub restricted : (n k m x : ℕ) → n + k ≡ m → row_below n (map.get (rows_before t m) x) ≡ map.get (rows_before t n) x
  restricted n zero m x e =
      let same : m ≡ n = omega (arith, e) in
      ap (λ q. row_below n (map.get (rows_before t q) x)) same ∙ before_itself n x
  restricted n (suc k) m x e =
      let there : m ≡ suc (n + k) = omega (arith, e) in
      let low : n ≤ n + k = omega arith in
      ap (λ q. row_below n (map.get (rows_before t q) x)) there ∙ one_more n (n + k) x low ∙ restricted n k (n + k) x refl

  pub of_final : (n x : ℕ) → n ≤ t.options.depth → 1 ≤ t.options.depth → row_below n (map.get (rows_of t) x) ≡ map.get (rows_before t n) x
  of_final n x within some =
      let all : n + (t.options.depth - n) ≡ suc (t.options.depth - 1) = omega (arith, within, some) in
      restricted n (t.options.depth - n) (suc (t.options.depth - 1)) x all
