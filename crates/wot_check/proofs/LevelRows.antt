-- The rows that a level gives, found for some keys and put beside those of lower levels.
use Rattle.std.proofs.Common.{◌≡◌, ◌-◌, ◌<◌, ◌≤◌, ◌==◌, ◌||◌, inl, inr, zero, suc, ℕ, Bool, true, false, cond, List, [], ◌∷◌, ◌++◌, nat_cmp, Option, Some, None, IfSome, is_some, option_and_then, refl, sym, ap, ◌∙◌, arith}
use Rattle.std.specs.List.{cons_option, filter_map, list_any}
use Rattle.std.specs.Option.{option_or}
use Rattle.std.specs.FinMap as finmap
use Rattle.std.specs.FinMap.{get-empty, nat_cmp-IsAntisymmetric, same_map}
use Rattle.std.specs.Cmp.{nat_cmp_total}
use Rattle.std.proofs.lemmas.Bool.{cases_order}
use Rattle.std.proofs.lemmas.List.Elements.{filter_map-append}
use Rattle.std.proofs.lemmas.List.Folds.{find-append}
use Rattle.std.proofs.lemmas.Bool.Decides.{nat_tests}
use Rattle.wot_types.proofs.Optionals.{or_none}
use Rattle.wot_types.specs.declared.key.Key.{Key}
use Rattle.wot_types.specs.declared.placed.Placed.{Placed}
use Rattle.wot_types.specs.declared.row.Row.{Row}
use Rattle.wot_types.specs.declared.trust.Trust.{Trust}
use Rattle.wot_types.specs.State.{State}
use Rattle.wot_types.specs.Candidates.{RowMap}
use Rattle.wot_types.specs.Levels.{delegation, first_row, kept_or, new_row, row_by, rows_upto, trust_of_owner}
use Rattle.wot_types.specs.Next.{IsAfter}
use Rattle.wot_levels.specs.Given.{given_row, row_at_level, rows_below}
use Rattle.wot_check.specs.KeyWalk.{IsWalk}
use Rattle.wot_check.specs.Recount.{IsSpread, fresh_row, fresh_rows, row_among}
use Rattle.wot_check.specs.Stored.{row_below}
use Rattle.wot_levels.proofs.LevelCuts.{given_later, next_at}
use Rattle.wot_check.proofs.GivenSoFar.{first_at}
use Rattle.wot_check.proofs.Local.{upto_below}

-- ---- the key of a row

abbrev pub IsOf : ℕ → Option Row → Type 0
IsOf id r = IfSome r (λ (row : Row). row.key ≡ id)

key_by : (rows : RowMap) (id level : ℕ) (own : Trust) (p : Option Placed) → (row_by rows id level own p).key ≡ id
key_by rows id level own None = refl
key_by rows id level own (Some p) = refl

key_if : (id : ℕ) (b : Bool) (row : Row) → row.key ≡ id → IsOf id (cond b (Some row) None)
key_if id true row is = is
key_if id false row is = tt

given_key : (s : State) (rows : RowMap) (level id : ℕ) → IsOf id (given_row s rows level id)
given_key s rows level id =
    elim (finmap.get s.keys id) as (λ k. IsOf id (option_and_then (row_at_level s rows level id) k)) [
      | None ↦ tt
      | Some key ↦ elim (level == 0) as (λ b. IsOf id (cond b (first_row s id key) (new_row s (rows_below level rows) level id key))) [
        | true ↦ key_if id _ _ refl
        | false ↦ key_if id _ _ (key_by (rows_below level rows) id level (trust_of_owner s key) (delegation s (rows_below level rows) key))
      ]
    ]

pub fresh_key : (s : State) (rows : RowMap) (level id : ℕ) → IsOf id (fresh_row s rows level id)
fresh_key s rows level id = elim (is_some (finmap.get rows id)) as (λ b. IsOf id (cond b None (given_row s rows level id))) [ true ↦ tt | false ↦ given_key s rows level id ]

-- ---- what is found among the rows of some keys

pub among_spread : (a b : List Row) (id : ℕ) → row_among (a ++ b) id ≡ option_or (row_among a id) (row_among b id)
among_spread a b id = find-append (λ (row : Row). row.key == id) a b

pub fresh_spread : (s : State) (rows : RowMap) (level : ℕ) → IsSpread (fresh_rows s rows level)
fresh_spread s rows level = record { none = refl; both = λ a b. filter_map-append (fresh_row s rows level) a b }

module _ (fresh : ℕ → Option Row) (own : (id : ℕ) → IsOf id (fresh id)) where
  any_of : ℕ → List ℕ → Bool
  any_of id ids = list_any (λ x. x == id) ids

  found_first : (id x : ℕ) (r : Option Row) (left : List Row) (there : Bool) → IsOf x r → r ≡ fresh x → row_among left id ≡ cond there (fresh id) None
      → row_among (cons_option r left) id ≡ cond ((x == id) || there) (fresh id) None
  found_first id x None left there of is rest =
      rest ∙ elim (x == id) as (λ b. (x == id) ≡ b → cond there (fresh id) None ≡ cond (b || there) (fresh id) None) [
        | true ↦ λ same.
            let at : x ≡ id = grind (arith, nat_tests, same) in
            let none : fresh id ≡ None = sym (is ∙ ap fresh at) in
            ap (λ r. cond there r None) none ∙ neither there ∙ sym none
        | false ↦ λ _. refl
      ] refl
    where
      neither : (b : Bool) → ◌≡◌ {A = Option Row} (cond b None None) None
      neither true = refl
      neither false = refl
  found_first id x (Some row) left there of is rest =
      elim (x == id) as (λ b. (x == id) ≡ b → cond (row.key == id) (Some row) (row_among left id) ≡ cond (b || there) (fresh id) None) [
        | true ↦ λ same.
            let at : x ≡ id = grind (arith, nat_tests, same) in
            let its : (row.key == id) ≡ true = ap (λ k. k == id) of ∙ same in
            ap (λ b. cond b (Some row) (row_among left id)) its ∙ is ∙ ap fresh at
        | false ↦ λ other.
            let its : (row.key == id) ≡ false = ap (λ k. k == id) of ∙ other in
            ap (λ b. cond b (Some row) (row_among left id)) its ∙ rest
      ] refl

  found_among : (ids : List ℕ) (id : ℕ) → row_among (filter_map fresh ids) id ≡ cond (list_any (λ x. x == id) ids) (fresh id) None
  found_among [] id = refl
  found_among (x ∷ ids) id = found_first id x (fresh x) (filter_map fresh ids) (list_any (λ x. x == id) ids) (own x) refl (found_among ids id)

-- ---- a walk meets each key

module _ (has : ℕ → Bool) where
  not_same : (x id : ℕ) → x < id → (x == id) ≡ false
  not_same x id less = grind (arith, nat_tests, less)

  walk_misses : (id : ℕ) (after : ℕ) (ids : List ℕ) → IsWalk has (Some after) ids → id ≤ after → list_any (λ x. x == id) ids ≡ false
  walk_misses id after [] walk low = refl
  walk_misses id after (x ∷ ids) walk low =
      let above : (x == id) ≡ false = more_than x id (omega (arith, walk.0.1, low)) in
      ap (λ b. b || list_any (λ x. x == id) ids) above ∙ walk_misses id x ids walk.1 (omega (arith, walk.0.1, low))
    where
      more_than : (x id : ℕ) → id < x → (x == id) ≡ false
      more_than x id less = grind (arith, nat_tests, less)

  pub walk_meets : (id : ℕ) (after : Option ℕ) (ids : List ℕ) → IsWalk has after ids → IsAfter after id → list_any (λ x. x == id) ids ≡ has id
  walk_meets id after [] walk later = sym (walk id later)
  walk_meets id after (x ∷ ids) walk later =
      elim (cases_order x id) as (λ _. ((x == id) || list_any (λ x. x == id) ids) ≡ has id) [
        | inl same ↦
            let test : (x == id) ≡ true = grind (arith, nat_tests, same) in
            ap (λ b. b || list_any (λ x. x == id) ids) test ∙ sym (ap has (sym same) ∙ walk.0.0)
        | inr order ↦ elim order as (λ _. ((x == id) || list_any (λ x. x == id) ids) ≡ has id) [
          | inl below ↦ ap (λ b. b || list_any (λ x. x == id) ids) (not_same x id below) ∙ walk_meets id (Some x) ids walk.1 below
          | inr above ↦
              let test : (x == id) ≡ false = grind (arith, nat_tests, above) in
              ap (λ b. b || list_any (λ x. x == id) ids) test ∙ walk_misses id x ids walk.1 (omega (arith, above)) ∙ sym (walk.0.2 id later above)
        ]
      ]

-- ---- a level

-- rows with what a level gives the keys of the keyring are those of the level
pub with_fresh : (s : State) (rows : RowMap) (level : ℕ) (ids : List ℕ) (id : ℕ) → IsWalk (λ id. finmap.contains_key s.keys id) None ids
    → option_or (row_among (fresh_rows s rows level ids) id) (finmap.get rows id) ≡ kept_or (finmap.get rows id) (given_row s rows level id)
with_fresh s rows level ids id walk =
    ap (λ r. option_or r (finmap.get rows id))
    (found_among (fresh_row s rows level) (fresh_key s rows level) ids id ∙ ap (λ b. cond b (fresh_row s rows level id) None) (walk_meets (λ id. finmap.contains_key s.keys id) id None ids walk tt))
    ∙ told (finmap.get rows id) (finmap.get s.keys id) (row_at_level s rows level id)
  where
    told : (old : Option Row) (key : Option Key) (rule : Key → Option Row)
        → option_or (cond (is_some key) (cond (is_some old) None (option_and_then rule key)) None) old ≡ kept_or old (option_and_then rule key)
    told None None rule = refl
    told None (Some key) rule = or_none (rule key)
    told (Some row) None rule = refl
    told (Some row) (Some key) rule = refl

pub level_zero : (s : State) (none next : RowMap) → none ≡ finmap.empty → ((id : ℕ) → finmap.get next id ≡ kept_or (finmap.get none id) (given_row s none 0 id)) → next ≡ rows_upto s 0
unfolding row_below
level_zero s none next no_rows is = same_map nat_cmp_total nat_cmp-IsAntisymmetric _ _ (λ id.
    let empty : finmap.get none id ≡ None = ap (λ (m : RowMap). finmap.get m id) no_rows ∙ get-empty nat_cmp id in
    is id ∙ ap (λ r. kept_or r (given_row s none 0 id)) empty ∙ sym (first_at s none id))

pub level_more : (s : State) (level : ℕ) (rows next : RowMap) → 1 ≤ level → rows ≡ rows_upto s (level - 1)
    → ((id : ℕ) → finmap.get next id ≡ kept_or (finmap.get rows id) (given_row s rows level id)) → next ≡ rows_upto s level
level_more s zero rows next positive so_far is = absurd (omega (arith, positive))
level_more s (suc n) rows next positive so_far is =
    let back : suc n - 1 ≡ n = omega arith in
    let all : rows ≡ rows_upto s n = so_far ∙ ap (rows_upto s) back in
    let below : rows_below (suc n) rows ≡ rows_upto s n = ap (rows_below (suc n)) all ∙ upto_below s n n 0 (omega arith) in
    same_map nat_cmp_total nat_cmp-IsAntisymmetric _ _ (λ id.
    is id
    ∙ ap (kept_or (finmap.get rows id)) (given_later s rows n id ∙ ap (λ m. option_and_then (new_row s m (suc n) id) (finmap.get s.keys id)) below)
    ∙ ap (λ m. kept_or (finmap.get m id) (option_and_then (new_row s (rows_upto s n) (suc n) id) (finmap.get s.keys id))) all
    ∙ sym (next_at s n id))
