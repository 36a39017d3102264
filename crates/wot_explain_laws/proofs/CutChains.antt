-- Chains stay within a set that has with each introducer whoever delegated to it, and there they are the same in two tables that agree on it.
use Rattle.std.proofs.Common.{◌≡◌, ◌-◌, ◌≤◌, ◌==◌, inl, inr, ℕ, zero, suc, true, false, cond, List, [], ◌∷◌, Option, Some, None, option_and_then, option_map, refl, sym, ap, ◌∙◌, arith}
use Rattle.std.specs.FinMap as finmap
use Rattle.std.specs.FinMap.{same_map, nat_cmp-IsAntisymmetric}
use Rattle.std.specs.List.{list_all}
use Rattle.std.specs.Option.{option_map_or}
use Rattle.std.specs.Cmp.{nat_cmp_total}
use Rattle.std.proofs.lemmas.Bool.{or_right}
use Rattle.std.proofs.lemmas.Bool.Decides.{nat_tests}
use Rattle.wot_types.specs.declared.placed.Placed.{Placed}
use Rattle.wot_types.specs.declared.row.Row.{Row}
use Rattle.wot_types.specs.State.{State}
use Rattle.wot_types.specs.Candidates.{RowMap, chain_admits, chain_of, chain_within, delegator, if_below}
use Rattle.wot_types.specs.Levels.{delegation, rows_upto, trust_of_owner}
use Rattle.wot_types.specs.Scope.{admits}
use Rattle.wot_types.specs.Explanation.{KeySet, are_candidates, first_full, from_some, is_issuer, level_rests_on, rests_on, row_rests_on}
use Rattle.wot_types.proofs.Chains.{delegator_at}
use Rattle.wot_types.proofs.LevelLemmas.{IsMadeAt, made, row_by_level, some_none, stays_to_the_end, via_by}
use Rattle.wot_types.proofs.MapLemmas.{get_only}

-- two tables of rows agree on the set
abbrev pub AgreeOn : KeySet → RowMap → RowMap → Type 0
AgreeOn keep rows rows' = (y : ℕ) → keep y ≡ true → finmap.get rows' y ≡ finmap.get rows y

-- with each introducer the set has whoever delegated to it
abbrev pub HasVias : KeySet → RowMap → Type 0
HasVias keep rows = (y z : ℕ) (row : Row) → keep y ≡ true → finmap.get rows y ≡ Some row → row.via ≡ Some z → keep z ≡ true

module _ (keep : KeySet) (rows rows' : RowMap) (same : AgreeOn keep rows rows') (vias : HasVias keep rows) where
  same_delegator : (y : ℕ) (row : Row) → keep y ≡ true → finmap.get rows y ≡ Some row → delegator rows' row ≡ delegator rows row
  same_delegator y row kept at = by row.via refl
    where
      by : (via : Option ℕ) → row.via ≡ via → option_and_then (if_below row.level) (option_and_then (finmap.get rows') via) ≡ option_and_then (if_below row.level) (option_and_then (finmap.get rows) via)
      by None is = refl
      by (Some z) is = ap (option_and_then (if_below row.level)) (same z (vias y z row kept at is))

  kept_within : (i y : ℕ) (row : Row) → keep y ≡ true → finmap.get rows y ≡ Some row → chain_within i rows' row ≡ chain_within i rows row
  unfolding chain_within
  kept_within zero y row kept at = refl
  kept_within (suc i) y row kept at =
      ap (λ d. row ∷ option_map_or (chain_within i rows') d []) (same_delegator y row kept at)
      ∙ ap (λ xs. row ∷ xs) (elim (delegator rows row) as (λ d. delegator rows row ≡ d → option_map_or (chain_within i rows') d [] ≡ option_map_or (chain_within i rows) d []) [
        | None ↦ λ _. refl
        | Some above ↦ λ is.
            let found = delegator_at rows row above is in
            kept_within i found.0 above (vias y found.0 row kept at found.1) found.2
      ] refl)

  pub kept_chain : (y : ℕ) (row : Row) → keep y ≡ true → finmap.get rows y ≡ Some row → chain_of rows' row ≡ chain_of rows row
  kept_chain y row kept at = kept_within row.level y row kept at

  pub kept_admits : (y : ℕ) (row : Row) (text : List ℕ) → keep y ≡ true → finmap.get rows y ≡ Some row → chain_admits rows' row text ≡ chain_admits rows row text
  kept_admits y row text kept at = ap (list_all (λ link. admits link.scope text)) (kept_chain y row kept at)

-- ---- the part of a table that belongs to the set

abbrev pub only : KeySet → RowMap → RowMap
only keep rows = finmap.retain_keys rows keep

pub only_same : (keep : KeySet) (rows rows' : RowMap) → AgreeOn keep rows rows' → only keep rows' ≡ only keep rows
only_same keep rows rows' same =
    same_map nat_cmp_total nat_cmp-IsAntisymmetric (only keep rows') (only keep rows) (λ q.
    get_only rows' keep q
    ∙ elim (keep q) as (λ b. keep q ≡ b → cond b (finmap.get rows' q) None ≡ cond b (finmap.get rows q) None) [
      | true ↦ λ here. same q here
      | false ↦ λ _. refl
    ] refl
    ∙ sym (get_only rows keep q))

pub only_agrees : (keep : KeySet) (rows : RowMap) → AgreeOn keep rows (only keep rows)
only_agrees keep rows y kept = get_only rows keep y ∙ ap (λ b. cond b (finmap.get rows y) None) kept

-- a row of the part is the key's, which is of the set
pub of_the_part : (keep : KeySet) (rows : RowMap) (q : ℕ) (row : Row) → finmap.get (only keep rows) q ≡ Some row → (keep q ≡ true) × (finmap.get rows q ≡ Some row)
of_the_part keep rows q row is = elim (keep q) as (λ b. cond b (finmap.get rows q) None ≡ Some row → (b ≡ true) × (finmap.get rows q ≡ Some row)) [
  | true ↦ λ at. (refl, at)
  | false ↦ λ none. absurd (some_none row (sym none))
] (sym (get_only rows keep q) ∙ is)

-- ---- a closed set has the delegators

itself : (n : ℕ) → (n == n) ≡ true
itself n = grind (arith, nat_tests)

-- an introducer rests on whoever delegated to it
pub via_rests : (s : State) (n y z : ℕ) (row : Row) → n ≤ s.options.depth - 1 → finmap.get (rows_upto s n) y ≡ Some row → row.via ≡ Some z → rests_on s y z ≡ true
via_rests s n y z row low at via = elim (made s n y row at) as (λ _. rests_on s y z ≡ true) [
  | inl none ↦ absurd (some_none z (sym via ∙ none))
  | inr found ↦ by found.0 found.1 found.2
]
  where
    issued : (q : Option Placed) → option_map (λ p. p.cert.issuer) q ≡ Some z → from_some is_issuer q z ≡ true
    issued None none = cc
    issued (Some p) is = let same : p.cert.issuer ≡ z = cc in ap (λ k. k == z) same ∙ itself z

    by : (m : ℕ) → suc m ≤ n → IsMadeAt s m y row → rests_on s y z ≡ true
    by m sooner it =
        let rows = rows_upto s m in
        let d = delegation s rows it.key in
        let level = ap (λ (r : Row). r.level) it.made ∙ row_by_level rows y (suc m) (trust_of_owner s it.key) d in
        let issuer = sym (via_by rows y (suc m) (trust_of_owner s it.key) d) ∙ sym (ap (λ (r : Row). r.via) it.made) ∙ via in
        ap (λ o. from_some (row_rests_on s y) o z) (stays_to_the_end s (suc m) y row (omega (arith, sooner, low)) it.at)
        ∙ ap (λ o. from_some (λ k. level_rests_on s k row.level) o z) it.is
        ∙ ap (λ l. level_rests_on s it.key l z) level
        ∙ or_right (from_some (are_candidates s rows) (first_full s rows it.key) z) (from_some is_issuer d z) (issued d issuer)

pub has_vias : (s : State) (keep : KeySet) → ((z y : ℕ) → keep z ≡ true → rests_on s z y ≡ true → keep y ≡ true) → (n : ℕ) → n ≤ s.options.depth - 1 → HasVias keep (rows_upto s n)
has_vias s keep closed n low y z row kept at via = closed y z kept (via_rests s n y z row low at via)
