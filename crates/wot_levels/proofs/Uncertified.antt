-- A key that no introducer certified: it has the candidates that it had without introducers, which are none.
use Rattle.std.proofs.Common.{◌≡◌, ◌≤◌, ◌==◌, ◌&&◌, ◌||◌, ℕ, Bool, true, false, cond, List, [], ◌∷◌, None, Some, count_by, is_some, refl, sym, ap, ◌∙◌, arith}
use Rattle.std.specs.FinMap as finmap
use Rattle.std.specs.FinMap.{get-empty, len-empty, len-entries}
use Rattle.std.specs.List.{AllByRecursion, Contains, list_any}
use Rattle.std.specs.Option.{option_map_or}
use Rattle.std.specs.Ordering.{nat_cmp}
use Rattle.std.proofs.lemmas.Bool.Decides.{nat_tests}
use Rattle.std.proofs.lemmas.List.{nil_from_length}
use Rattle.wot_types.specs.declared.key.Key.{Key}
use Rattle.wot_types.specs.declared.row.Row.{Row}
use Rattle.wot_types.specs.declared.trust.Trust.{Trust}
use Rattle.wot_types.specs.State.{State}
use Rattle.wot_types.specs.Candidates.{RowMap, candidates, chain, chain_of, count_of, is_candidate, is_full}
use Rattle.wot_types.specs.Expiry.{is_expired, key_is_live}
use Rattle.wot_types.specs.Indexes.{key_issuers}
use Rattle.wot_types.specs.Levels.{delegation, has_full_user, live_spots, new_row, row_by, trust_of_owner}
use Rattle.wot_types.specs.NextCheck.{key_expiries}
use Rattle.wot_types.specs.Selection.{Spot}
use Rattle.wot_types.specs.Trust.{is_below_marginal, is_fully_trusted, is_marginal, is_ultimate}
use Rattle.wot_types.proofs.Frames.{issuers_of, new_row_frame}
use Rattle.wot_levels.specs.Frontier.{AreCertified}

abbrev pub no_rows : RowMap
no_rows = finmap.empty

pub same_dates : (date : ℕ) (es : List ℕ) → AllByRecursion (λ e. is_expired e date ≡ is_expired e date) es
same_dates date [] = tt
same_dates date (e ∷ es) = (refl, same_dates date es)

-- ---- without introducers

no_entries : finmap.entries no_rows ≡ []
no_entries = nil_from_length (finmap.entries no_rows) (sym (len-entries no_rows) ∙ len-empty nat_cmp Row)

module _ (s : State) (spot : Spot) where
  none_of : (test : Trust → Bool) → candidates test s spot no_rows ≡ 0
  none_of test = ap (count_by (is_candidate test s no_rows spot)) no_entries

  pub count_without : count_of s spot no_rows ≡ record { ultimate = 0; full = 0; marginal = 0; other = 0 }
  count_without = λ i. record { ultimate = none_of is_ultimate i; full = none_of is_fully_trusted i; marginal = none_of is_marginal i; other = none_of is_below_marginal i }

module _ (s : State) (completes : 1 ≤ s.options.completes) (marginals : 1 ≤ s.options.marginals) where
  none_needed : is_full s.options (record { ultimate = 0; full = 0; marginal = 0; other = 0 }) ≡ false
  none_needed = grind (arith, nat_tests, completes, marginals)

  none_full : (spots : List Spot) → list_any (λ spot. is_full s.options (count_of s spot no_rows)) spots ≡ false
  none_full [] = refl
  none_full (spot ∷ spots) = λ i. (ap (is_full s.options) (count_without s spot) ∙ none_needed) i || none_full spots i

  row_without : (level id : ℕ) (key : Key) → new_row s no_rows level id key ≡ None
  row_without level id key =
      let row = row_by no_rows id level (trust_of_owner s key) (delegation s no_rows key) in
      elim (key_is_live s.date key) as (λ b. cond (b && has_full_user s no_rows key) (Some row) None ≡ None) [
        | true ↦ ap (λ b. cond b (Some row) None) (none_full (live_spots s.date key))
        | false ↦ refl
      ]

-- ---- a key that isn't among those that introducers certified

module _ (s : State) (rows : RowMap) (ids : List ℕ) (all : AreCertified s.keys rows ids) (x : ℕ) (out : Contains ids x → ⊥) (key : Key) (is : finmap.get s.keys x ≡ Some key) where
  -- those who certified it have no row
  without_row : (y : ℕ) → issuers_of key y ≡ true → finmap.get rows y ≡ None
  without_row y its = elim (finmap.get rows y) as (λ r. finmap.get rows y ≡ r → r ≡ None) [
    | None ↦ λ _. refl
    | Some row ↦ λ there. absurd (out (all y x (ap is_some there) (ap (λ o. option_map_or (λ key. list_any (λ n. n == y) (key_issuers key)) o false) is ∙ its)))
  ] refl

  -- and so no chain
  pub without_chain : (y : ℕ) → issuers_of key y ≡ true → chain rows y ≡ chain no_rows y
  without_chain y its = ap (λ r. option_map_or (chain_of rows) r []) (without_row y its) ∙ sym (ap (λ r. option_map_or (chain_of no_rows) r []) (get-empty nat_cmp y))

  pub uncertified_row : 1 ≤ s.options.completes → 1 ≤ s.options.marginals → (level : ℕ) → new_row s rows level x key ≡ None
  uncertified_row completes marginals level =
      new_row_frame s s refl rows no_rows key (same_dates s.date (key_expiries key)) without_chain (λ y _ _. refl) level x refl ∙ row_without s completes marginals level x key
