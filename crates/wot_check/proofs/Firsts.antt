-- The first key of a list whose row doesn't stand, step by step, and what it is of a walk over all keys.
use Rattle.std.proofs.Common.{◌≡◌, ◌+◌, ◌<◌, ◌≤◌, ◌||◌, not, zero, suc, ℕ, Bool, true, false, cond, List, length, drop, get_or, Option, Some, None, is_some, option_and_then, refl, sym, ap, subst, ◌∙◌, arith}
use Rattle.std.specs.Bool.{Decides}
use Rattle.std.specs.FinMap as finmap
use Rattle.std.proofs.lemmas.Bool.{not-false, not-true, true≢false}
use Rattle.std.proofs.lemmas.Bool.Decides.{same_from_decides}
use Rattle.std.proofs.lemmas.List.{at_drop_more}
use Rattle.std.proofs.lemmas.List.Sums.{sum_by-drop_more}
use Rattle.wot_types.specs.State.{State}
use Rattle.wot_types.specs.Candidates.{RowMap}
use Rattle.wot_types.specs.Keyring.{Keyring, certs_at}
use Rattle.wot_types.specs.Levels.{kept_or, rows_of}
use Rattle.wot_levels.specs.Frontier.{weight}
use Rattle.wot_levels.specs.Given.{given_row, row_at_level}
use Rattle.wot_check.specs.declared.fault.RowFault.{RowFault}
use Rattle.wot_check.specs.Comparison.{first_fallen, stands}
use Rattle.wot_check.specs.KeyWalk.{IsWalk, is_checked}
use Rattle.wot_check.specs.Stored.{AllStand, IsFaultAt, IsLeastFault, Stands, row_below}
use Rattle.wot_check.proofs.Local.{rows_stand, standing_rows}
use Rattle.wot_check.proofs.SameRows.{stands_decided}
use Rattle.wot_check.proofs.Walked.{IsLeastFailing, least_failing}

-- the certifications on the keys from one place on are those on the key there and on the keys behind it
pub weight_on : (keys : Keyring) (ids : List ℕ) (i id : ℕ) → i < length ids → id ≡ get_or ids i id → weight keys (drop i ids) ≡ certs_at keys id + weight keys (drop (i + 1) ids)
weight_on keys ids i id inside at = sum_by-drop_more (certs_at keys) ids i id inside ∙ ap (λ x. certs_at keys x + weight keys (drop (i + 1) ids)) (sym at)

module _ (s : State) (rows : RowMap) where
  -- ---- one key on

  module _ (ids : List ℕ) (i id : ℕ) (b : Bool) (inside : i < length ids) (at : id ≡ get_or ids i id) (decided : Decides b (Stands s rows id)) where
    one_on : first_fallen s rows (drop i ids) ≡ cond (not b) (Some id) (first_fallen s rows (drop (i + 1) ids))
    one_on =
        at_drop_more (first_fallen s rows) ids i id inside
        ∙ ap (λ x. cond (not (stands s rows x)) (Some x) (first_fallen s rows (drop (i + 1) ids))) (sym at)
        ∙ ap (λ t. cond (not t) (Some id) (first_fallen s rows (drop (i + 1) ids))) (same_from_decides (stands s rows id) b (stands_decided s rows id) decided)

    pub fallen_here : b ≡ false → Some id ≡ first_fallen s rows (drop i ids)
    fallen_here is = sym (one_on ∙ ap (λ t. cond (not t) (Some id) (first_fallen s rows (drop (i + 1) ids))) is)

    pub stands_here : b ≡ true → first_fallen s rows (drop (i + 1) ids) ≡ first_fallen s rows (drop i ids)
    stands_here is = sym (one_on ∙ ap (λ t. cond (not t) (Some id) (first_fallen s rows (drop (i + 1) ids))) is)

  -- ---- all keys

  -- a key of neither the keyring nor the rows is given none
  none_given : (id n : ℕ) → finmap.get s.keys id ≡ None → row_below s rows id n ≡ None
  unfolding row_below
  none_given id zero strange = refl
  none_given id (suc n) strange =
      ap (λ r. kept_or r (given_row s rows n id)) (none_given id n strange) ∙ ap (option_and_then (row_at_level s rows n id)) strange

  stranger_stands : (id : ℕ) → is_checked s.keys rows id ≡ false → not (stands s rows id) ≡ false
  stranger_stands id strange =
      let apart = none_of_both (finmap.get s.keys id) (finmap.get rows id) strange in
      ap not ((stands_decided s rows id).1 (apart.1 ∙ sym (none_given id s.options.depth apart.0)))
    where
      none_of_both : {X Y : Type 0} (a : Option X) (b : Option Y) → (is_some a || is_some b) ≡ false → (a ≡ None) × (b ≡ None)
      none_of_both None None is = (refl, refl)
      none_of_both None (Some y) is = absurd (true≢false is)
      none_of_both (Some x) b is = absurd (true≢false is)

  stand_from : (id : ℕ) → not (stands s rows id) ≡ false → Stands s rows id
  stand_from id is = (stands_decided s rows id).0 (not-false (stands s rows id) is)

  module _ (ids : List ℕ) (walk : IsWalk (is_checked s.keys rows) None ids) where
    least : IsLeastFailing (λ id. not (stands s rows id)) None (first_fallen s rows ids)
    least = least_failing (is_checked s.keys rows) (λ id. not (stands s rows id)) stranger_stands None ids walk

    pub none_fallen : None ≡ first_fallen s rows ids → AllStand s rows
    none_fallen is id = stand_from id (subst (IsLeastFailing (λ id. not (stands s rows id)) None) (sym is) least id tt)

    pub least_fallen : (id : ℕ) (fault : RowFault) → Some id ≡ first_fallen s rows ids → IsFaultAt s rows id fault → IsLeastFault s rows fault
    least_fallen id fault is both =
        let first = subst (IsLeastFailing (λ id. not (stands s rows id)) None) (sym is) least in
        let same = both.of_key in
        record {
          both = subst (λ k. IsFaultAt s rows k fault) (sym same) both;
          falls = λ stand. true≢false (sym ((stands_decided s rows id).1 (subst (Stands s rows) same stand)) ∙ not-true (stands s rows id) first.0);
          least = λ x less. stand_from x (first.2 x tt (omega (arith, less, same)));
        }

  -- ---- the rows of the state

  pub whole_from : 1 ≤ s.options.depth → AllStand s rows → rows ≡ rows_of s
  whole_from some stand = standing_rows s rows stand some

  pub not_whole : 1 ≤ s.options.depth → (fault : RowFault) → IsLeastFault s rows fault → rows ≡ rows_of s → ⊥
  not_whole some fault is whole = is.falls (subst (λ m. Stands s m fault.key) (sym whole) (rows_stand s some fault.key))
