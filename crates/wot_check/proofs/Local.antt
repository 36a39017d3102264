-- Rows that stand, each against the others, are the rows of the state, and the rows of the state stand.
use Rattle.std.proofs.Common.{◌≡◌, ◌+◌, ◌-◌, ◌≤◌, zero, suc, ℕ, option_and_then, sym, ap, ◌∙◌, arith}
use Rattle.std.specs.FinMap as finmap
use Rattle.std.specs.FinMap.{nat_cmp-IsAntisymmetric, same_map}
use Rattle.std.specs.Cmp.{nat_cmp_total}
use Rattle.wot_types.specs.State.{State}
use Rattle.wot_types.specs.Candidates.{RowMap}
use Rattle.wot_types.specs.Levels.{kept_or, new_row, rows_of, rows_upto}
use Rattle.wot_types.proofs.MapBy.{get-map_by}
use Rattle.wot_levels.specs.Given.{if_below, rows_below}
use Rattle.wot_check.specs.Stored.{AllStand, row_below}
use Rattle.wot_levels.proofs.LevelCuts.{given_later, next_at, upto_cut}
use Rattle.wot_check.proofs.GivenSoFar.{cut, first_at}

module _ (s : State) (rows : RowMap) where
  -- these rows and those of the state agree below a level
  abbrev Agree : ℕ → Type 0
  Agree n = (id : ℕ) → finmap.get (rows_upto s n) id ≡ row_below s rows id (suc n)

  -- where the rows below a level are those of the state, it gives the same
  one_level_more : (n : ℕ) → rows_below (suc n) rows ≡ rows_upto s n → Agree n → Agree (suc n)
  unfolding row_below
  one_level_more n below so_far id =
      next_at s n id
      ∙ ap (λ r. kept_or r (option_and_then (new_row s (rows_upto s n) (suc n) id) (finmap.get s.keys id))) (so_far id)
      ∙ ap (λ m. kept_or (row_below s rows id (suc n)) (option_and_then (new_row s m (suc n) id) (finmap.get s.keys id))) (sym below)
      ∙ ap (kept_or (row_below s rows id (suc n))) (sym (given_later s rows n id))

  module _ (stand : AllStand s rows) where
    below : (n more : ℕ) → more + suc n ≡ s.options.depth → Agree n → rows_below (suc n) rows ≡ rows_upto s n
    below n more within so_far = same_map nat_cmp_total nat_cmp-IsAntisymmetric _ _ (λ id.
        get-map_by (λ _ row. if_below (suc n) row) rows id
        ∙ ap (option_and_then (if_below (suc n))) (stand id)
        ∙ cut s rows id more (suc n) s.options.depth within
        ∙ sym (so_far id))

    agree : (n more : ℕ) → more + suc n ≡ s.options.depth → Agree n
    agree zero more within = λ id. first_at s rows id
    agree (suc n) others within =
        let before = agree n (suc others) (omega (arith, within)) in
        one_level_more n (below n (suc others) (omega (arith, within)) before) before

    pub standing_rows : 1 ≤ s.options.depth → rows ≡ rows_of s
    standing_rows some = same_map nat_cmp_total nat_cmp-IsAntisymmetric _ _ (λ id.
        let last : s.options.depth ≡ suc (s.options.depth - 1) = omega (arith, some) in
        stand id ∙ ap (row_below s rows id) last ∙ sym (agree (s.options.depth - 1) 0 (omega (arith, some)) id))

-- the rows of the state, cut at a level
pub upto_below : (s : State) (top n more : ℕ) → more + n ≡ top → rows_below (suc n) (rows_upto s top) ≡ rows_upto s n
upto_below s top n more within = same_map nat_cmp_total nat_cmp-IsAntisymmetric _ _ (λ id.
    get-map_by (λ _ row. if_below (suc n) row) (rows_upto s top) id ∙ upto_cut s more n top id within)

agree_with_themselves : (s : State) (top n others : ℕ) → others + n ≡ top → Agree s (rows_upto s top) n
agree_with_themselves s top zero others within = λ id. first_at s (rows_upto s top) id
agree_with_themselves s top (suc n) others within =
    one_level_more s (rows_upto s top) n (upto_below s top n (suc others) (omega (arith, within))) (agree_with_themselves s top n (suc others) (omega (arith, within)))

pub rows_stand : (s : State) → 1 ≤ s.options.depth → AllStand s (rows_of s)
rows_stand s some id =
    let last : suc (s.options.depth - 1) ≡ s.options.depth = omega (arith, some) in
    agree_with_themselves s (s.options.depth - 1) (s.options.depth - 1) 0 (omega arith) id ∙ ap (row_below s (rows_of s) id) last
