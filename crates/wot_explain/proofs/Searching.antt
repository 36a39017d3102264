-- A search for the least closed set of introducers, while it lasts.
use Rattle.std.proofs.Common.{◌≡◌, ◌⊎◌, ℕ, true, List}
use Rattle.wot_types.specs.Candidates.{RowMap}
use Rattle.wot_types.specs.Explanation.{KeySet}
use Rattle.wot_levels.specs.Frontier.{among}
use Rattle.wot_explain.specs.declared.found.Found.{Found}
use Rattle.wot_explain.specs.Growth.{IsPartOf, has}

-- what is there is part of the least closed set, and is closed but for those that are still to be looked at
pub record IsSearching (rests : ℕ → KeySet) (start : List ℕ) (rows : RowMap) (found : Found) : Type 0 where
  pub part : IsPartOf rows found.rows
  pub starts : (y : ℕ) → among start y ≡ true → has found y ≡ true
  pub looked : (z y : ℕ) → has found z ≡ true → rests z y ≡ true → (among found.todo z ≡ true) ⊎ (has found y ≡ true)
  pub known : (y : ℕ) → among found.todo y ≡ true → has found y ≡ true
  pub least : (keep : KeySet) → ((y : ℕ) → among start y ≡ true → keep y ≡ true) → ((z y : ℕ) → keep z ≡ true → rests z y ≡ true → keep y ≡ true)
      → (y : ℕ) → has found y ≡ true → keep y ≡ true
