-- The first fault of stored rows as a function of them.
use Rattle.std.specs.Prelude.{ℕ, List, ◌++◌, map, Option, option_map}
use Rattle.std.specs.FinMap as finmap
use Rattle.std.specs.Ordering.{nat_cmp}
use Rattle.wot_types.specs.State.{State}
use Rattle.wot_types.specs.Candidates.{RowMap}
use Rattle.wot_types.specs.Keyring.{Keyring}
use Rattle.wot_check.specs.Comparison.{first_fallen}
use Rattle.wot_check.specs.Stored.{counted_row}
use Rattle.wot_check.specs.declared.fault.RowFault.{RowFault}

abbrev pub marked : {X : Type 0} → finmap.FinMap nat_cmp X → List (ℕ × Unit {0})
marked m = map (λ id. (id, tt)) (finmap.keys m)

-- the keys of the keyring and of the rows, each once, in rising order
abbrev pub checked_ids : Keyring → RowMap → List ℕ
checked_ids keys rows = finmap.keys (finmap.from_entries {R = nat_cmp} (marked keys ++ marked rows))

-- both rows of a key
abbrev pub fault_of : State → RowMap → ℕ → RowFault
fault_of s rows id = record { key = id; stored = finmap.get rows id; counted = counted_row s rows id }

-- those of the first key whose row doesn't stand
abbrev pub first_fault : State → RowMap → Option RowFault
first_fault s rows = option_map (fault_of s rows) (first_fallen s rows (checked_ids s.keys rows))
